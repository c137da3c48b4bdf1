use Rattle.page_trees.proofs.ForeignStarts.{left_foreign}
use Rattle.page_trees.proofs.builder.TreeBuilder.leave_foreign.Goals as goal

pub returns : goal.returns
returns c = record { rule = left_foreign c.args.name c.args.tag.now c.args.self.now c.pop_foreign.new.self _ _ c.pop_foreign.ensures c.html_tag.ensures.rule }
