use Rattle.page_trees.proofs.BodyStarts.{pre_acts}
use Rattle.page_trees.proofs.builder.TreeBuilder.start_pre.Goals as goal

pub returns-clause-rule : goal.returns-clause-rule
returns-clause-rule c = pre_acts c.args.name c.args.tag.now c.args.self.now c.insert_done.new.self c.insert_done.ensures.rule
