use Rattle.page_trees.proofs.FormattingTags.{formatting_started}
use Rattle.page_trees.proofs.builder.TreeBuilder.start_formatting.Goals as goal

pub returns-clause-rule : goal.returns-clause-rule
returns-clause-rule c plain =
    formatting_started c.args.name c.args.tag.now c.args.self.now c.start_listed.new.self c.start_listed.result plain c.start_listed.ensures.next c.start_listed.ensures.rule
