use Rattle.page_trees.proofs.FormattingTags.{formatting_ended}
use Rattle.page_trees.proofs.builder.TreeBuilder.end_formatting.Goals as goal

pub returns-clause-rule : goal.returns-clause-rule
returns-clause-rule c formats =
    formatting_ended c.args.name c.args.tag.now c.args.self.now c.adopt.new.self formats c.adopt.ensures.rule
