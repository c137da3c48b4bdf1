use Rattle.page_trees.proofs.BodyElements.{quirks_closed, quirks_kept}
use Rattle.page_trees.proofs.builder.TreeBuilder.end_paragraph_before_table.Goals as goal

pub returns-in-Quirks-clause-rule : goal.returns-in-Quirks-clause-rule
returns-in-Quirks-clause-rule c = quirks_kept c.args.self.now c.in-Quirks.is

pub returns-in_default-clause-rule : goal.returns-in_default-clause-rule
returns-in_default-clause-rule c = quirks_closed c.args.self.now c.end_paragraph.new.self c.in_default.not-Quirks c.end_paragraph.ensures.rule
