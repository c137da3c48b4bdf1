use Rattle.std.proofs.Common.{sym, ◌∙◌}
use Rattle.standard_trees.specs.RuleWords.{CloseP}
use Rattle.page_trees.specs.Groups.{closes_p}
use Rattle.page_trees.proofs.BodyStarts.{only_false, only_true}
use Rattle.page_trees.proofs.builder.TreeBuilder.end_paragraph_for.Goals as goal

pub returns-then-ends_paragraph-clause-rule : goal.returns-then-ends_paragraph-clause-rule
returns-then-ends_paragraph-clause-rule c =
    only_true (closes_p c.args.group) CloseP c.args.self.now c.end_paragraph.new.self (sym c.ends_paragraph.ensures ∙ c.if-ends_paragraph.true) c.end_paragraph.ensures.rule

pub returns-else-ends_paragraph-clause-rule : goal.returns-else-ends_paragraph-clause-rule
returns-else-ends_paragraph-clause-rule c = only_false (closes_p c.args.group) CloseP c.args.self.now (sym c.ends_paragraph.ensures ∙ c.if-ends_paragraph.false)
