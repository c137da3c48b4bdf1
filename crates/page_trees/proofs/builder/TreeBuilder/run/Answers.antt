use Rattle.std.proofs.Common.{◌∙◌, sym}
use Rattle.page_trees.proofs.CharacterTurns.{is_empty_by, take_no_text, take_piece}
use Rattle.page_trees.proofs.builder.TreeBuilder.run.Goals as goal

pub returns-then-not-is_empty-clause-rule : goal.returns-then-not-is_empty-clause-rule
returns-then-not-is_empty-clause-rule c =
    take_piece c.args.kind c.args.text _ _ c.process.ensures.rule (sym (is_empty_by _) ∙ sym c.is_empty.ensures ∙ c.if-not-is_empty.true)

pub returns-else-not-is_empty-clause-rule : goal.returns-else-not-is_empty-clause-rule
returns-else-not-is_empty-clause-rule c cs spelt fits =
    take_no_text c.args.text.now _ (sym (is_empty_by _) ∙ sym c.is_empty.ensures ∙ c.if-not-is_empty.false) cs spelt
