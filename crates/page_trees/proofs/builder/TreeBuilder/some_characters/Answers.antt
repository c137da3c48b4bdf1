use Rattle.std.proofs.Common.{◌∙◌, sym}
use Rattle.page_trees.proofs.CharacterTurns.{is_empty_by, take_in_text, take_no_text, text_is}
use Rattle.page_trees.proofs.CharactersBehind.{is_true}
use Rattle.page_trees.proofs.TextPieces.{take_plain}
use Rattle.page_trees.proofs.builder.TreeBuilder.some_characters.Goals as goal

pub returns-then-is_empty-clause-rule : goal.returns-then-is_empty-clause-rule
returns-then-is_empty-clause-rule c = take_no_text c.args.text.now _ (sym (is_empty_by _) ∙ sym c.is_empty.ensures ∙ c.if-is_empty.true)

pub returns-then-is_text-clause-rule : goal.returns-then-is_text-clause-rule
returns-then-is_text-clause-rule c =
    take_in_text c.args.text.now _ _ (text_is _ (sym c.is_text.ensures ∙ c.if-is_text.true)) (sym (is_empty_by _) ∙ sym c.is_empty.ensures ∙ c.if-is_empty.false)
    c.put_text.ensures.rule

pub returns-then-not-has_null-clause-rule : goal.returns-then-not-has_null-clause-rule
returns-then-not-has_null-clause-rule c = take_plain c.args.text.now _ _ (is_true _ (sym c.has_null.ensures ∙ c.if-not-has_null.true)) c.stretch.ensures.rule
