use Rattle.std.proofs.Common.{◌∙◌, sym}
use Rattle.page_trees.proofs.CharacterTurns.{is_empty_by, take_no_tokens, take_tokens}
use Rattle.page_trees.proofs.builder.TreeBuilder.characters.Goals as goal

pub returns-then-is_empty-clause-rule : goal.returns-then-is_empty-clause-rule
returns-then-is_empty-clause-rule c = take_no_tokens c.args.text.now _ (sym (is_empty_by _) ∙ sym c.is_empty.ensures ∙ c.if-is_empty.true)

pub returns-clause-rule : goal.returns-clause-rule
returns-clause-rule c =
    take_tokens c.args.text.now _ _ _ _ (sym (is_empty_by _) ∙ sym c.is_empty.ensures ∙ c.if-is_empty.false) c.past_line_feed-rest.ensures.rest c.past_line_feed-rest.ensures.value
    c.some_characters.ensures.rule
