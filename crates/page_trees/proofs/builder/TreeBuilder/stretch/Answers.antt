use Rattle.std.proofs.Common.{◌∙◌, sym}
use Rattle.page_trees.proofs.CharacterTurns.{is_empty_by, take_apart, take_joined, take_letters, take_spaces, take_words}
use Rattle.page_trees.proofs.builder.TreeBuilder.stretch.Goals as goal

pub returns-then-joins_spaces-clause-rule : goal.returns-then-joins_spaces-clause-rule
returns-then-joins_spaces-clause-rule c =
    take_joined _ _ _ _ c.split_spaces.ensures.rest (sym (is_empty_by _) ∙ sym c.is_empty.ensures ∙ c.if-not-is_empty.true) (sym c.joins_spaces.ensures ∙ c.if-joins_spaces.true) c.run.ensures.rule

pub returns-then-is_empty-clause-rule : goal.returns-then-is_empty-clause-rule
returns-then-is_empty-clause-rule c =
    take_spaces _ _ _ _ _ c.split_spaces.ensures.front c.split_spaces.ensures.rest (sym (is_empty_by _) ∙ sym c.is_empty-2.ensures ∙ c.if-is_empty.true) c.run-2.ensures.rule

pub returns-then-drops_letters-clause-rule : goal.returns-then-drops_letters-clause-rule
returns-then-drops_letters-clause-rule c =
    take_apart _ _ _ _ _ _ c.split_spaces.ensures.front c.split_spaces.ensures.rest c.run-2.ensures.rule c.words.ensures.limits
    (take_words _ _ _ c.words.ensures.rule) (sym (is_empty_by _) ∙ sym c.is_empty-2.ensures ∙ c.if-is_empty.false)

pub returns-clause-rule : goal.returns-clause-rule
returns-clause-rule c =
    take_apart _ _ _ _ _ _ c.split_spaces.ensures.front c.split_spaces.ensures.rest c.run-2.ensures.rule c.run-3.ensures.limits
    (take_letters _ _ _ (sym c.drops_letters.ensures ∙ c.if-drops_letters.false) c.run-3.ensures.rule) (sym (is_empty_by _) ∙ sym c.is_empty-2.ensures ∙ c.if-is_empty.false)
