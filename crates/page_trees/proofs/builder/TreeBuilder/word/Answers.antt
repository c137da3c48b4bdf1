use Rattle.std.proofs.Common.{◌∙◌, ◌-◌, ◌≤◌, List, ap, length, subst, sym, ℕ}
use Rattle.page_trees.specs.CharacterTexts.{front_spaces, past_spaces}
use Rattle.page_trees.proofs.TextPieces.{take_word}
use Rattle.page_trees.proofs.WordsApart.{word_less}
use Rattle.page_trees.proofs.builder.TreeBuilder.word.Goals as goal

pub returns-clause-rule : goal.returns-clause-rule
returns-clause-rule c =
    take_word _ _ _ _ _ _ _ c.split_word.ensures.word (c.split_spaces.ensures.front ∙ ap (λ (xs : List ℕ). front_spaces xs) c.split_word.ensures.rest)
    (c.split_spaces.ensures.rest ∙ ap (λ (xs : List ℕ). past_spaces xs) c.split_word.ensures.rest) c.run.ensures.rule c.run-2.ensures.rule c.run-2.ensures.limits

pub returns-clause-less : goal.returns-clause-less
returns-clause-less c =
    subst (λ (xs : List ℕ). length xs ≤ length c.args.text.now - 1)
    (sym (c.split_spaces.ensures.rest ∙ ap (λ (xs : List ℕ). past_spaces xs) c.split_word.ensures.rest)) (word_less c.args.text.now)
