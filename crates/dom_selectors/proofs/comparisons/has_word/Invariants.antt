use Rattle.std.proofs.Common.{◌≡◌}
use Rattle.std.specs.Str.Iter.{split_ascii_whitespace_text}
use Rattle.dom_nodes.specs.Words.{words_of}
use Rattle.dom_selectors.specs.Comparisons.{has_word}
use Rattle.dom_selectors.proofs.comparisons.has_word.Given as goal

-- the words that are left decide
abbrev pub invariant-loop-word : goal.invariant-loop-word
invariant-loop-word l =
    (goal.iterator-loop-word).can_next l.word-iterator ×
    (goal.iterator-loop-word).is_finite l.word-iterator ×
    (has_word l.case l.value (words_of (split_ascii_whitespace_text l.word-iterator)) ≡ has_word l.case l.value (words_of l.text))
