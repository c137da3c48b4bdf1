use Rattle.std.proofs.Common.{◌≡◌, [], filter, map, string_bytes}
use Rattle.std.specs.Str.Iter.{split_ascii_whitespace_text}
use Rattle.dom_nodes.specs.Words.{is_among, words_of}
use Rattle.dom_clean.specs.Fates.{with_words}
use Rattle.dom_clean.proofs.values.joined_words.Given as goal

-- the words so far, and those that stay of the words that are left
abbrev pub invariant-loop-word : goal.invariant-loop-word
invariant-loop-word l = record {
  can : (goal.iterator-loop-word).can_next l.word-iterator;
  finite : (goal.iterator-loop-word).is_finite l.word-iterator;
  joined : with_words (string_bytes l.made) (filter (λ word. is_among word (map string_bytes l.classes)) (words_of (split_ascii_whitespace_text l.word-iterator))) ≡ with_words [] (filter (λ word. is_among word (map string_bytes l.classes)) (words_of l.value));
}
