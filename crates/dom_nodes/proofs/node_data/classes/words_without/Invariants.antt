use Rattle.std.proofs.Common.{◌≡◌, ◌++◌}
use Rattle.std.specs.Prelude.{string_bytes}
use Rattle.std.specs.Str.Iter.{split_ascii_whitespace_text}
use Rattle.dom_nodes.specs.Words.{words_of}
use Rattle.dom_nodes.specs.Classes.{words_without}
use Rattle.dom_nodes.proofs.ClassLemmas.{IsJoined}
use Rattle.dom_nodes.proofs.node_data.classes.words_without.Given as goal

-- the words so far, and what stays of the words that are left
abbrev pub invariant-loop-word : goal.invariant-loop-word
invariant-loop-word l =
    (goal.iterator-loop-word).can_next l.word-iterator ×
    (goal.iterator-loop-word).is_finite l.word-iterator ×
    IsJoined (string_bytes l.made) ×
    (words_of (string_bytes l.made) ++ words_without (words_of (split_ascii_whitespace_text l.word-iterator)) (words_of l.others) ≡ words_without (words_of l.text) (words_of l.others))
