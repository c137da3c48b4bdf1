use Rattle.std.proofs.Common.{◌≡◌, ◌++◌, Some}
use Rattle.std.specs.Prelude.{string_bytes}
use Rattle.std.specs.Str.Iter.{split_ascii_whitespace_text}
use Rattle.dom_nodes.specs.Words.{words_of}
use Rattle.c_state.specs.Pieces.{joined_pieces, piece_lengths}
use Rattle.c_state.proofs.reading.pieces_of_words.Given as goal

-- what is there, and what the words that are left add
abbrev pub invariant-loop-word : goal.invariant-loop-word
invariant-loop-word l =
    (goal.iterator-loop-word).can_next l.word-iterator ×
    (goal.iterator-loop-word).is_finite l.word-iterator ×
    (string_bytes l.pieces.text ++ joined_pieces Some (words_of (split_ascii_whitespace_text l.word-iterator)) ≡ joined_pieces Some (words_of l.text)) ×
    (l.pieces.lengths.items ++ piece_lengths Some (words_of (split_ascii_whitespace_text l.word-iterator)) ≡ piece_lengths Some (words_of l.text))
