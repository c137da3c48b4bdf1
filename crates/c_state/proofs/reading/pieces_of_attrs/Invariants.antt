use Rattle.std.proofs.Common.{◌≡◌, ◌++◌, Some, drop}
use Rattle.std.specs.Prelude.{string_bytes}
use Rattle.std.specs.List.{flat_map}
use Rattle.c_state.specs.Pieces.{attr_pieces, joined_pieces, piece_lengths}
use Rattle.c_state.proofs.reading.pieces_of_attrs.Given as goal

-- what is there, and what the attributes that are left add
abbrev pub invariant-loop-attr : goal.invariant-loop-attr
invariant-loop-attr l =
    (string_bytes l.pieces.text ++ joined_pieces Some (flat_map attr_pieces (drop l.attr-index l.attrs)) ≡ joined_pieces Some (flat_map attr_pieces l.attrs)) ×
    (l.pieces.lengths.items ++ piece_lengths Some (flat_map attr_pieces (drop l.attr-index l.attrs)) ≡ piece_lengths Some (flat_map attr_pieces l.attrs))
