use Rattle.std.proofs.Common.{◌≡◌, ◌++◌, ℕ, List, Option, drop}
use Rattle.std.specs.Prelude.{string_bytes}
use Rattle.dom_trees.specs.Views.{node_attr}
use Rattle.c_state.specs.Pieces.{joined_pieces, piece_lengths}
use Rattle.c_state.proofs.state.State.attrs_of.Given as goal

-- what is there, and what the ids that are left add
abbrev pub invariant-loop-id : goal.invariant-loop-id
invariant-loop-id l =
    let piece : ℕ → Option (List ℕ) = λ n. node_attr l.self.document.tree n l.name in
    (string_bytes l.pieces.text ++ joined_pieces piece (drop l.id-index l.ids) ≡ joined_pieces piece l.ids) ×
    (l.pieces.lengths.items ++ piece_lengths piece (drop l.id-index l.ids) ≡ piece_lengths piece l.ids)
