-- Several texts in one answer: all of them, one after the other, and the length of each.
use Rattle.std.specs.Prelude.{ℕ, ◌≡◌, List, [], ◌∷◌, Option, None, Some, Result, IfOk, length, map, string_bytes}
use Rattle.std.specs.List.{flat_map}
use Rattle.dom_nodes.specs.declared.name.Attr.{Attr}
use Rattle.c_state.specs.declared.fault.Fault.{Fault}
use Rattle.c_state.specs.declared.pieces.Pieces.{Pieces}
use Rattle.c_state.specs.declared.state.State.{State}

-- What a piece adds to the text
abbrev pub piece_text : Option (List ℕ) → List ℕ
piece_text None = []
piece_text (Some text) = text

-- The length that is given for a piece: the greatest number for one that isn't there
abbrev pub piece_length : Option (List ℕ) → ℕ
piece_length None = 4294967295
piece_length (Some text) = length text

-- An attribute's local name and its value
abbrev pub attr_pieces : Attr → List (List ℕ)
attr_pieces attr = attr.name.local ∷ attr.value ∷ []

-- The pieces of the items, joined, and their lengths
abbrev pub joined_pieces : {A : Type 0} → (A → Option (List ℕ)) → List A → List ℕ
joined_pieces piece items = flat_map (λ item. piece_text (piece item)) items

abbrev pub piece_lengths : {A : Type 0} → (A → Option (List ℕ)) → List A → List ℕ
piece_lengths piece items = map (λ item. piece_length (piece item)) items

-- The pieces are those of the items
pub record HoldsPieces {A : Type 0} (piece : A → Option (List ℕ)) (items : List A) (pieces : Pieces) : Type 0 where
  pub joined : string_bytes pieces.text ≡ joined_pieces piece items
  pub each : pieces.lengths.items ≡ piece_lengths piece items

-- The pieces of items of which this holds are kept
pub record AreKept {A : Type 0} (state : State) (piece : A → Option (List ℕ)) (AreThey : List A → Type 0) : Type 0 where
  pub items : List A
  pub are : AreThey items
  pub joined : string_bytes state.text ≡ joined_pieces piece items
  pub each : state.lengths.items ≡ piece_lengths piece items

-- The pieces of items of which this holds are kept, and how many there are is the answer. The document stays
pub record GivesPieces {A : Type 0} (result : Result ℕ Fault) (old new : State) (piece : A → Option (List ℕ)) (AreThey : List A → Type 0) : Type 0 where
  pub document : new.document ≡ old.document
  pub kept : IfOk result (λ _. AreKept new piece AreThey)
  pub count : IfOk result (λ count. count ≡ length new.lengths.items)
