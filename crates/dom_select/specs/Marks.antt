-- Traversals below several nodes, with a mark for each node that was visited.
use Rattle.std.specs.Prelude.{◌≡◌, ℕ, Bool, true, false, List, [], ◌∷◌, MatchBool, Option, slice_index_or, slice_set, if◌then◌else◌}
use Rattle.std.specs.Option.{option_map_or}
use Rattle.dom_links.specs.Walk.{Walk}

-- the nodes that a traversal still visits, if there is one
abbrev pub left_in : Option Walk → List ℕ
left_in walk = option_map_or (λ w. w.left) walk []

abbrev pub has_mark : List Bool → ℕ → Bool
has_mark marks n = slice_index_or marks n false

-- the answer says whether the node had no mark, and it has one now
abbrev pub SetsMark : List Bool → List Bool → ℕ → Bool → Type 0
SetsMark old new n answer =
    MatchBool answer ((has_mark old n ≡ false) × (new ≡ slice_set old n true)) ((has_mark old n ≡ true) × (new ≡ old))

-- the nodes without a mark, each at its first occurrence
abbrev pub first_unmarked : List Bool → List ℕ → List ℕ
first_unmarked marks [] = []
first_unmarked marks (n ∷ ns) = if has_mark marks n then first_unmarked marks ns else n ∷ first_unmarked (slice_set marks n true) ns
