-- The elements of a set that are collected from a list of nodes, each once.
use Rattle.std.specs.Prelude.{ℕ, ◌&&◌, Bool, false, List, [], ◌∷◌, slice_set, if◌then◌else◌}
use Rattle.dom_links.specs.Forest.{Forest}
use Rattle.dom_links.specs.ListMoves.{element_at}
use Rattle.dom_index.specs.NodeSets.{in_set}

-- the elements that are in the set; each is removed from the set when it is collected
abbrev pub collected : Forest → List Bool → List ℕ → List ℕ
collected forest table [] = []
collected forest table (n ∷ ns) = if in_set table n && element_at forest n then n ∷ collected forest (slice_set table n false) ns else collected forest table ns

-- what remains of the set afterwards
abbrev pub set_left : Forest → List Bool → List ℕ → List Bool
set_left forest table [] = table
set_left forest table (n ∷ ns) = if in_set table n && element_at forest n then set_left forest (slice_set table n false) ns else set_left forest table ns
