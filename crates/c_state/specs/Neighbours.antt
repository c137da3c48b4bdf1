-- The nodes that a direction or an axis names by a number, and the first node that is selected.
use Rattle.std.specs.Prelude.{ℕ, false, true, List, [], ◌∷◌, Option, find, slice_get}
use Rattle.std.specs.Option.{option_and_then}
use Rattle.dom_links.specs.Forest.{Forest, children_of, parent, siblings}
use Rattle.dom_links.specs.ListMoves.{element_at}
use Rattle.dom_links.specs.Lists.{after, before, first, last}
use Rattle.dom_links.specs.Trees.{ancestors, descendants_in_order}
use Rattle.dom_links.specs.Walk.{later}
use Rattle.dom_select.specs.Descendants.{IsMatch}
use Rattle.dom_select.specs.Selected.{walks_below}
use Rattle.dom_selection.specs.Selecting.{PicksFirst}
use Rattle.dom_selectors.specs.Syntax.{SelectorList}

-- The neighbours of a node, by the numbers of the directions
abbrev pub neighbours : Forest → ℕ → List (Option ℕ)
neighbours forest n =
    parent forest n ∷ first (children_of forest n) ∷ last (children_of forest n) ∷ after (siblings forest n) n ∷ before (siblings forest n) n
    ∷ find (element_at forest) (children_of forest n) ∷ find (element_at forest) (later forest false n) ∷ find (element_at forest) (later forest true n) ∷ []

-- The neighbour in the direction of that number
abbrev pub neighbour : Forest → ℕ → ℕ → Option ℕ
neighbour forest n direction = option_and_then (λ found. found) (slice_get (neighbours forest n) direction)

-- The nodes along the axis of that number
abbrev pub along : Forest → ℕ → ℕ → Option (List ℕ)
along forest n axis = slice_get (children_of forest n ∷ ancestors forest n ∷ descendants_in_order forest n ∷ []) axis

-- The node is the first of those that the selector selects below the root
abbrev pub IsFirst : SelectorList → Forest → ℕ → ℕ → Type 0
IsFirst selector forest root n = PicksFirst (IsMatch selector forest) (walks_below forest (root ∷ [])) (n ∷ [])
