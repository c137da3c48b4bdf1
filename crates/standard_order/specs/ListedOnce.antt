-- What is so of the list of active formatting elements (13.2.4.3) wherever a turn of tree construction (13.2.6) begins, whatever tokens
-- come.
use Rattle.std.specs.Prelude.{[], ◌∷◌, ◌≡◌, ◌&&◌, Bool, List, Some, length, nat_lt, not, true, ℕ}
use Rattle.std.specs.List.{list_all, list_any}
use Rattle.standard_tokens.specs.Tokens.{Token}
use Rattle.standard_trees.specs.Building.{Building, tree_steps}
use Rattle.standard_trees.specs.Formatting.{is_entry}
use Rattle.standard_trees.specs.GrowingTree.{Entry, Formatting, Marker}
use Rattle.standard_order.specs.Beginnings.{Beginning, first_building}
use Rattle.standard_order.specs.Turns.{tree_steps_while}

-- no element is in the list twice
abbrev pub lists_once : List Entry → Bool
lists_once [] = true
lists_once (Marker ∷ es) = lists_once es
lists_once (Formatting n ∷ es) = not (list_any (is_entry n) es) && lists_once es

-- the element is one of so many nodes
abbrev pub is_below : ℕ → Entry → Bool
is_below nodes Marker = true
is_below nodes (Formatting n) = nat_lt n nodes

-- Each element is in the list once at most, and is a node of the tree.
abbrev pub lists_each_once : Building → Bool
lists_each_once b = lists_once b.tree.listed && list_all (is_below (length b.tree.nodes)) b.tree.listed

-- Wherever a turn begins, each element is listed once: where tokens lead, turns lead that each begin in such a state.
abbrev pub TurnsListOnce : Type 0
TurnsListOnce = (depth : ℕ) (beginning : Beginning) (tokens : List Token) (end : Building) →
    tree_steps depth (first_building beginning) tokens ≡ Some end →
    tree_steps_while lists_each_once depth (first_building beginning) tokens ≡ Some end

-- the state passes a test, and each element is listed once
abbrev pub listed_too : (Building → Bool) → Building → Bool
listed_too test b = test b && lists_each_once b

-- So no test of turns need ask for that: where turns that pass a test lead, turns lead that also begin in such states.
abbrev pub ListingNeedsNoTest : Type 0
ListingNeedsNoTest = (test : Building → Bool) (depth : ℕ) (beginning : Beginning) (tokens : List Token) (end : Building) →
    tree_steps_while test depth (first_building beginning) tokens ≡ Some end →
    tree_steps_while (listed_too test) depth (first_building beginning) tokens ≡ Some end
