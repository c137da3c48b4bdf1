-- Which elements are in the list of active formatting elements (13.2.4.3) wherever a turn of tree construction (13.2.6) begins, whatever
-- tokens come.
use Rattle.std.specs.Prelude.{[], ◌∷◌, ◌≡◌, ◌&&◌, Bool, List, Some, codes, true, ℕ}
use Rattle.std.specs.List.{list_all}
use Rattle.standard_tokens.specs.Tokens.{Token}
use Rattle.standard_trees.specs.Building.{Building}
use Rattle.standard_trees.specs.GrowingTree.{Entry, Formatting, Marker, is_named}
use Rattle.standard_trees.specs.TreeStore.{Node, node_at}
use Rattle.standard_order.specs.Beginnings.{Beginning, first_building}
use Rattle.standard_order.specs.Turns.{tree_steps_while}

-- the elements that the rules add to the list
abbrev pub formatting_names : List (List ℕ)
formatting_names =
    codes "a" ∷ codes "b" ∷ codes "big" ∷ codes "code" ∷ codes "em" ∷ codes "font" ∷ codes "i" ∷ codes "nobr" ∷ codes "s" ∷ codes "small" ∷
    codes "strike" ∷ codes "strong" ∷ codes "tt" ∷ codes "u" ∷ []

-- a marker, or one of these elements
abbrev pub is_formatting : List Node → Entry → Bool
is_formatting nodes Marker = true
is_formatting nodes (Formatting n) = is_named formatting_names (node_at nodes n).kind

abbrev pub lists_formatting : Building → Bool
lists_formatting b = list_all (is_formatting b.tree.nodes) b.tree.listed

-- the state passes a test, and no other elements are in the list
abbrev pub formatting_too : (Building → Bool) → Building → Bool
formatting_too test b = test b && lists_formatting b

-- So no test of turns need ask for that: where turns that pass a test lead, turns lead that also begin in such states.
abbrev pub OnlyFormattingIsListed : Type 0
OnlyFormattingIsListed = (test : Building → Bool) (depth : ℕ) (beginning : Beginning) (tokens : List Token) (end : Building) →
    tree_steps_while test depth (first_building beginning) tokens ≡ Some end →
    tree_steps_while (formatting_too test) depth (first_building beginning) tokens ≡ Some end
