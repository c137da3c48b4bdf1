-- What is so of the current node wherever a turn of tree construction (13.2.6) begins, whatever tokens come.
use Rattle.std.specs.Prelude.{◌≡◌, ◌&&◌, ◌||◌, Bool, List, Some, false, not, true, ℕ}
use Rattle.standard_tokens.specs.Tokens.{Token}
use Rattle.standard_trees.specs.Building.{Building, is_empty}
use Rattle.standard_trees.specs.GrowingTree.{adjusted_current}
use Rattle.standard_trees.specs.RuleWords.{Dispatcher, ForeignContent, InTableText, Mode, Text}
use Rattle.standard_trees.specs.TreeStore.{is_html, space_in}
use Rattle.standard_order.specs.Order.{is_before_html}
use Rattle.standard_order.specs.Beginnings.{Beginning, first_building}
use Rattle.standard_order.specs.Turns.{tree_steps_while}

-- the modes that take characters into an element or a table
abbrev pub takes_text : Mode → Bool
takes_text Text = true
takes_text InTableText = true
takes_text _ = false

-- in these modes the adjusted current node is an HTML element
abbrev pub is_in_html : Building → Bool
is_in_html b = not (takes_text b.mode) || is_html (space_in (adjusted_current b.tree))

-- an element is open in every mode after "before html"
abbrev pub has_open : Building → Bool
has_open b = is_before_html b.mode || not (is_empty b.tree.stack)

-- the rules for the dispatcher and for foreign content are none for an insertion mode
abbrev pub is_insertion_mode : Mode → Bool
is_insertion_mode Dispatcher = false
is_insertion_mode ForeignContent = false
is_insertion_mode _ = true

-- all of this
abbrev pub has_current : Building → Bool
has_current b = is_insertion_mode b.mode && (is_in_html b && has_open b)

-- the state passes a test, and all of this is so
abbrev pub current_too : (Building → Bool) → Building → Bool
current_too test b = test b && has_current b

-- So no test of turns need ask for that: where turns that pass a test lead, turns lead that also begin in such states.
abbrev pub CurrentNodesAreKnown : Type 0
CurrentNodesAreKnown = (test : Building → Bool) (depth : ℕ) (beginning : Beginning) (tokens : List Token) (end : Building) →
    tree_steps_while test depth (first_building beginning) tokens ≡ Some end →
    tree_steps_while (current_too test) depth (first_building beginning) tokens ≡ Some end
