-- The edits that calls with numbers name.
use Rattle.std.specs.Prelude.{ℕ, ◌≡◌, List, [], ◌∷◌, OnErr, OnOk, Option, Result, Some, slice_get}
use Rattle.std.specs.Option.{option_map_or}
use Rattle.dom_nodes.specs.Words.{words_of}
use Rattle.dom_nodes.specs.Changes.{on_element, renamed, with_attr, with_attrs, without_name}
use Rattle.dom_links.specs.Contents.{with_content}
use Rattle.dom_links.specs.Forest.{Forest, children_of}
use Rattle.dom_links.specs.ListMoves.{moved_nodes}
use Rattle.dom_links.specs.Lists.{first}
use Rattle.dom_links.specs.Moves.{detach, moved_to}
use Rattle.dom_links.specs.declared.gap.InsertionPoint.TheVariants.{After, Before, EndOf, FrontOf}
use Rattle.dom_links.specs.declared.gap.MovedNodes.TheVariants.{Node, WithLater}
use Rattle.dom_links.specs.declared.gap.Place.{Place}
use Rattle.dom_links.specs.declared.gap.Place.TheVariants as places
use Rattle.dom_sanitize.specs.Clean.{Cleaned, Lists}
use Rattle.c_state.specs.declared.fault.Fault.{Fault}
use Rattle.dom_markup.specs.Setters.{IsEditedBy, putting}
use Rattle.dom_trees.specs.Edits.{TreeEdit, moving_to, replacing}

-- The forest with the first attribute of that local name set to the value, or with one more attribute
abbrev pub attr_set : ℕ → List ℕ → List ℕ → Forest → Forest
attr_set x name value forest = with_content x (with_attrs (with_attr name value)) forest

-- The forest without the attributes of that local name at x
abbrev pub attr_removed : ℕ → List ℕ → Forest → Forest
attr_removed x name forest = with_content x (with_attrs (without_name name)) forest

-- The forest with the element x renamed
abbrev pub element_renamed : ℕ → List ℕ → Forest → Forest
element_renamed x name forest = with_content x (on_element (renamed name)) forest

-- The place of that number
abbrev pub place_numbered : ℕ → Option Place
place_numbered number = slice_get (places.InsteadOfChildren ∷ places.AtEnd ∷ places.AtFront ∷ places.Before ∷ places.After ∷ places.InsteadOfNode ∷ []) number

-- The markup is read, and its nodes are put at the place at x
abbrev pub IsPut : ℕ → ℕ → List ℕ → Forest → Forest → Type 0
IsPut number x html old new = (place : Place) × (place_numbered number ≡ Some place) × IsEditedBy html (putting place x) old new

-- The edit was allowed, and is made
abbrev pub IsEdited : TreeEdit → Forest → Forest → Type 0
IsEdited edit old new = (new ≡ edit.after old) × edit.Allowed old

-- The node is moved to a place at the target, which isn't that of the target's children
abbrev pub MovesTo : ℕ → ℕ → Place → Forest → Forest → Type 0
MovesTo node target places.AtEnd old new = IsEdited (moving_to (EndOf target) (Node node)) old new
MovesTo node target places.AtFront old new = IsEdited (moving_to (FrontOf target) (Node node)) old new
MovesTo node target places.Before old new = IsEdited (moving_to (Before target) (Node node)) old new
MovesTo node target places.After old new = IsEdited (moving_to (After target) (Node node)) old new
MovesTo node target places.InsteadOfNode old new = IsEdited (replacing target node) old new
MovesTo node target _ old new = ⊥

-- The node is moved to the place of that number at the target
abbrev pub IsMoved : ℕ → ℕ → ℕ → Forest → Forest → Type 0
IsMoved node number target old new = (place : Place) × (place_numbered number ≡ Some place) × MovesTo node target place old new

-- The tree becomes one that the relation allows; or the call is refused, and the tree is as it was
pub record Becomes (result : Result Unit Fault) (old new : Forest) (May : Forest → Forest → Type 0) : Type 0 where
  pub ok : OnOk result (May old new)
  pub err : OnErr result (new ≡ old)

-- The names in a text are those of the list
abbrev pub sanitized_by : List ℕ → List ℕ → List ℕ → Lists
sanitized_by elements attrs dropped = record { elements = words_of elements; attrs = words_of attrs; drop = words_of dropped }

-- Only the elements and attributes of these names are left, and what is below an element of a dropped name isn't
abbrev pub IsSanitized : List ℕ → List ℕ → List ℕ → Forest → Forest → Type 0
IsSanitized elements attrs dropped old new = Cleaned (sanitized_by elements attrs dropped) old new

-- The forest with the children of x moved right before it, in their order, and then x detached
abbrev pub unwrapped_node : ℕ → Forest → Forest
unwrapped_node x forest = detach (x ∷ []) (option_map_or (λ child. moved_to (moved_nodes forest (WithLater child)) (Before x) forest) (first (children_of forest x)) forest)
