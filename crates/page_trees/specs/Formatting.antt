-- The list of active formatting elements (13.2.4.3).
use Rattle.std.specs.Prelude.{ℕ, ◌≡◌, ◌⊎◌, Bool, false, ◌==◌, ◌&&◌, List, [], ◌∷◌, Option, None, Some, All, length, remove}
use Rattle.std.specs.Prelude.{reverse, slice_get, if◌then◌else◌}
use Rattle.std.specs.List.{list_all, list_any}
use Rattle.std.specs.Option.{option_map_or}
use Rattle.std.specs.Str.{bytes_eq}
use Rattle.dom_nodes.specs.Elements.{Element}
use Rattle.dom_nodes.specs.Names.{same_name}
use Rattle.dom_nodes.specs.declared.name.Attr.{Attr}
use Rattle.dom_links.specs.Forest.{Forest}
use Rattle.dom_trees.specs.Views.{node_element}
use Rattle.page_trees.specs.declared.formatting.Entry.{Entry}
use Rattle.page_trees.specs.declared.formatting.Entry.TheVariants.{Element as AnEntry, Marker}
use Rattle.page_trees.specs.declared.name.Name.{Name}
use Rattle.page_trees.specs.declared.stack.Open.{Open}

-- the element of an entry that is no marker
abbrev pub element_in : Entry → Option Open
element_in (AnEntry o) = Some o
element_in Marker = None

-- the elements up to the first marker
abbrev pub up_to_marker : List Entry → List Open
up_to_marker [] = []
up_to_marker (AnEntry o ∷ entries) = o ∷ up_to_marker entries
up_to_marker (Marker ∷ entries) = []

-- the elements after the last marker, the last one first; all of them, where there is no marker
abbrev pub after_marker : List Entry → List Open
after_marker entries = up_to_marker (reverse entries)

-- the first element of a list that has a property
abbrev pub IsFirst : {X : Type 0} → (X → Type 0) → List X → X → Type 0
IsFirst P [] y = ⊥
IsFirst P (x ∷ xs) y = (P x × (x ≡ y)) ⊎ ((P x → ⊥) × IsFirst P xs y)

abbrev pub IsNamed : Name → Open → Type 0
IsNamed name o = o.name ≡ name

-- no element of a list has a property
abbrev pub NoneHas : {X : Type 0} → (X → Type 0) → List X → Type 0
NoneHas P xs = All (λ x. P x → ⊥) xs

-- whether the entry is of the element with that id
abbrev pub is_of : ℕ → Entry → Bool
is_of id (AnEntry o) = o.id == id
is_of id Marker = false

-- the index of the last entry that passes a test, in a list from its end on: as many entries come before it
abbrev pub place_from_end : (Entry → Bool) → List Entry → Option ℕ
place_from_end test [] = None
place_from_end test (entry ∷ before) = if test entry then Some (length before) else place_from_end test before

abbrev pub last_place : (Entry → Bool) → List Entry → Option ℕ
last_place test entries = place_from_end test (reverse entries)

-- ---- the Noah's Ark clause

-- two elements have the same name and the same attributes, in any order
abbrev pub same_attr : Attr → Attr → Bool
same_attr one other = same_name one.name other.name && bytes_eq one.value other.value

abbrev pub has_attr : List Attr → Attr → Bool
has_attr attrs attr = list_any (same_attr attr) attrs

abbrev pub same_element : Element → Element → Bool
same_element one other =
    same_name one.name other.name && (list_all (has_attr other.attrs) one.attrs && list_all (has_attr one.attrs) other.attrs)

-- this of two nodes of a tree
abbrev pub are_alike : Forest → ℕ → ℕ → Bool
are_alike forest one other = option_map_or (λ a. option_map_or (same_element a) (node_element forest other) false) (node_element forest one) false

-- the indexes of the elements after the last marker that are like a node, the last one first; the list goes from its end on
abbrev pub alike_from_end : Forest → ℕ → List Entry → List ℕ
alike_from_end forest id [] = []
alike_from_end forest id (Marker ∷ before) = []
alike_from_end forest id (AnEntry o ∷ before) =
    if are_alike forest o.id id then length before ∷ alike_from_end forest id before else alike_from_end forest id before

abbrev pub places_alike : Forest → ℕ → List Entry → List ℕ
places_alike forest id entries = alike_from_end forest id (reverse entries)

-- "If there are already three elements in the list after the last marker that have the same tag name, namespace, and attributes as
-- the element": the index of the third, which is the earliest
abbrev pub third_alike : Forest → ℕ → List Entry → Option ℕ
third_alike forest id entries = slice_get (places_alike forest id entries) 2

-- "then remove the earliest such element from the list"
abbrev pub with_room : Forest → ℕ → List Entry → List Entry
with_room forest id entries = option_map_or (remove entries) (third_alike forest id entries) entries
