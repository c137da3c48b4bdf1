-- The search index over the stack of open elements.
use Rattle.std.specs.Prelude.{ℕ, Bool, ◌≡◌, ◌+◌, ◌*◌, ◌<◌, ◌≤◌, eqb, if◌then◌else◌, List, length, map, take, Some, slice_get}
use denote.Enum.Declared.{tag_of}
use Rattle.page_trees.specs.Links.{AreLinks}
use Rattle.page_trees.specs.Scopes.{ends_items, is_name, last_place}
use Rattle.page_trees.specs.Sets.{ends_scope, is_in_html, is_special_element}
use Rattle.page_trees.specs.contracts.name.Name.{the_type}
use Rattle.page_trees.specs.declared.name.Name.{Name}
use Rattle.page_trees.specs.declared.stack.Open.{Open}
use Rattle.page_trees.specs.declared.stack.OpenElements.{OpenElements}
use Rattle.page_trees.specs.declared.stack.marks.Mark.{Mark}
use Rattle.page_trees.specs.declared.stack.marks.Marks.{Marks}
use Rattle.page_trees.specs.declared.stack.marks.Sought.{Sought}
use Rattle.page_trees.specs.declared.stack.marks.Sought.TheVariants.{Html, Special, ScopeEnd, ItemEnd, Key}

-- a number for a name: those that no rule mentions have their own number
abbrev pub name_number : Name → ℕ → ℕ
name_number name number = if is_name name Name.Other then 127 + number else tag_of the_type name

-- Elements with the same name have the same key, if both are HTML elements or neither is.
abbrev pub key_for : Bool → Name → ℕ → ℕ
key_for in_html name number = name_number name number * 2 + (if in_html then 0 else 1)

abbrev pub key_of : Open → ℕ
key_of o = key_for (is_in_html o.ns) o.name o.number

-- an element with that name, which has that number if it is not in `Name`: an HTML element, or a foreign one
abbrev pub has_key : Bool → Name → ℕ → Open → Bool
has_key in_html name number o = eqb (key_of o) (key_for in_html name number)

abbrev pub is_sought : Sought → Open → Bool
is_sought Html o = is_in_html o.ns
is_sought Special o = is_special_element o
is_sought ScopeEnd o = ends_scope o
is_sought ItemEnd o = ends_items o
is_sought (Key key) o = eqb (key_of o) key

-- what the searches find in a stack of these elements
abbrev pub mark_of : List Open → Mark
mark_of elements = record {
  html = last_place (λ o. is_in_html o.ns) elements;
  special = last_place is_special_element elements;
  ends = last_place ends_scope elements;
  item_ends = last_place ends_items elements;
}

-- each entry has what the searches find up to its element
abbrev pub AreRows : List Open → List Mark → Type 0
AreRows elements rows = (k : ℕ) → k < length rows → slice_get rows k ≡ Some (mark_of (take (k + 1) elements))

-- The index is right for the elements that it has entries for, the lowest ones. The links are those of the
-- elements' keys.
pub record IsIndex (elements : List Open) (marks : Marks) : Type 0 where
  pub within : length marks.rows.items ≤ length elements
  pub rows : AreRows elements marks.rows.items
  pub links : AreLinks (map key_of (take (length marks.rows.items) elements)) marks.links.same.items marks.links.next.items marks.links.tops.items

-- the stack's index is right for its elements
abbrev pub IsIndexed : OpenElements → Type 0
IsIndexed stack = IsIndex stack.elements.items stack.marks

-- the element at a place and the next one changed places
pub record AreExchanged (former elements : List Open) (place : ℕ) : Type 0 where
  pub long : length elements ≡ length former
  pub lower : slice_get elements place ≡ slice_get former (place + 1)
  pub upper : slice_get elements (place + 1) ≡ slice_get former place
  pub rest : (k : ℕ) → (k ≡ place → ⊥) → (k ≡ place + 1 → ⊥) → slice_get elements k ≡ slice_get former k
