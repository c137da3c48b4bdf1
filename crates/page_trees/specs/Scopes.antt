-- Searches of the stack of open elements (13.2.4.2).
use Rattle.std.specs.Prelude.{Bool, List, None, Option, Some, eqb, false, length, not, ℕ, [], ◌&&◌, ◌||◌, ◌∷◌}
use denote.Enum.Declared.{tag_of}
use Rattle.standard_trees.specs.NameLists.{button_scope, list_item_scope, scope, table_scope}
use Rattle.page_trees.specs.Popping.{up_to_last}
use Rattle.page_trees.specs.Sets.{is_crossed, is_implied, is_in_html, is_one, is_special_element}
use Rattle.page_trees.specs.contracts.name.Name.{the_type}
use Rattle.page_trees.specs.contracts.stack.ElementNamespace.{the_type as the_space}
use Rattle.page_trees.specs.declared.name.Name.{Name}
use Rattle.page_trees.specs.declared.sets.Scope.{Scope}
use Rattle.page_trees.specs.declared.sets.Scope.TheVariants.{Default, ListItem, Button, Table}
use Rattle.page_trees.specs.declared.stack.Open.{Open}

-- one more than the index of the last element that passes a test; 0 if there is none
abbrev pub last_place : {X : Type 0} → (X → Bool) → List X → ℕ
last_place test elements = length (up_to_last test elements)

abbrev pub is_name : Name → Name → Bool
is_name name other = eqb (tag_of the_type name) (tag_of the_type other)

-- an HTML element whose name has this entry in `Name`
abbrev pub has_name : Name → Open → Bool
has_name name o = is_in_html o.ns && is_name o.name name

-- an HTML element with this name; `Other` is no one name
abbrev pub is_named : Name → Open → Bool
is_named name o = not (is_name name Name.Other) && has_name name o

-- the same name and namespace
abbrev pub is_named_like : Open → Open → Bool
is_named_like o other = eqb (tag_of the_space o.ns) (tag_of the_space other.ns) && is_name o.name other.name && eqb o.number other.number

-- an HTML element with one of these names
abbrev pub is_among : List Name → Open → Bool
is_among [] o = false
is_among (name ∷ names) o = is_named name o || is_among names o

-- an HTML element with that name, if there is one
abbrev pub is_excepted : Option Name → Open → Bool
is_excepted None o = false
is_excepted (Some name) o = has_name name o

-- "generate implied end tags, except for": the elements that are popped
abbrev pub is_implied_but : Option Name → Open → Bool
is_implied_but except o = is_implied o && not (is_excepted except o)

-- the elements that end each scope
abbrev pub scope_names : Scope → List (List ℕ)
scope_names Default = scope
scope_names ListItem = list_item_scope
scope_names Button = button_scope
scope_names Table = table_scope

abbrev pub ends_in : Scope → Open → Bool
ends_in s o = is_one (scope_names s) o

-- the special elements that end the search for an open list item
abbrev pub ends_items : Open → Bool
ends_items o = is_special_element o && not (is_crossed o)
