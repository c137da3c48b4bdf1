-- "For each attribute on the token, check to see if the attribute is already present on the element; if it is not, add it"
-- (13.2.6.4.7): the attributes that later tags add to an element.
use Rattle.std.specs.Prelude.{◌≡◌, ◌++◌, Bool, List, String, filter, map, not, string_bytes, ℕ}
use Rattle.std.specs.BTreeMap.{is_at}
use Rattle.std.specs.BTreeSet.{BTreeSet, contains_text}
use Rattle.std.specs.Cmp.Lexicographic.{slice_cmp}
use Rattle.std.specs.List.{list_any}
use Rattle.std.specs.Ordering.{nat_cmp}
use Rattle.dom_nodes.specs.Changes.{is_attr_named}
use Rattle.dom_nodes.specs.declared.name.Attr.{Attr}
use Rattle.page_tokens.specs.declared.attribute.TagAttr.{TagAttr}
use Rattle.page_trees.specs.Foreign.{attr_in}
use Rattle.page_trees.specs.declared.growing.late.LateAttrs.{LateAttrs}
use Rattle.page_trees.specs.declared.stack.ElementNamespace.{ElementNamespace}

-- an attribute with that name is present
abbrev pub is_present : List Attr → List ℕ → Bool
is_present attrs name = list_any (is_attr_named name) attrs

-- those of a tag's attributes that are not present, as an HTML element has them
abbrev pub absent_in : List Attr → List TagAttr → List Attr
absent_in attrs given = map (attr_in ElementNamespace.Html) (filter (λ a. not (is_present attrs (string_bytes a.name))) given)

-- the set has the names of the attributes
abbrev pub HasNames : {A : Type 0} → BTreeSet (String A) → List Attr → Type 0
HasNames names attrs = (name : List ℕ) → contains_text names name ≡ is_present attrs name

-- the names, as the set compares them, are those of the attributes
abbrev pub AreNamesOf : List (List ℕ) → List Attr → Type 0
AreNamesOf names attrs = (name : List ℕ) → list_any (is_at (slice_cmp nat_cmp name)) names ≡ is_present attrs name

-- the names that are kept are those of the element's own attributes and of those that are to be added
abbrev pub Knows : List Attr → LateAttrs → Type 0
Knows own late = HasNames late.names (own ++ late.added.items)

-- those of a tag's attributes that neither are the element's own nor were added before are added
pub record AddsAbsent (own : List Attr) (given : List TagAttr) (old new : LateAttrs) : Type 0 where
  pub id : new.id ≡ old.id
  pub added : new.added.items ≡ old.added.items ++ absent_in (own ++ old.added.items) given
  pub known : Knows own new
