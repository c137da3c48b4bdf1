-- Which attributes of a start tag are kept: of several with one name, the first.
use Rattle.std.specs.Prelude.{◌≡◌, ◌≤◌, ℕ, Bool, List, [], ◌∷◌, length, map, take, ◌||◌, String}
use Rattle.std.specs.BTreeSet.{BTreeSet, contains_text}
use Rattle.std.specs.List.{list_any}
use Rattle.std.specs.Str.{bytes_eq}
use Rattle.dom_nodes.specs.Changes.{is_attr_named}
use Rattle.dom_nodes.specs.declared.name.Attr.{Attr}
use Rattle.dom_markup.specs.Markup.{EndsTag, kept_after}
use Rattle.dom_markup.specs.Numbered.{read_attr}
use Rattle.dom_markup.specs.ValueTrees.{Attribute}
use Rattle.dom_markup.specs.declared.document.attributes.Noted.{Noted}

-- the new set contains the name and whatever the old set contained
abbrev pub Gains : {A : Type 0} → List ℕ → BTreeSet (String A) → BTreeSet (String A) → Type 0
Gains name old new = (other : List ℕ) → contains_text new other ≡ (contains_text old other || bytes_eq name other)

-- the set contains the names of the first `count` attributes, and no other name
pub record IsNoted (noted : Noted) (attrs : List Attr) : Type 0 where
  pub within : noted.count ≤ length attrs
  pub names : (name : List ℕ) → contains_text noted.names name ≡ list_any (is_attr_named name) (take noted.count attrs)

-- the list grows by this attribute, unless an earlier attribute of the list has the same name
abbrev pub Keeps : Attribute → List Attr → List Attr → Type 0
Keeps added old new = (kept : List Attribute) → old ≡ map read_attr kept → new ≡ map read_attr (kept_after kept (added ∷ []))

-- These are the attributes that are kept of a tag, when `text` is what follows the tag's name: the first of each name.
abbrev pub AreKept : List ℕ → List Attr → Type 0
AreKept text attrs = (slash : Bool) (all : List Attribute) (rest : List ℕ) → EndsTag slash text all rest → attrs ≡ map read_attr (kept_after [] all)
