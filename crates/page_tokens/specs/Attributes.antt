-- The attribute names of a tag.
use Rattle.std.specs.Prelude.{◌≡◌, ℕ, Bool, true, not, ◌&&◌, ◌||◌, List, [], ◌∷◌, ◌++◌, String, MatchBool, string_bytes}
use Rattle.std.specs.BTreeSet.{BTreeSet, contains_text}
use Rattle.std.specs.List.{list_any}
use Rattle.std.specs.Str.{bytes_eq}
use Rattle.page_tokens.specs.declared.attribute.TagAttr.{TagAttr}

-- whether the attribute has the name
abbrev pub is_named : List ℕ → TagAttr → Bool
is_named name attr = bytes_eq (string_bytes attr.name) name

-- whether no two of the attributes have the same name
abbrev pub are_distinct : List TagAttr → Bool
are_distinct [] = true
are_distinct (attr ∷ rest) = not (list_any (is_named (string_bytes attr.name)) rest) && are_distinct rest

-- the new set contains the name and whatever the old set contained
abbrev pub Gains : {A : Type 0} → List ℕ → BTreeSet (String A) → BTreeSet (String A) → Type 0
Gains name old new = (other : List ℕ) → contains_text new other ≡ (contains_text old other || bytes_eq name other)

-- The attribute is appended, unless there is one with its name.
abbrev pub AddsAttr : List TagAttr → List TagAttr → List ℕ → List ℕ → Type 0
AddsAttr old new name value =
    MatchBool (list_any (is_named name) old) (new ≡ old)
    ((attr : TagAttr) × (new ≡ old ++ attr ∷ []) × (string_bytes attr.name ≡ name) × (string_bytes attr.value ≡ value))
