-- How often each name was taken out.
use Rattle.std.specs.Prelude.{ℕ, suc, zero, ◌≡◌, ◌+◌, ◌++◌, ◌∷◌, [], Bool, false, List, Option, Some, None, String}
use Rattle.std.specs.Prelude.{codes, decimal, filter, length, string_bytes, unwrap_or, if◌then◌else◌}
use Rattle.std.specs.BTreeMap.{BTreeMap, get_by_text}
use Rattle.std.specs.List.{flat_map}
use Rattle.std.specs.Str.{bytes_eq}
use Rattle.dom_clean.specs.Removals.{Removal, an_element, an_attribute, an_address}
use Rattle.dom_clean.specs.declared.counting.RemovedCounts.{RemovedCounts}

abbrev pub is_element : List ℕ → Removal → Bool
is_element name (an_element other) = bytes_eq other name
is_element name removal = false

abbrev pub is_attribute : List ℕ → Removal → Bool
is_attribute name (an_attribute other) = bytes_eq other name
is_attribute name removal = false

abbrev pub is_address : List ℕ → Removal → Bool
is_address name (an_address other) = bytes_eq other name
is_address name removal = false

-- a number, if it isn't zero
abbrev pub if_any : ℕ → Option ℕ
if_any zero = None
if_any (suc n) = Some (suc n)

-- each name maps to how many of what was taken out have it, and a name that none has to nothing
abbrev pub CountsBy : {A : Type 0} → (List ℕ → Removal → Bool) → List Removal → BTreeMap (String A) ℕ → Type 0
CountsBy has removals counts = (name : List ℕ) → get_by_text counts name ≡ if_any (length (filter (has name) removals))

-- the elements, the attributes and the addresses are counted
pub record Counts (removals : List Removal) (counts : RemovedCounts) : Type 0 where
  pub elements : CountsBy is_element removals counts.elements
  pub attributes : CountsBy is_attribute removals counts.attributes
  pub addresses : CountsBy is_address removals counts.addresses

-- one more of that name was counted
abbrev pub AddsOne : {A : Type 0} → List ℕ → BTreeMap (String A) ℕ → BTreeMap (String A) ℕ → Type 0
AddsOne name old new = (other : List ℕ) →
    get_by_text new other ≡ (if bytes_eq name other then Some (unwrap_or (get_by_text old name) 0 + 1) else get_by_text old other)

-- one thing more was counted
abbrev pub CountsOne : Removal → RemovedCounts → RemovedCounts → Type 0
CountsOne removal old new = (removals : List Removal) → Counts removals old → Counts (removals ++ removal ∷ []) new

-- ---- lines of them

-- the kind, the name, and how often, as `element font 2`
abbrev pub line_of : List ℕ → List ℕ → ℕ → List ℕ
line_of kind name count = kind ++ codes " " ++ name ++ codes " " ++ decimal count ++ codes "\n"

-- a line for each name, in their order
abbrev pub lines_by : {A : Type 0} → List ℕ → List (String A × ℕ) → List ℕ
lines_by kind entries = flat_map (λ entry. line_of kind (string_bytes entry.0) entry.1) entries

abbrev pub lines_of : RemovedCounts → List ℕ
lines_of counts =
    lines_by (codes "element") counts.elements.entries ++ lines_by (codes "attribute") counts.attributes.entries
    ++ lines_by (codes "address") counts.addresses.entries
