-- Sets of names.
use Rattle.std.specs.Prelude.{◌≡◌, ◌||◌, ℕ, List, String}
use Rattle.std.specs.BTreeSet.{BTreeSet, contains_text}
use Rattle.std.specs.Str.{bytes_eq}
use Rattle.dom_nodes.specs.Words.{is_among}
use Rattle.dom_sanitize.specs.Clean.{Lists}

-- The new set has the name and all names of the old set.
abbrev pub Gains : {A : Type 0} → List ℕ → BTreeSet (String A) → BTreeSet (String A) → Type 0
Gains name old new = (other : List ℕ) → contains_text new other ≡ (contains_text old other || bytes_eq name other)

-- The set has exactly these names.
abbrev pub IsSetOf : {A : Type 0} → BTreeSet (String A) → List (List ℕ) → Type 0
IsSetOf set names = (name : List ℕ) → contains_text set name ≡ is_among name names

-- The two sets have the names of the two lists of elements.
pub record HasSets {A : Type 0} (allow : Lists) (elements dropped : BTreeSet (String A)) : Type 0 where
  pub of_elements : IsSetOf elements allow.elements
  pub of_dropped : IsSetOf dropped allow.drop
