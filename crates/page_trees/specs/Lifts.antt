-- The moves that make a tree nest less deep.
use Rattle.std.specs.Prelude.{◌≡◌, ◌⊎◌, ◌++◌, Bool, true, List, [], ◌∷◌, Some, not, ℕ}
use Rattle.std.specs.List.{list_all}
use Rattle.dom_links.specs.Forest.{Forest, children_of}
use Rattle.dom_links.specs.ListMoves.{element_at}
use Rattle.dom_links.specs.Moves.{moved_to}
use Rattle.dom_links.specs.declared.gap.InsertionPoint.TheVariants.{After}
use Rattle.dom_links.specs.Sound.{contents_at}

-- the node is the element, or its template contents
abbrev pub IsInsideOf : Forest → ℕ → ℕ → Type 0
IsInsideOf forest element n = (n ≡ element) ⊎ (contents_at forest element ≡ Some n)

-- none of these nodes is an element
abbrev pub has_no_element : Forest → List ℕ → Bool
has_no_element forest ns = list_all (λ n. not (element_at forest n)) ns

-- the last element among the children of a node
pub record IsLastElement (forest : Forest) (n child : ℕ) : Type 0 where
  pub before : List ℕ
  pub behind : List ℕ
  pub children : children_of forest n ≡ before ++ child ∷ behind
  pub element : element_at forest child ≡ true
  pub others : has_no_element forest behind ≡ true

-- From a forest to another: each step takes the last element among the children of an element, or of its template contents, and makes it
-- the next sibling of that element. So elements stay in document order.
pub data Lifts (after : Forest) : Forest → Type 0 where
  all_lifted : Lifts after after
  lifts : (forest : Forest) (element n child : ℕ) → IsInsideOf forest element n → IsLastElement forest n child →
      Lifts after (moved_to (child ∷ []) (After element) forest) → Lifts after forest
