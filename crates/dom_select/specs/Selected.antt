-- Which nodes a selector selects below some roots.
use Rattle.std.specs.Prelude.{◌≡◌, ℕ, ◌⊎◌, Bool, true, List, [], ◌∷◌, if◌then◌else◌}
use Rattle.std.specs.List.{flat_map}
use Rattle.dom_links.specs.Forest.{Forest}
use Rattle.dom_links.specs.Lists.{is_member, IsDistinct}
use Rattle.dom_links.specs.Trees.{descendants_in_order}
use Rattle.dom_selectors.specs.Syntax.{SelectorList}
use Rattle.dom_links.specs.ListMoves.{element_at}
use Rattle.dom_select.specs.Meaning.{MatchesNode}

-- the first occurrence of each id, without those in `before`
abbrev pub first_occurrences : List ℕ → List ℕ → List ℕ
first_occurrences before [] = []
first_occurrences before (n ∷ ns) = if is_member n before then first_occurrences before ns else n ∷ first_occurrences (n ∷ before) ns

-- `matched` are the ids of the list for which the statement holds, in order
abbrev pub FiltersTo : (ℕ → Type 0) → List ℕ → List ℕ → Type 0
FiltersTo P [] matched = matched ≡ []
FiltersTo P (n ∷ ns) matched = (P n × (rest : List ℕ) × (matched ≡ n ∷ rest) × FiltersTo P ns rest) ⊎ ((P n → ⊥) × FiltersTo P ns matched)

-- a list of this id if the flag is true, and otherwise an empty list
abbrev pub one_if : Bool → ℕ → List ℕ
one_if b n = if b then n ∷ [] else []

-- the nodes below the roots, root by root in document order, each once
abbrev pub walks_below : Forest → List ℕ → List ℕ
walks_below forest roots = first_occurrences [] (flat_map (descendants_in_order forest) roots)

-- The selector selects exactly these nodes below the roots: the elements that it matches, each once, in the order of
-- `walks_below`.
unfoldable pub Selected : Forest → List ℕ → SelectorList → List ℕ → Type 0
Selected forest roots selector matched = FiltersTo (λ n. (element_at forest n ≡ true) × MatchesNode selector forest n) (walks_below forest roots) matched

-- a selector selects at most one list of nodes
abbrev pub SelectsOneList : Type 0
SelectsOneList = (forest : Forest) (roots : List ℕ) (selector : SelectorList) (a b : List ℕ) → Selected forest roots selector a → Selected forest roots selector b → a ≡ b

-- the matched nodes are exactly the elements below the roots that the selector matches, each once
pub record IsSelection (forest : Forest) (roots : List ℕ) (selector : SelectorList) (matched : List ℕ) : Type 0 where
  pub below : (n : ℕ) → is_member n matched ≡ true → is_member n (flat_map (descendants_in_order forest) roots) ≡ true
  pub elements : (n : ℕ) → is_member n matched ≡ true → element_at forest n ≡ true
  pub meant : (n : ℕ) → is_member n matched ≡ true → MatchesNode selector forest n
  pub all : (n : ℕ) → is_member n (flat_map (descendants_in_order forest) roots) ≡ true → element_at forest n ≡ true → MatchesNode selector forest n → is_member n matched ≡ true
  pub once : IsDistinct matched

-- what a selector selects has these properties
abbrev pub SelectsExactly : Type 0
SelectsExactly = (forest : Forest) (roots : List ℕ) (selector : SelectorList) (matched : List ℕ) → Selected forest roots selector matched → IsSelection forest roots selector matched
