-- Which nodes of a page an article keeps.
use Rattle.std.specs.Prelude.{ℕ, ◌≡◌, ◌⊎◌, ◌&&◌, not, Bool, true, false, List, Some, slice_index_or, slice_set, if◌then◌else◌}
use Rattle.std.specs.Option.{option_map_or}
use Rattle.dom_links.specs.Forest.{Forest, parent}
use Rattle.dom_links.specs.Lists.{is_member}
use Rattle.dom_links.specs.Trees.{descendants_in_order}
use Rattle.dom_article.specs.Hidden.{IsHidden, hidden_at}

-- Whether node n is marked.
abbrev pub marked : List Bool → ℕ → Bool
marked marks n = slice_index_or marks n false

-- The node is below the root, and its parent is marked.
pub record IsBelowMarked (forest : Forest) (root : ℕ) (marks : List Bool) (n : ℕ) : Type 0 where
  pub below : is_member n (descendants_in_order forest root) ≡ true
  pub parent_marked : (p : ℕ) × (parent forest n ≡ Some p) × (marked marks p ≡ true)

-- No node is marked.
abbrev pub HasNone : List Bool → Type 0
HasNone marks = (n : ℕ) → marked marks n ≡ true → ⊥

-- The marked nodes are the tree below the root with subtrees left out: each is the root, or is
-- below the root and has a marked parent.
abbrev pub IsPruned : Forest → ℕ → List Bool → Type 0
IsPruned forest root marks =
    (n : ℕ) → marked marks n ≡ true → (n ≡ root) ⊎ IsBelowMarked forest root marks n

-- No marked node is hidden, by itself or because it is inside a hidden node.
abbrev pub NothingHidden : Forest → List Bool → Type 0
NothingHidden forest marks = (n : ℕ) → marked marks n ≡ true → IsHidden forest n → ⊥

-- The node was marked, and no other.
pub record Gains (n : ℕ) (old new : List Bool) : Type 0 where
  pub only : (m : ℕ) → marked new m ≡ true → (m ≡ n) ⊎ (marked old m ≡ true)
  pub all : (m : ℕ) → marked old m ≡ true → marked new m ≡ true

-- Each marked node is marked in the other list too.
abbrev pub AreAmong : List Bool → List Bool → Type 0
AreAmong marks others = (n : ℕ) → marked marks n ≡ true → marked others n ≡ true

-- The node has a marked parent.
abbrev pub HasMarkedParent : Forest → List Bool → ℕ → Type 0
HasMarkedParent forest marks n = (p : ℕ) × (parent forest n ≡ Some p) × (marked marks p ≡ true)

-- Whether the node has a marked parent.
abbrev pub is_below_marked : Forest → ℕ → List Bool → Bool
is_below_marked forest n marks = option_map_or (marked marks) (parent forest n) false

-- The marks with node n marked too, if it isn't hidden itself and its parent is marked.
abbrev pub with_shown : Forest → ℕ → List Bool → List Bool
with_shown forest n marks =
    if not (hidden_at forest n) && is_below_marked forest n marks then slice_set marks n true else marks

-- What an article keeps of a page: the tree below the root with subtrees left out, and nothing that
-- is hidden.
pub record IsExtract (forest : Forest) (root : ℕ) (marks : List Bool) : Type 0 where
  pub pruned : IsPruned forest root marks
  pub shown : NothingHidden forest marks
