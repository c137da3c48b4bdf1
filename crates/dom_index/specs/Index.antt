-- What an index of a tree's nodes contains.
use Rattle.std.specs.Prelude.{ℕ, ◌≡◌, ◌<◌, ◌≤◌, ◌*◌, ◌⊎◌, true, List, Option, Some, MatchOption, Result, IfOk, length}
use Rattle.std.specs.Global.{Vec}
use Rattle.std.specs.Borrow.{Bor}
use Rattle.dom_links.specs.Forest.{Forest}
use Rattle.dom_nodes.specs.declared.indexes.IndexKind.{IndexKind}
use Rattle.dom_links.specs.Indexes.{index_at}
use Rattle.dom_links.specs.Lists.{is_member}
use Rattle.dom_links.specs.Trees.{descendants_in_order}
use Rattle.dom_trees.specs.declared.node_ref.NodeRef.{NodeRef}
use Rattle.dom_trees.specs.Views.{refs_to}
use Rattle.dom_selectors.specs.Syntax.{SelectorList}
use Rattle.dom_select.specs.Selected.{Selected}
use Rattle.dom_index.specs.CompoundCounts.{selectors_count}
use Rattle.dom_index.specs.Preorder.{position}

-- the tree that is indexed, and the number of tests of the last selection
pub record Indexed : Type 0 where
  pub tree : Bor Forest
  pub tests : ℕ

-- the results are references to the nodes that the selector selects below the roots
abbrev pub Finds : Bor Forest → List ℕ → SelectorList → List NodeRef → Type 0
Finds tree roots selector found = (ids : List ℕ) × Selected tree.now roots selector ids × (found ≡ refs_to tree ids)

-- What a call that selects by an index returns, and the index after it: the nodes that the selector selects below the roots; a
-- test for each compound at each node at most; the same tree
abbrev pub SelectsByIndex : {E : Type 0} → Result (Vec NodeRef) E → List ℕ → SelectorList → Indexed → Indexed → Type 0
SelectsByIndex result roots selector old new =
    IfOk result (λ found. Finds old.tree roots selector found.items) × (new.tests ≤ selectors_count selector * length old.tree.now.content) × (new.tree ≡ old.tree)

-- `m` is `n` or a descendant of it
abbrev pub IsAtOrBelow : Forest → ℕ → ℕ → Type 0
IsAtOrBelow forest n m = (m ≡ n) ⊎ (is_member m (descendants_in_order forest n) ≡ true)

-- the greatest position at or below `n`
pub record IsLastBelow (forest : Forest) (n last : ℕ) : Type 0 where
  pub reached : (m : ℕ) × IsAtOrBelow forest n m × (position forest m ≡ Some last)
  pub greatest : (m other : ℕ) → IsAtOrBelow forest n m → position forest m ≡ Some other → other ≤ last

-- the greatest position at or below `n`, or `None` if the forest has no such node
abbrev pub GivesLastBelow : Forest → ℕ → Option ℕ → Type 0
GivesLastBelow forest n result = MatchOption result (length forest.content ≤ n) (λ last. IsLastBelow forest n last)

-- the index of `n` among its siblings, or `None` if the forest has no such node
abbrev pub GivesIndex : IndexKind → Forest → ℕ → Option ℕ → Type 0
GivesIndex kind forest n result =
    MatchOption result (length forest.content ≤ n) (λ index. (n < length forest.content) × (index ≡ index_at kind forest n))
