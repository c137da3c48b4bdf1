-- Copies are equal to the trees that were copied, with new ids.
use Rattle.std.specs.Prelude.{ℕ, ◌≡◌, ◌+◌, List, Some, length, slice_get}
use Rattle.dom_links.specs.Copies.{Extends, copied, copied_data, copy_numbers, data_at, node_count}
use Rattle.dom_links.specs.Forest.{Forest}
use Rattle.dom_links.specs.Sound.{IsForest}
use Rattle.dom_links.specs.Trees.{NoTrees, Tree, Trees, trees}

-- The trees with new ids from k on, in this order: a node, its template contents, its children, the
-- later trees.
abbrev pub renumbered : ℕ → Trees → Trees
renumbered k NoTrees = NoTrees
renumbered k (Tree n contents children later) =
    Tree k (renumbered (k + 1) contents) (renumbered (k + 1 + node_count contents) children)
    (renumbered (k + node_count (Tree n contents children NoTrees)) later)

-- The nodes with these new ids hold the data of the nodes of the trees, apart from the ids of
-- template contents.
abbrev pub HoldCopies : Forest → Trees → ℕ → Forest → Type 0
HoldCopies source NoTrees k forest = Unit {0}
HoldCopies source (Tree n contents children later) k forest =
    (slice_get source.content n ≡ Some (data_at source n))
    × (slice_get forest.content k ≡ Some (copied_data k (data_at source n)))
    × HoldCopies source contents (k + 1) forest
    × HoldCopies source children (k + 1 + node_count contents) forest
    × HoldCopies source later (k + node_count (Tree n contents children NoTrees)) forest

-- Nodes of the forest `source` were copied into `forest`: all old nodes stay as they were, and the
-- copies are equal to their originals, with consecutive new ids.
pub record AreCopies (source : Forest) (ns : List ℕ) (forest : Forest) : Type 0 where
  pub fine : IsForest (copied source ns forest)
  pub kept : Extends forest (copied source ns forest)
  pub many : length (copied source ns forest).content ≡ length forest.content + node_count (trees source ns)
  pub same_trees : trees (copied source ns forest) (copy_numbers source ns forest) ≡ renumbered (length forest.content) (trees source ns)
  pub same_data : HoldCopies source (trees source ns) (length forest.content) (copied source ns forest)
