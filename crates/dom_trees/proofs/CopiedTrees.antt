-- Copies are the same trees.
use Rattle.std.proofs.Common.{ℕ, ◌≡◌, ◌+◌, Some, refl, sym, ap, ◌∙◌}
use Rattle.std.proofs.lemmas.Option.{slice_get_within}
use Rattle.std.specs.Option.{option_map}
use Rattle.dom_nodes.specs.declared.node_data.NodeData.{NodeData}
use Rattle.dom_links.specs.Copying.{AreNodesOf}
use Rattle.dom_links.specs.Copies.{copied_data, data_at, root_numbers, node_count}
use Rattle.dom_links.specs.CopiedTrees.{HoldCopies, renumbered}
use Rattle.dom_links.specs.Forest.{Forest}
use Rattle.dom_links.specs.Trees.{NoTrees, Tree, Trees}
use Rattle.dom_links.proofs.copies.CopiedForests.{copied_same}
use Rattle.dom_trees.specs.SameTree.{compared, tree_shape}

compared-copied : (k : ℕ) (content : NodeData) → compared (copied_data k content) ≡ compared content
compared-copied = copied_same compared (λ element contents. refl)

-- the copies show what the trees show
pub same_shown : (source forest : Forest) (ts : Trees) (k : ℕ) → HoldCopies source ts k forest → tree_shape source ts ≡ tree_shape forest (renumbered k ts)
same_shown source forest NoTrees k hold = refl
same_shown source forest (Tree n contents children later) k hold =
    let one = ap (option_map compared) hold.0 ∙ ap Some (sym (compared-copied k (data_at source n))) ∙ sym (ap (option_map compared) hold.1) in
    let two = same_shown source forest contents (k + 1) hold.2 in
    let three = same_shown source forest children (k + 1 + node_count contents) hold.3 in
    let four = same_shown source forest later (k + node_count (Tree n contents children NoTrees)) hold.4 in
    cc

-- the copies are nodes of the forest
pub copies_known : (source forest : Forest) (ts : Trees) (k : ℕ) → HoldCopies source ts k forest → AreNodesOf forest (root_numbers k ts)
copies_known source forest NoTrees k hold = tt
copies_known source forest (Tree n contents children later) k hold =
    (slice_get_within forest.content k (copied_data k (data_at source n)) hold.1, copies_known source forest later (k + node_count (Tree n contents children NoTrees)) hold.4)
