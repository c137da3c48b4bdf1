use Rattle.dom_selection.proofs.SelectionLemmas.{one_tree_of}
use Rattle.dom_selection.proofs.selection.Selection.from_ids.Goals as goal

pub of_one_tree-requires : goal.of_one_tree-requires
of_one_tree-requires c = one_tree_of _ c.root-root.result.tree _ c.loop-id.invariant
