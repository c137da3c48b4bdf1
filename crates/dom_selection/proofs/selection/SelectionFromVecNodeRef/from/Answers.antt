use Rattle.std.proofs.Common.{sym, subst}
use Rattle.dom_selection.specs.Selections.{HasOneTree}
use Rattle.dom_selection.proofs.SelectionLemmas.{one_tree_in}
use Rattle.dom_selection.proofs.selection.SelectionFromVecNodeRef.from.Goals as goal

pub of_one_tree-requires : goal.of_one_tree-requires
of_one_tree-requires c = subst HasOneTree (sym c.put_in_one_tree.ensures) (one_tree_in c.args.nodes.items)
