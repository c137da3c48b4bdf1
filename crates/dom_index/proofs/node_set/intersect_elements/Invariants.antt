use Rattle.std.specs.Prelude.{◌&&◌}
use Rattle.dom_links.specs.ListMoves.{element_at}
use Rattle.dom_index.specs.NodeSets.{in_set}
use Rattle.dom_index.proofs.FillLemmas.{Filled}
use Rattle.dom_index.proofs.node_set.intersect_elements.Given as goal

abbrev pub invariant-loop-n : goal.invariant-loop-n
invariant-loop-n l = Filled (λ m. in_set l.fn.table.items m && element_at l.preorder.tree.now m) l.fn.table.items l.table.items l.n
