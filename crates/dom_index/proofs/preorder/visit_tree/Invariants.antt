use Rattle.dom_index.specs.Orders.{HasVisitedTo}
use Rattle.dom_index.proofs.preorder.visit_tree.Given as goal

abbrev pub invariant-loop-n : goal.invariant-loop-n
invariant-loop-n l = HasVisitedTo l.tree l.n l.traversal
