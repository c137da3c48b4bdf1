use Rattle.std.proofs.Common.{◌≡◌, ◌+◌, ◌++◌, ℕ, List, length, drop}
use Rattle.dom_index.specs.Orders.{AreEndsBefore, IsTraversed}
use Rattle.dom_index.specs.Preorder.{preorder, preorder_to, run_on}
use Rattle.dom_index.proofs.preorder.visit_run.Given as goal

-- what is left of the order is what the run still gives, and more
abbrev pub invariant-loop-next : goal.invariant-loop-next
invariant-loop-next l = record {
  left : (rest : List ℕ) × (drop l.traversal.visited (preorder l.tree) ≡ run_on l.tree l.next ++ rest);
  counted : l.traversal.visited + length (run_on l.tree l.next) ≡ length (preorder_to l.tree (l.fn.first + 1));
  traversed : IsTraversed l.tree l.traversal;
  ends : AreEndsBefore l.tree l.next l.traversal.visited l.traversal.subtree_ends.items;
}

abbrev pub decreases-loop-next : goal.decreases-loop-next
decreases-loop-next l = length (run_on l.tree l.next)
