use Rattle.std.proofs.Common.{◌≡◌, ◌+◌, ◌∷◌, length}
use Rattle.dom_links.specs.Trees.{ancestors}
use Rattle.dom_links.specs.Walk.{IsWithin}
use Rattle.dom_index.specs.Orders.{AreSubtreeEnds}
use Rattle.dom_index.specs.Preorder.{run_past}
use Rattle.dom_index.proofs.TraversalLemmas.{path_from}
use Rattle.dom_index.proofs.preorder.end_subtrees.Given as goal

-- what is past the first node is past the one that ends now
abbrev pub invariant-loop-ended : goal.invariant-loop-ended
invariant-loop-ended l = record {
  within : IsWithin l.tree l.ended;
  past : run_past l.tree (l.fn.id ∷ ancestors l.tree l.fn.id) ≡ run_past l.tree (path_from l.tree l.ended);
  ended : AreSubtreeEnds l.tree (path_from l.tree l.ended) (l.last + 1) (length (run_past l.tree (path_from l.tree l.ended))) l.subtree_ends.items;
}

abbrev pub decreases-loop-ended : goal.decreases-loop-ended
decreases-loop-ended l = length (path_from l.tree l.ended)
