use Rattle.page_trees.proofs.LiftLemmas.{Lifting}
use Rattle.page_trees.proofs.depth.lift_from.Given as goal

abbrev pub invariant-loop-child : goal.invariant-loop-child
invariant-loop-child l = Lifting l.fn.tree l.tree l.element l.fn.holder l.children.items

abbrev pub decreases-loop-child : goal.decreases-loop-child
decreases-loop-child l = goal.left-loop-child l
