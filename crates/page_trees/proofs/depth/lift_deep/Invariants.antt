use Rattle.page_trees.specs.Lifts.{Lifts}
use Rattle.page_trees.proofs.depth.lift_deep.Given as goal

abbrev pub invariant-loop : goal.invariant-loop
invariant-loop l = Lifts l.tree l.fn.tree
