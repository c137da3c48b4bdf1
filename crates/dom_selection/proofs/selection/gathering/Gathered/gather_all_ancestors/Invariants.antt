use Rattle.dom_selection.proofs.AboveLemmas.{ClimbsOn}
use Rattle.dom_selection.proofs.selection.gathering.Gathered.gather_all_ancestors.Given as goal

abbrev pub invariant-loop-above : goal.invariant-loop-above
invariant-loop-above l = ClimbsOn l.fn.self l.self l.fn.id l.above-iterator
