use Rattle.dom_links.proofs.checks.Cycles.{Walks, unmarked}
use Rattle.dom_links.proofs.validation.cycles.closes_cycle.Given as goal

-- the way from the start has come this far
abbrev pub invariant-loop-marks : goal.invariant-loop-marks
invariant-loop-marks l = Walks l.links l.marks l.start l.at

abbrev pub decreases-loop-marks : goal.decreases-loop-marks
decreases-loop-marks l = unmarked l.marks
