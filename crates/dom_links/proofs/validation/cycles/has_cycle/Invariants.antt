use Rattle.dom_links.specs.Validation.{AreMarks}
use Rattle.dom_links.proofs.validation.cycles.has_cycle.Given as goal

-- so far no way has met itself
abbrev pub invariant-loop-start : goal.invariant-loop-start
invariant-loop-start l = AreMarks l.links l.marks.items l.start
