use Rattle.dom_links.proofs.moves.BlockWrites.{Setting}
use Rattle.dom_links.proofs.ops.list_writes.set_parents.Given as goal

-- the parents are set this far
abbrev pub invariant-loop-step : goal.invariant-loop-step
invariant-loop-step l = Setting l.initial.nodes l.nodes l.fn.x l.owner l._step l.end l.next
