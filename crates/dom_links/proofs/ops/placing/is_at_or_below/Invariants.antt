use Rattle.dom_links.specs.Forest.{forest_of}
use Rattle.dom_links.proofs.forest.Climbs.{Climb}
use Rattle.dom_links.proofs.ops.placing.is_at_or_below.Given as goal

-- the climb has come this far
abbrev pub invariant-loop-step : goal.invariant-loop-step
invariant-loop-step l = Climb (forest_of l.nodes) l.fn.t l.x l.at l._step
