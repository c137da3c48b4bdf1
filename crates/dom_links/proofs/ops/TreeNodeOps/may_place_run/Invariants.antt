use Rattle.dom_links.specs.Forest.{forest_of}
use Rattle.dom_links.proofs.walks.SiblingWalks.{ClimbsPast}
use Rattle.dom_links.proofs.ops.TreeNodeOps.may_place_run.Given as goal

-- the climb has come this far
abbrev pub invariant-loop-step : goal.invariant-loop-step
invariant-loop-step l = ClimbsPast (forest_of l.nodes) l.fn.t l.x l.at l._step
