use Rattle.std.proofs.Common.{true, length}
use Rattle.dom_links.specs.Forest.{forest_of}
use Rattle.dom_links.specs.Walk.{later}
use Rattle.dom_links.proofs.forest.Places.{Beside}
use Rattle.dom_links.proofs.ops.siblings.first_sibling_of.Given as goal

-- a node of the list is reached
abbrev pub invariant-loop-prev : goal.invariant-loop-prev
invariant-loop-prev l = Beside (forest_of l.nodes) l.fn.x l.at

abbrev pub decreases-loop-prev : goal.decreases-loop-prev
decreases-loop-prev l = length (later (forest_of l.nodes) true l.at)
