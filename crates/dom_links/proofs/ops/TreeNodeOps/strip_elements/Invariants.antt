use Rattle.std.proofs.Common.{length, map}
use Rattle.dom_links.specs.Forest.{forest_of}
use Rattle.dom_links.specs.Walk.{walk_on}
use Rattle.dom_links.proofs.moves.Stripping.{Stripping}
use Rattle.dom_links.proofs.ops.TreeNodeOps.strip_elements.Given as goal

-- what was passed is stripped, and the rest is as it was
abbrev pub invariant-loop-next : goal.invariant-loop-next
invariant-loop-next l = Stripping l.fn.nodes l.nodes l.id (map (λ name. name.now) l.names) l.next

abbrev pub decreases-loop-next : goal.decreases-loop-next
decreases-loop-next l = length (walk_on (forest_of l.nodes) l.id l.next)
