use Rattle.std.proofs.Common.{length, true}
use Rattle.dom_links.specs.Forest.{forest_of}
use Rattle.dom_links.specs.Walk.{row_on}
use Rattle.dom_links.proofs.texts.Joining.{GoesBack}
use Rattle.dom_links.proofs.ops.normalize.nearest_before.Given as goal

-- only empty texts were met
abbrev pub invariant-loop-next : goal.invariant-loop-next
invariant-loop-next l = GoesBack (forest_of l.nodes) l.fn.id l.next

abbrev pub decreases-loop-next : goal.decreases-loop-next
decreases-loop-next l = length (row_on (forest_of l.nodes) true l.next)
