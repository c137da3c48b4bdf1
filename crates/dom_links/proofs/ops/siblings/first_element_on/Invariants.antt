use Rattle.std.proofs.Common.{length}
use Rattle.dom_links.specs.Forest.{forest_of}
use Rattle.dom_links.specs.Walk.{row_on}
use Rattle.dom_links.proofs.walks.RowWalks.{Seeking}
use Rattle.dom_links.proofs.ops.siblings.first_element_on.Given as goal

-- no element was met yet
abbrev pub invariant-loop-next : goal.invariant-loop-next
invariant-loop-next l = Seeking (forest_of l.nodes) l.rev l.fn.from l.next

abbrev pub decreases-loop-next : goal.decreases-loop-next
decreases-loop-next l = length (row_on (forest_of l.nodes) l.rev l.next)
