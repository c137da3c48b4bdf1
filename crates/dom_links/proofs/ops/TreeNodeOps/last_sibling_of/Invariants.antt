use Rattle.std.proofs.Common.{length, false}
use Rattle.dom_links.specs.Forest.{forest_of}
use Rattle.dom_links.specs.Walk.{row_on}
use Rattle.dom_links.proofs.walks.RowWalks.{Going}
use Rattle.dom_links.proofs.ops.TreeNodeOps.last_sibling_of.Given as goal

-- the last node so far
abbrev pub invariant-loop-next : goal.invariant-loop-next
invariant-loop-next l = Going (forest_of l.nodes) l.fn.id l.next l.found

abbrev pub decreases-loop-next : goal.decreases-loop-next
decreases-loop-next l = length (row_on (forest_of l.nodes) false l.next)
