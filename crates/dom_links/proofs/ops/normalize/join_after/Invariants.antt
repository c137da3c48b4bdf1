use Rattle.std.proofs.Common.{length, false, string_bytes}
use Rattle.dom_links.specs.Forest.{forest_of}
use Rattle.dom_links.specs.Walk.{row_on}
use Rattle.dom_links.proofs.texts.Joining.{GoesOver}
use Rattle.dom_links.proofs.ops.normalize.join_after.Given as goal

-- the texts so far were joined
abbrev pub invariant-loop-next : goal.invariant-loop-next
invariant-loop-next l = GoesOver (forest_of l.nodes) l.fn.id (string_bytes l.fn.joined) (string_bytes l.joined) l.next

abbrev pub decreases-loop-next : goal.decreases-loop-next
decreases-loop-next l = length (row_on (forest_of l.nodes) false l.next)
