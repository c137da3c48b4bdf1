use Rattle.std.proofs.Common.{false, length}
use Rattle.dom_links.specs.Forest.{forest_of}
use Rattle.dom_links.specs.Walk.{later}
use Rattle.dom_links.proofs.walks.SiblingWalks.{Seeking}
use Rattle.dom_links.proofs.ops.placing.is_at_or_after.Given as goal

-- n was not met yet
abbrev pub invariant-loop-n : goal.invariant-loop-n
invariant-loop-n l = Seeking (forest_of l.nodes) l.fn.x l.n l.at

abbrev pub decreases-loop-n : goal.decreases-loop-n
decreases-loop-n l = length (later (forest_of l.nodes) false l.at)
