use Rattle.std.proofs.Common.{length}
use Rattle.dom_sanitize.specs.Plan.{cut_one}
use Rattle.dom_sanitize.proofs.Doing.{Doing}
use Rattle.dom_sanitize.proofs.moves.cut_out.Given as goal

abbrev pub invariant-loop-last : goal.invariant-loop-last
invariant-loop-last l = Doing cut_one l.steps l.rest l.fn.tree l.tree

abbrev pub decreases-loop-last : goal.decreases-loop-last
decreases-loop-last l = length l.rest
