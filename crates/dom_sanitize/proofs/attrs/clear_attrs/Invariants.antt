use Rattle.std.proofs.Common.{length, map}
use Rattle.dom_sanitize.specs.Plan.{clear_one}
use Rattle.dom_sanitize.proofs.Doing.{Doing}
use Rattle.dom_sanitize.proofs.attrs.clear_attrs.Given as goal

abbrev pub invariant-loop-last : goal.invariant-loop-last
invariant-loop-last l = Doing (clear_one (map (λ name. name.now) l.names)) l.steps l.rest l.fn.tree l.tree

abbrev pub decreases-loop-last : goal.decreases-loop-last
decreases-loop-last l = length l.rest
