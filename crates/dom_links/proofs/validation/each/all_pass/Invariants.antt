use Rattle.std.proofs.Common.{ℕ, ◌<◌}
use Rattle.dom_links.specs.Validation.{Passes}
use Rattle.dom_links.proofs.validation.each.all_pass.Given as goal

-- so holds of the nodes so far
abbrev pub invariant-loop-n : goal.invariant-loop-n
invariant-loop-n l = (k : ℕ) → k < l.n → Passes l.check l.nodes k
