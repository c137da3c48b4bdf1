use Rattle.std.proofs.Common.{ℕ, ◌<◌}
use Rattle.dom_links.specs.Validation.{HostsContents}
use Rattle.dom_links.proofs.validation.contents.host_contents.Given as goal

-- so holds of the nodes so far
abbrev pub invariant-loop-n : goal.invariant-loop-n
invariant-loop-n l = (k : ℕ) → k < l.n → HostsContents l.nodes l.hosts k
