use Rattle.std.proofs.Common.{◌≡◌, ◌<◌, ℕ, Some}
use Rattle.dom_links.specs.Forest.{forest_of}
use Rattle.dom_links.specs.Sound.{contents_at}
use Rattle.dom_links.proofs.ops.placing.host_of.Given as goal

-- no node so far holds n
abbrev pub invariant-loop-node : goal.invariant-loop-node
invariant-loop-node l = (m : ℕ) → m < l.node-index → contents_at (forest_of l.nodes) m ≡ Some l.n → ⊥
