use Rattle.dom_links.specs.Forest.{prev_link}
use Rattle.dom_links.specs.Validation.{AreLinksBy}
use Rattle.dom_links.proofs.validation.cycles.siblings_before.Given as goal

-- the siblings before the nodes so far
abbrev pub invariant-loop-node : goal.invariant-loop-node
invariant-loop-node l = AreLinksBy l.prevs.items l.node-index (prev_link l.nodes)
