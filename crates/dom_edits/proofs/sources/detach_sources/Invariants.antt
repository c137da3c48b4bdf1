use Rattle.std.proofs.Common.{drop}
use Rattle.dom_links.specs.Copying.{AreNodesOf}
use Rattle.dom_edits.proofs.sources.detach_sources.Given as goal

-- what is left decides
abbrev pub invariant-loop-id : goal.invariant-loop-id
invariant-loop-id l = AreNodesOf l.tree (drop l.id-index l.sources) → AreNodesOf l.tree l.sources
