use Rattle.std.proofs.Common.{drop}
use Rattle.dom_selection.specs.Selecting.{MatchesSomeNode}
use Rattle.dom_selection.proofs.selection.Selection.is_matcher.Given as goal

-- what is left decides
abbrev pub invariant-loop-node : goal.invariant-loop-node
invariant-loop-node l = (MatchesSomeNode l.matcher l.self → MatchesSomeNode l.matcher (drop l.node-index l.node-items)) × (MatchesSomeNode l.matcher (drop l.node-index l.node-items) → MatchesSomeNode l.matcher l.self)
