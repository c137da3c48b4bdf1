use Rattle.std.proofs.Common.{drop}
use Rattle.dom_selection.proofs.SelectLemmas.{KeptSoFar}
use Rattle.dom_selection.proofs.selection.Selection.filter_matcher.Given as goal

abbrev pub invariant-loop-node : goal.invariant-loop-node
invariant-loop-node l = KeptSoFar l.matcher l.self l.kept.items (drop l.node-index l.node-items)
