use Rattle.std.proofs.Common.{◌≡◌, ◌++◌, drop, filter}
use Rattle.dom_selection.proofs.SetLemmas.{is_among}
use Rattle.dom_selection.proofs.selection.Selection.filter_selection.Given as goal

abbrev pub invariant-loop-node : goal.invariant-loop-node
invariant-loop-node l = l.kept.items ++ filter (is_among l.other) (drop l.node-index l.node-items) ≡ filter (is_among l.other) l.node-items
