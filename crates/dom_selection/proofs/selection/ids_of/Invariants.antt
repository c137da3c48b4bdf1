use Rattle.std.proofs.Common.{◌≡◌, ◌++◌, drop}
use Rattle.dom_selection.specs.Selections.{ids_of}
use Rattle.dom_selection.proofs.selection.ids_of.Given as goal

abbrev pub invariant-loop-node : goal.invariant-loop-node
invariant-loop-node l = l.ids.items ++ ids_of (drop l.node-index l.nodes) ≡ ids_of l.nodes
