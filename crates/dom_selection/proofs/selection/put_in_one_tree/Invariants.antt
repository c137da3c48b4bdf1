use Rattle.std.proofs.Common.{◌≡◌, ◌++◌, drop, take, map}
use Rattle.dom_selection.proofs.SelectionLemmas.{in_tree_of}
use Rattle.dom_selection.proofs.selection.put_in_one_tree.Given as goal

abbrev pub invariant-loop-i : goal.invariant-loop-i
invariant-loop-i l = l.nodes.items ≡ map (in_tree_of l.fn.nodes.items) (take l.i l.fn.nodes.items) ++ drop l.i l.fn.nodes.items
