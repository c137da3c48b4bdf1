use Rattle.std.proofs.Common.{◌≡◌, ◌++◌, drop}
use Rattle.dom_links.specs.Lists.{without}
use Rattle.dom_selection.specs.Selections.{ids_of, refs_in}
use Rattle.dom_selection.proofs.selection.Selection.add_selection.Given as goal

abbrev pub invariant-loop-node : goal.invariant-loop-node
invariant-loop-node l =
    l.all.items ++ refs_in l.self (without (ids_of l.self) (ids_of (drop l.node-index l.node-items))) ≡ l.self ++ refs_in l.self (without (ids_of l.self) (ids_of l.node-items))
