use Rattle.std.proofs.Common.{◌++◌, drop}
use Rattle.dom_links.specs.Trees.{descendants_in_order}
use Rattle.dom_index.specs.Collected.{collected, set_left}
use Rattle.dom_index.proofs.CollectLemmas.{Collected}
use Rattle.dom_index.proofs.collect.collect_below.Given as goal

-- what was collected and what is still to be collected
abbrev pub invariant-loop-i : goal.invariant-loop-i
invariant-loop-i l =
    let forest = l.preorder.tree.now in
    let walk = descendants_in_order forest l.fn.root in
    Collected forest l.found.items l.table.items (drop l.i l.row) (l.fn.found.items ++ collected forest l.fn.table.items walk) (set_left forest l.fn.table.items walk)
