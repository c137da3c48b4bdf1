use Rattle.std.proofs.Common.{◌≡◌, ◌++◌, length, drop}
use Rattle.std.specs.List.{flat_map}
use Rattle.dom_links.specs.Trees.{descendants_in_order}
use Rattle.dom_index.specs.Collected.{collected}
use Rattle.dom_index.proofs.collect.collect_matches.Given as goal

-- what was collected and what is still to be collected
abbrev pub invariant-loop-root : goal.invariant-loop-root
invariant-loop-root l =
    let forest = l.preorder.tree.now in
    record {
      long : length l.table.items ≡ length forest.content;
      all : l.found.items ++ collected forest l.table.items (flat_map (descendants_in_order forest) (drop l.root-index l.roots)) ≡ collected forest l.fn.table.items (flat_map (descendants_in_order forest) l.roots);
    }
