use Rattle.std.proofs.Common.{◌≡◌, ◌++◌, None, []}
use Rattle.dom_links.specs.Forest.{children_of, forest_of}
use Rattle.dom_links.specs.Lists.{first}
use Rattle.dom_mini.specs.Descents.{IsDescent, still_found, still_visited, waiting}
use Rattle.dom_mini.proofs.mini_selector.descent.follow_down.Given as goal

abbrev pub invariant-loop-next : goal.invariant-loop-next
invariant-loop-next l = record {
  search : IsDescent (forest_of l.nodes) l.path (still_found (forest_of l.nodes) l.path (waiting (first (children_of (forest_of l.nodes) l.fn.start)) 0)) l.found.items (l.pending.items ++ waiting l.next l.passed);
  ended : l.next ≡ None → l.pending.items ≡ [];
}

abbrev pub decreases-loop-next : goal.decreases-loop-next
decreases-loop-next l = still_visited (forest_of l.nodes) (l.pending.items ++ waiting l.next l.passed)
