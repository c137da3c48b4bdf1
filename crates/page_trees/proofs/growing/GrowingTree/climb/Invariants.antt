use Rattle.std.proofs.Common.{◌≤◌}
use Rattle.page_trees.proofs.InnerCalls.{IsUnderWay}
use Rattle.page_trees.proofs.growing.GrowingTree.climb.Given as goal

-- the elements behind the index are passed
abbrev pub invariant-loop-node_place : goal.invariant-loop-node_place
invariant-loop-node_place l = record {
  within : l.node_place ≤ l.furthest_place;
  passed : IsUnderWay l.place l.furthest_place l.node_place l.fn.bookmark l.bookmark l.initial.self l.self;
}

abbrev pub decreases-loop-node_place : goal.decreases-loop-node_place
decreases-loop-node_place l = l.node_place
