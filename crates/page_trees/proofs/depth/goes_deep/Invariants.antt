use Rattle.std.proofs.Common.{◌≡◌, ◌≤◌, ◌+◌, length}
use Rattle.dom_links.specs.Forest.{forest_of}
use Rattle.page_trees.specs.DeepEdges.{goes_deep}
use Rattle.page_trees.proofs.depth.goes_deep.Given as goal

abbrev pub invariant-loop-edges : goal.invariant-loop-edges
invariant-loop-edges l = record {
  room : l.above ≤ l.most + 1;
  same : goes_deep (forest_of l.nodes) l.most l.above l.edges ≡ goes_deep (forest_of l.nodes) l.most 0 l.fn.edges;
}

abbrev pub decreases-loop-edges : goal.decreases-loop-edges
decreases-loop-edges l = length l.edges
