use Rattle.std.proofs.Common.{◌≡◌, ◌++◌}
use Rattle.dom_links.specs.Forest.{forest_of}
use Rattle.dom_links.specs.Rewrites.{rewrites}
use Rattle.dom_links.specs.Trees.{descendants_in_order}
use Rattle.dom_links.proofs.ops.normalize.rewrites_below.Given as goal

-- what was found, and then what is found of the nodes that are left
abbrev pub invariant-loop-below : goal.invariant-loop-below
invariant-loop-below l = l.found.items ++ rewrites (forest_of l.nodes) l.below-iterator.left ≡ rewrites (forest_of l.nodes) (descendants_in_order (forest_of l.nodes) l.id)
