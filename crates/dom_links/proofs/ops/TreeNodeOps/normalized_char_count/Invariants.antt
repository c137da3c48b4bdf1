use Rattle.std.proofs.Common.{length}
use Rattle.std.specs.List.{flat_map}
use Rattle.dom_links.specs.Forest.{forest_of}
use Rattle.dom_links.specs.Texts.{IsCounting, collapsed, text_at, text_of}
use Rattle.dom_links.proofs.ops.TreeNodeOps.normalized_char_count.Given as goal

-- the texts of the nodes that are left are still to be counted
abbrev pub invariant-loop-below : goal.invariant-loop-below
invariant-loop-below l = IsCounting l.read.count l.read.gap (flat_map (text_at (forest_of l.nodes)) l.below-iterator.left) (length (collapsed (text_of (forest_of l.nodes) l.id)))
