use Rattle.std.proofs.Common.{◌≡◌, ◌++◌, string_bytes}
use Rattle.std.specs.List.{flat_map}
use Rattle.dom_links.specs.Forest.{forest_of}
use Rattle.dom_links.specs.Texts.{text_at, text_of}
use Rattle.dom_links.proofs.ops.TreeNodeOps.text_of.Given as goal

-- what was joined, and then the texts of the nodes that are left
abbrev pub invariant-loop-below : goal.invariant-loop-below
invariant-loop-below l = string_bytes l.text ++ flat_map (text_at (forest_of l.nodes)) l.below-iterator.left ≡ text_of (forest_of l.nodes) l.id
