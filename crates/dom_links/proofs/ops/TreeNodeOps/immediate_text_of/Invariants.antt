use Rattle.std.proofs.Common.{◌≡◌, ◌++◌, string_bytes}
use Rattle.std.specs.List.{flat_map}
use Rattle.dom_links.specs.Forest.{forest_of}
use Rattle.dom_links.specs.Texts.{text_at, immediate_text_of}
use Rattle.dom_links.proofs.ops.TreeNodeOps.immediate_text_of.Given as goal

-- what was joined, and then the texts of the children that are left
abbrev pub invariant-loop-child : goal.invariant-loop-child
invariant-loop-child l = string_bytes l.joined ++ flat_map (text_at (forest_of l.nodes)) l.child-iterator ≡ immediate_text_of (forest_of l.nodes) l.id
