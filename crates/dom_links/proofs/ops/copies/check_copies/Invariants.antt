use Rattle.std.proofs.Common.{drop}
use Rattle.dom_links.specs.Copies.{MayCopy}
use Rattle.dom_links.specs.Forest.{forest_of}
use Rattle.dom_links.proofs.ops.copies.check_copies.Given as goal

-- what is left decides
abbrev pub invariant-loop-id : goal.invariant-loop-id
invariant-loop-id l = MayCopy (forest_of l.nodes) (drop l.id-index l.ids) → MayCopy (forest_of l.nodes) l.ids
