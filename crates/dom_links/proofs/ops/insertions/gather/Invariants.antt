use Rattle.std.proofs.Common.{◌∷◌, take}
use Rattle.dom_links.specs.Forest.{forest_of}
use Rattle.dom_links.proofs.copies.Gathering.{IsGathered}
use Rattle.dom_links.proofs.ops.insertions.gather.Given as goal

abbrev pub invariant-loop-id : goal.invariant-loop-id
invariant-loop-id l = IsGathered (forest_of l.fn.nodes) (l.start ∷ take l.id-index l.others) l.nodes l.last
