use Rattle.std.proofs.Common.{◌↔◌, drop}
use Rattle.dom_select.specs.Parts.{EachHolds}
use Rattle.dom_select.proofs.matcher.compounds.each_passes.Given as goal

-- the parts that are left decide
abbrev pub invariant-loop-part : goal.invariant-loop-part
invariant-loop-part l = EachHolds (drop l.part-index l.parts) l.x.tree.now l.x.id ↔ EachHolds l.parts l.x.tree.now l.x.id
