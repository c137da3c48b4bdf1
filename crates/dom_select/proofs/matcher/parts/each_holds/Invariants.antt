use Rattle.std.proofs.Common.{◌≡◌, ◌↔◌, drop}
use Rattle.dom_select.specs.Parts.{EachHolds}
use Rattle.dom_select.proofs.matcher.parts.each_holds.Given as goal

-- the parts that are left decide
abbrev pub invariant-loop-part : goal.invariant-loop-part
invariant-loop-part l = record {
  kept : l.caches ≡ l.fn.caches;
  same : EachHolds (drop l.part-index l.parts) l.fn.caches l.id ↔ EachHolds l.parts l.fn.caches l.id;
}
