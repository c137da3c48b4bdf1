use Rattle.std.proofs.Common.{◌≡◌, ◌+◌, drop}
use Rattle.std.specs.List.{prefix_len}
use Rattle.dom_markup.specs.ByteClasses.{passes}
use Rattle.dom_markup.proofs.document.scan.front_len.Given as goal

abbrev pub invariant-loop-index : goal.invariant-loop-index
invariant-loop-index l = prefix_len (passes l.byte_class) l.bytes ≡ l.index + prefix_len (passes l.byte_class) (drop l.index l.bytes)
