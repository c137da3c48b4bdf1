use Rattle.std.proofs.Common.{take}
use Rattle.std.specs.List.{flat_map}
use Rattle.std.specs.Io.KnownBytes.{Appends}
use Rattle.dom_markup.proofs.writing.put_parts.Given as goal

abbrev pub invariant-loop-part : goal.invariant-loop-part
invariant-loop-part g l = Appends (g.P.PutText.written l.fn.w) (g.P.PutText.written l.w) (flat_map (λ part. part.now) (take l.part-index l.parts))
