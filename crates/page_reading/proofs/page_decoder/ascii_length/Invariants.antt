use Rattle.std.proofs.Common.{take}
use Rattle.std.specs.Str.{IsAscii}
use Rattle.page_reading.proofs.page_decoder.ascii_length.Given as goal

abbrev pub invariant-loop-i : goal.invariant-loop-i
invariant-loop-i l = IsAscii (take l.i l.bytes)
