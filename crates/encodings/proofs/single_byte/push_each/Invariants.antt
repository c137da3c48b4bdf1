use Rattle.std.proofs.Common.{take}
use Rattle.decoded_text.specs.Characters.{Appends, IsCounted}
use Rattle.encodings.specs.SingleByte.{characters}
use Rattle.encodings.proofs.single_byte.push_each.Given as goal

abbrev pub invariant-loop-byte : goal.invariant-loop-byte
invariant-loop-byte l = record { appends : Appends l.fn.out l.out (characters l.index (take l.byte-index l.bytes)); counted : IsCounted l.out }
