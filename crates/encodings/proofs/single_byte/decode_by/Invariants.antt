use Rattle.std.proofs.Common.{length}
use Rattle.decoded_text.specs.Characters.{Continues, IsCounted}
use Rattle.encodings.specs.SingleByte.{characters}
use Rattle.encodings.proofs.single_byte.decode_by.Given as goal

-- what is written and what is to come are the whole
abbrev pub invariant-loop-rest : goal.invariant-loop-rest
invariant-loop-rest l = record {
  continues : Continues l.fn.out (characters l.index l.bytes) l.out (characters l.index l.rest);
  counted : IsCounted l.out;
}

abbrev pub decreases-loop-rest : goal.decreases-loop-rest
decreases-loop-rest l = length l.rest
