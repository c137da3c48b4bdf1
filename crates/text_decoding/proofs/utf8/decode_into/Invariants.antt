use Rattle.std.proofs.Common.{List, ◌++◌, length}
use Rattle.std.specs.Prelude.{ℕ}
use Rattle.decoded_text.specs.Characters.{Continues, IsCounted}
use Rattle.text_decoding.specs.Utf8.{characters}
use Rattle.text_decoding.proofs.utf8.decode_into.Given as goal

-- what is written and what is to come are the whole
abbrev pub invariant-loop-rest : goal.invariant-loop-rest
invariant-loop-rest l = record {
  continues : (more : List ℕ) → Continues l.fn.out (characters l.fn.start (l.bytes ++ more)) l.out (characters l.state (l.rest ++ more));
  counted : IsCounted l.out;
}

abbrev pub decreases-loop-rest : goal.decreases-loop-rest
decreases-loop-rest l = length l.rest
