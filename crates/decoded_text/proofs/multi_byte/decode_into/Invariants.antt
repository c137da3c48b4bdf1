use Rattle.std.proofs.Common.{◌≡◌, ℕ, List, [], ◌++◌, length}
use Rattle.std.specs.Prelude.{IsTrue}
use Rattle.decoded_text.specs.Characters.{Continues, IsCounted}
use Rattle.decoded_text.proofs.multi_byte.decode_into.Given as goal

-- what is written and what is to come are the whole
abbrev pub invariant-loop-character : goal.invariant-loop-character
invariant-loop-character g l = record {
  continues : (more : List ℕ) → (IsTrue l.is_last → more ≡ []) → Continues l.fn.out (g.E.MultiByte.characters (l.bytes ++ more)) l.out (g.E.MultiByte.characters (l.rest ++ more));
  counted : IsCounted l.out;
}

abbrev pub decreases-loop-character : goal.decreases-loop-character
decreases-loop-character g l = length l.rest
