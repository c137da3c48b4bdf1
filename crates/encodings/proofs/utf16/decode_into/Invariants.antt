use Rattle.std.proofs.Common.{◌≡◌, List, [], ◌++◌, length, ℕ}
use Rattle.std.specs.Prelude.{IsTrue}
use Rattle.decoded_text.specs.Characters.{Continues, IsCounted}
use Rattle.encodings.specs.Utf16.{characters}
use Rattle.encodings.proofs.utf16.decode_into.Given as goal

-- what is written and what is to come are the whole
abbrev pub invariant-loop-character : goal.invariant-loop-character
invariant-loop-character l = record {
  continues : (more : List ℕ) → (IsTrue l.is_last → more ≡ []) → Continues l.fn.out (characters l.order (l.bytes ++ more)) l.out (characters l.order (l.rest ++ more));
  counted : IsCounted l.out;
}

abbrev pub decreases-loop-character : goal.decreases-loop-character
decreases-loop-character l = length l.rest
