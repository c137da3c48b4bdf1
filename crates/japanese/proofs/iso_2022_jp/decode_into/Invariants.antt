use Rattle.std.proofs.Common.{◌≡◌, ℕ, List, [], ◌++◌, length}
use Rattle.std.specs.Prelude.{IsTrue}
use Rattle.decoded_text.specs.Characters.{Continues, IsCounted}
use Rattle.japanese.specs.declared.table.TheConstants.{JIS0208}
use Rattle.japanese.specs.Iso2022Jp.{characters}
use Rattle.japanese.proofs.iso_2022_jp.decode_into.Given as goal

-- what is written and what is to come are the whole
abbrev pub invariant-loop-step : goal.invariant-loop-step
invariant-loop-step l = record {
  continues : (more : List ℕ) → (IsTrue l.is_last → more ≡ []) → Continues l.fn.out (characters JIS0208 l.fn.start (l.bytes ++ more)) l.out (characters JIS0208 l.state (l.rest ++ more));
  counted : IsCounted l.out;
}

abbrev pub decreases-loop-step : goal.decreases-loop-step
decreases-loop-step l = length l.rest
