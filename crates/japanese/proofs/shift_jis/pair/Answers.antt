use Rattle.japanese.specs.declared.table.TheConstants.{JIS0208}
use Rattle.japanese.specs.ShiftJis.{characters}
use Rattle.japanese.proofs.ShiftJisSteps.{cut, pair}
use Rattle.japanese.proofs.shift_jis.pair.Goals as goal

pub returns-then-is_last-clause-some : goal.returns-then-is_last-clause-some
returns-then-is_last-clause-some c = λ more last. cut _ _ more _ c.requires c.in_default.ensures.cases (last c.if-is_last.true)

pub returns-clause-some : goal.returns-clause-some
returns-clause-some c =
    λ more last. pair _ _ _ _ more _ _ _ _ c.requires c.in-Some.ensures.cases.0 c.of_two-found.ensures (c.character_or_error.ensures.gives (characters JIS0208) more)
