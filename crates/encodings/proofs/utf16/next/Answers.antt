use Rattle.std.proofs.Common.{sym, ap, ◌∙◌}
use Rattle.encodings.specs.Utf16.{character}
use Rattle.encodings.proofs.Units.{cut_one, step_one}
use Rattle.encodings.proofs.utf16.next.Goals as goal

pub returns-then-is_last-clause-some : goal.returns-then-is_last-clause-some
returns-then-is_last-clause-some c = λ more last. cut_one _ _ _ more _ c.in_ok-first.ensures.cases.0 c.in_default.ensures.cases (last c.if-is_last.true)

pub returns-clause-some : goal.returns-clause-some
returns-clause-some c =
    λ more last. step_one _ _ _ _ more _ _ _ _ c.in_ok-first.ensures.cases.0 c.in-Some.ensures.cases.0 c.unit_of-unit.ensures (sym c.is_high.ensures ∙ c.if-is_high.false) (c.character.ensures ∙ ap character c.from.ensures)
