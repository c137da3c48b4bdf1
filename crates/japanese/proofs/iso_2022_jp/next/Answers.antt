use Rattle.japanese.proofs.IsoSteps.{step_byte}
use Rattle.japanese.proofs.iso_2022_jp.next.Goals as goal

pub returns-clause-some : goal.returns-clause-some
returns-clause-some c =
    λ more last. step_byte _ _ _ _ _ more _ _ _ c.in_ok-first.ensures.cases.0 c.if-first-eq27.false c.is_lead.ensures c.if-is_lead.false c.in_mode.ensures c.plain.ensures
