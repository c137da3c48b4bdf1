use Rattle.std.proofs.Common.{sym, ◌∙◌}
use Rattle.big5.proofs.Steps.{step_one, without_mark}
use Rattle.big5.proofs.decoding.Big5MultiByte.next.Goals as goal

pub returns-clause-some : goal.returns-clause-some
returns-clause-some c =
    λ more last. without_mark _ _ _ _ c.unmarked.ensures (step_one _ _ _ more _ _ c.in_ok-lead.ensures.cases.0 (sym c.is_lead.ensures ∙ c.if-is_lead.false) c.alone.ensures)
