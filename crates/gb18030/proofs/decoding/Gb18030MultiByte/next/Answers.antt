use Rattle.std.proofs.Common.{sym, ◌∙◌}
use Rattle.gb18030.proofs.Steps.{step_one}
use Rattle.gb18030.proofs.decoding.Gb18030MultiByte.next.Goals as goal

pub returns-clause-some : goal.returns-clause-some
returns-clause-some c = λ more last. step_one _ _ _ _ _ more _ _ c.in_ok-first.ensures.cases.0 (sym c.is_lead.ensures ∙ c.if-is_lead.false) c.alone.ensures
