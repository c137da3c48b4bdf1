use Rattle.japanese.proofs.IsoSteps.{escape_again, escape_first, escape_none}
use Rattle.japanese.proofs.iso_2022_jp.escape.Goals as goal

pub returns-in_default-target-clause-some : goal.returns-in_default-target-clause-some
returns-in_default-target-clause-some c =
    λ more last. escape_none _ _ _ _ _ _ more _ _ c.in-Some.ensures.cases.0 c.in-Some-split_first.ensures.cases.0 c.in_default-target.ensures c.plain.ensures

pub returns-then-state-clause-some : goal.returns-then-state-clause-some
returns-then-state-clause-some c =
    λ more last. escape_again _ _ _ _ _ more _ _ _ c.in-Some.ensures.cases.0 c.in-Some-split_first.ensures.cases.0 c.in-Some-target.ensures c.if-state.true

pub returns-clause-some : goal.returns-clause-some
returns-clause-some c =
    λ more last. escape_first _ _ _ _ _ more _ _ _ c.in-Some.ensures.cases.0 c.in-Some-split_first.ensures.cases.0 c.in-Some-target.ensures c.if-state.false
