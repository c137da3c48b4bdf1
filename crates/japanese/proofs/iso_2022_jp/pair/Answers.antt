use Rattle.japanese.proofs.IsoSteps.{lead_at, lead_cut, lead_escape}
use Rattle.japanese.proofs.iso_2022_jp.pair.Goals as goal

pub returns-in_default-clause-some : goal.returns-in_default-clause-some
returns-in_default-clause-some c = λ more last. lead_cut _ _ _ _ more _ c.requires c.in_default.ensures.cases (last c.if-not-is_last.false) c.plain.ensures

pub returns-then-second-eq27-clause-some : goal.returns-then-second-eq27-clause-some
returns-then-second-eq27-clause-some c =
    λ more last. lead_escape _ _ _ _ _ more _ _ c.requires c.in-Some.ensures.cases.0 c.if-second-eq27.true c.plain-then-second-eq27.ensures

pub returns-clause-some : goal.returns-clause-some
returns-clause-some c =
    λ more last. lead_at _ _ _ _ _ more _ _ _ c.requires c.in-Some.ensures.cases.0 c.if-second-eq27.false c.of_two.ensures c.plain-2.ensures
