use Rattle.big5.proofs.Steps.{cut, pair_some, pair_ascii, pair_none, without_mark}
use Rattle.big5.proofs.decoding.pair.Goals as goal

pub returns-then-is_last-clause-some : goal.returns-then-is_last-clause-some
returns-then-is_last-clause-some c = λ more last. without_mark _ _ _ _ c.unmarked.ensures (cut _ _ more _ c.requires c.in_default.ensures.cases (last c.if-is_last.true))

pub returns-in-Some-of_two-clause-some : goal.returns-in-Some-of_two-clause-some
returns-in-Some-of_two-clause-some c = λ more last. pair_some _ _ _ more _ _ _ _ c.requires c.in-Some.ensures.cases.0 c.in-Some-of_two.ensures c.mark_of.ensures

pub returns-in-None-clause-some : goal.returns-in-None-clause-some
returns-in-None-clause-some c =
    λ more last. without_mark _ _ _ _ c.unmarked-in-None.ensures (pair_ascii _ _ _ more _ _ c.requires c.in-Some.ensures.cases.0 c.in-None.ensures c.if-trail-lt128.true)

pub returns-in-None-2-clause-some : goal.returns-in-None-2-clause-some
returns-in-None-2-clause-some c =
    λ more last. without_mark _ _ _ _ c.unmarked-in-None-2.ensures (pair_none _ _ _ more _ _ c.requires c.in-Some.ensures.cases.0 c.in-None.ensures c.if-trail-lt128.false)
