use Rattle.std.proofs.Common.{sym, ◌∙◌}
use Rattle.encodings.proofs.Units.{cut_two, cut_three, pair_both, pair_wrong}
use Rattle.encodings.proofs.utf16.pair.Goals as goal

pub returns-then-is_last-clause-some : goal.returns-then-is_last-clause-some
returns-then-is_last-clause-some c = λ more last. cut_two _ _ more _ _ c.requires c.in_default.ensures.cases (last c.if-is_last.true)

pub returns-then-is_last-2-clause-some : goal.returns-then-is_last-2-clause-some
returns-then-is_last-2-clause-some c =
    λ more last. cut_three _ _ _ more _ _ _ c.requires c.in-Some.ensures.cases.0 c.in_default-split_first.ensures.cases (last c.if-is_last-2.true)

pub returns-then-is_low-clause-some : goal.returns-then-is_low-clause-some
returns-then-is_low-clause-some c =
    λ more last. pair_both _ _ _ _ more _ _ _ _ _ _ _ _ c.requires c.in-Some.ensures.cases.0 c.in-Some-split_first.ensures.cases.0 c.unit_of-high.ensures c.unit_of-low.ensures
    (sym c.is_low.ensures ∙ c.if-is_low.true) c.pair_code.ensures c.character.ensures

pub returns-clause-some : goal.returns-clause-some
returns-clause-some c =
    λ more last. pair_wrong _ _ _ _ more _ _ _ _ _ c.requires c.in-Some.ensures.cases.0 c.in-Some-split_first.ensures.cases.0 c.unit_of-low.ensures
    (sym c.is_low.ensures ∙ c.if-is_low.false)
