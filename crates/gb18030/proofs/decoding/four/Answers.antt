use Rattle.std.proofs.Common.{sym, ◌∙◌}
use Rattle.gb18030.proofs.Steps.{cut_two, cut_three, at_third, at_fourth, four_bytes}
use Rattle.gb18030.proofs.decoding.four.Goals as goal

pub returns-then-is_last-clause-some : goal.returns-then-is_last-clause-some
returns-then-is_last-clause-some c =
    λ more last. cut_two _ _ _ _ _ more _ _ c.requires.first c.requires.second c.requires.after c.in_default.ensures.cases (last c.if-is_last.true)

pub returns-then-not-is_lead-clause-some : goal.returns-then-not-is_lead-clause-some
returns-then-not-is_lead-clause-some c =
    λ more last. at_third _ _ _ _ _ _ more _ _ _ c.requires.first c.requires.second (sym c.is_lead.ensures ∙ c.if-not-is_lead.true) c.requires.after c.in-Some.ensures.cases.0

pub returns-then-is_last-2-clause-some : goal.returns-then-is_last-2-clause-some
returns-then-is_last-2-clause-some c =
    λ more last. cut_three _ _ _ _ _ _ more _ _ _ c.requires.first c.requires.second (sym c.is_lead.ensures ∙ c.if-not-is_lead.false) c.requires.after c.in-Some.ensures.cases.0
    c.in_default-split_first.ensures.cases (last c.if-is_last-2.true)

pub returns-then-not-is_digit-clause-some : goal.returns-then-not-is_digit-clause-some
returns-then-not-is_digit-clause-some c =
    λ more last. at_fourth _ _ _ _ _ _ _ more _ _ _ _ c.requires.first c.requires.second (sym c.is_lead.ensures ∙ c.if-not-is_lead.false)
    (sym c.is_digit.ensures ∙ c.if-not-is_digit.true) c.requires.after c.in-Some.ensures.cases.0 c.in-Some-split_first.ensures.cases.0

pub returns-clause-some : goal.returns-clause-some
returns-clause-some c =
    λ more last. four_bytes _ _ _ _ _ _ _ more _ _ _ _ _ c.requires.first c.requires.second (sym c.is_lead.ensures ∙ c.if-not-is_lead.false)
    (sym c.is_digit.ensures ∙ c.if-not-is_digit.false) c.requires.after c.in-Some.ensures.cases.0 c.in-Some-split_first.ensures.cases.0 c.of_four.ensures
