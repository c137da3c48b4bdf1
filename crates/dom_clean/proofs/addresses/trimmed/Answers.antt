use Rattle.std.proofs.Common.{◌≡◌, ◌∙◌, [], ap, arith, false, sym, true}
use Rattle.std.proofs.lemmas.Bool.Decides.{nat_tests}
use Rattle.std.proofs.lemmas.List.{nil_from_length}
use Rattle.url.specs.Input.{is_c0_control_or_space, trim_c0_control_and_space, trim_end}
use Rattle.dom_clean.proofs.Trimming.{front_goes, front_stays, none_left}
use Rattle.dom_clean.proofs.addresses.trimmed.Goals as goal

pub loop-first-preserved : goal.loop-first-preserved
loop-first-preserved c =
    let goes : is_c0_control_or_space c.in-Some.first.now ≡ true = grind (arith, nat_tests) in
    sym (front_goes c.in-Some.first.now c.in-Some.later.now goes) ∙ ap trim_c0_control_and_space (sym c.in-Some.ensures.cases.0) ∙ c.loop-first.invariant

pub loop-first-smaller : goal.loop-first-smaller
loop-first-smaller c = omega (arith, c.in-Some.ensures.cases.1)

pub returns-then-first-gt32 : goal.returns-then-first-gt32
returns-then-first-gt32 c =
    let stays : is_c0_control_or_space c.in-Some.first.now ≡ false = grind (arith, nat_tests) in
    c.trimmed_end.ensures ∙ ap (trim_end is_c0_control_or_space) c.in-Some.ensures.cases.0 ∙ sym (front_stays c.in-Some.first.now c.in-Some.later.now stays)
    ∙ ap trim_c0_control_and_space (sym c.in-Some.ensures.cases.0) ∙ c.loop-first.invariant

pub returns : goal.returns
returns c =
    let empty : c.loop-first.rest.now ≡ [] = nil_from_length c.loop-first.rest.now c.in_default.ensures.cases in
    empty ∙ sym none_left ∙ ap trim_c0_control_and_space (sym empty) ∙ c.loop-first.invariant
