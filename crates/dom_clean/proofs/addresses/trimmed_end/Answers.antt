use Rattle.std.proofs.Common.{◌≡◌, ◌∙◌, [], ap, arith, false, sym, true}
use Rattle.std.proofs.lemmas.Bool.Decides.{nat_tests}
use Rattle.std.proofs.lemmas.List.{nil_from_length}
use Rattle.url.specs.Input.{is_c0_control_or_space, trim_end}
use Rattle.dom_clean.proofs.Trimming.{end_goes, end_stays, end_none}
use Rattle.dom_clean.proofs.addresses.trimmed_end.Goals as goal

pub loop-last-preserved : goal.loop-last-preserved
loop-last-preserved c =
    let goes : is_c0_control_or_space c.in-Some.last.now ≡ true = grind (arith, nat_tests) in
    sym (end_goes c.in-Some.earlier.now c.in-Some.last.now goes) ∙ ap (trim_end is_c0_control_or_space) (sym c.in-Some.ensures.cases.0) ∙ c.loop-last.invariant

pub loop-last-smaller : goal.loop-last-smaller
loop-last-smaller c = omega (arith, c.in-Some.ensures.cases.1)

pub returns-then-last-gt32 : goal.returns-then-last-gt32
returns-then-last-gt32 c =
    let stays : is_c0_control_or_space c.in-Some.last.now ≡ false = grind (arith, nat_tests) in
    c.in-Some.ensures.cases.0 ∙ sym (end_stays c.in-Some.earlier.now c.in-Some.last.now stays) ∙ ap (trim_end is_c0_control_or_space) (sym c.in-Some.ensures.cases.0) ∙ c.loop-last.invariant

pub returns : goal.returns
returns c =
    let empty : c.loop-last.rest.now ≡ [] = nil_from_length c.loop-last.rest.now c.in_default.ensures.cases in
    empty ∙ sym end_none ∙ ap (trim_end is_c0_control_or_space) (sym empty) ∙ c.loop-last.invariant
