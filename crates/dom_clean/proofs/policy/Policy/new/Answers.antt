use Rattle.std.proofs.Common.{◌≡◌, ◌∙◌, Option, None, Some, ap, false, refl, sym, true}
use Rattle.std.specs.Prelude.{is_none}
use Rattle.dom_clean.specs.Faults.{Fault, IsReported, first_fault}
use Rattle.dom_clean.specs.Policies.{policy_of}
use Rattle.dom_clean.specs.Policy.{Policy, is_sound}
use Rattle.dom_clean.specs.declared.policy.PolicyFault.{PolicyFault}
use Rattle.dom_clean.proofs.policy.Policy.new.Goals as goal

is_reported : (found : Option Fault) (report : PolicyFault) → IsReported found (Some report) → is_none found ≡ false
is_reported None report told = absurd told
is_reported (Some fault) report told = refl

is_not : (found : Option Fault) → IsReported found None → is_none found ≡ true
is_not None told = refl
is_not (Some fault) told = absurd told

pub invariant_of-result : goal.invariant_of-result
invariant_of-result c =
    let rules = policy_of c.into_lists-lists.result in
    sym (c.sound_rules_have_no_fault.ensures rules) ∙ is_not (first_fault rules) c.in-None.ensures

pub returns-in-Some-clause-sound : goal.returns-in-Some-clause-sound
returns-in-Some-clause-sound c =
    let rules = policy_of c.into_lists-lists.result in
    ap is_sound (sym c.into_lists-lists.ensures) ∙ sym (c.sound_rules_have_no_fault.ensures rules) ∙ is_reported (first_fault rules) c.in-Some.fault c.in-Some.ensures

pub returns-in-None-clause-sound : goal.returns-in-None-clause-sound
returns-in-None-clause-sound c =
    let rules = policy_of c.into_lists-lists.result in
    (c.into_lists-lists.ensures, ap is_sound (sym c.into_lists-lists.ensures) ∙ sym (c.sound_rules_have_no_fault.ensures rules) ∙ is_not (first_fault rules) c.in-None.ensures)
