use Rattle.std.proofs.Common.{rules, ◌≡◌, subst}
use Rattle.std.specs.Prelude.{Some}
use Rattle.c_state.specs.Policies.{ChangesRules}
use Rattle.c_state.specs.Rules.{setting_numbered}
use Rattle.c_state.specs.declared.policies.PolicyState.{PolicyState}
use Rattle.dom_query_c.proofs.Asking.{asked}
use Rattle.dom_query_c.proofs.policies.dq_proved_policy_set.Goals as goal

pub returns-in-Some : goal.returns-in-Some
returns-in-Some c =
    let same : c.deref_mut.result.now ≡ c.in-Some.boxed.value = search rules in
    let told = subst (λ (s : PolicyState). ChangesRules c.set-given.result s c.set-given.new.self (λ old new. setting_numbered c.args.setting c.args.number old ≡ Some new)) same c.set-given.ensures in
    asked c.args.handle.now.slot.policy c.answer.new.self.slot.policy _
    (λ given s t. ChangesRules given s t (λ old new. setting_numbered c.args.setting c.args.number old ≡ Some new))
    c.in-Some.boxed.value c.set-given.new.self c.set-given.result (search rules) (search rules) told (search rules)
