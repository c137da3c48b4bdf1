use Rattle.std.proofs.Common.{rules, ◌≡◌, subst}
use Rattle.c_state.specs.Policies.{Finishes}
use Rattle.c_state.specs.declared.policies.PolicyState.{PolicyState}
use Rattle.dom_query_c.proofs.Asking.{asked}
use Rattle.dom_query_c.proofs.policies.dq_proved_policy_finish.Goals as goal

pub returns-in-Some : goal.returns-in-Some
returns-in-Some c =
    let same : c.deref_mut.result.now ≡ c.in-Some.boxed.value = search rules in
    let told = subst (λ (s : PolicyState). Finishes c.finish-given.result s c.finish-given.new.self) same c.finish-given.ensures in
    asked c.args.handle.now.slot.policy c.answer.new.self.slot.policy _
    (λ given s t. Finishes given s t)
    c.in-Some.boxed.value c.finish-given.new.self c.finish-given.result (search rules) (search rules) told (search rules)
