use Rattle.std.proofs.Common.{rules, ◌≡◌, subst}
use Rattle.c_state.specs.Policies.{ForgetsText}
use Rattle.c_state.specs.declared.policies.PolicyState.{PolicyState}
use Rattle.dom_query_c.proofs.Asking.{asked}
use Rattle.dom_query_c.proofs.policies.dq_proved_policy_forget.Goals as goal

pub returns-in-Some : goal.returns-in-Some
returns-in-Some c =
    let same : c.deref_mut.result.now ≡ c.in-Some.boxed.value = search rules in
    let told = subst (λ (s : PolicyState). ForgetsText c.forget-given.result s c.forget-given.new.self) same c.forget-given.ensures in
    asked c.args.handle.now.slot.policy c.answer.new.self.slot.policy _
    (λ given s t. ForgetsText given s t)
    c.in-Some.boxed.value c.forget-given.new.self c.forget-given.result (search rules) (search rules) told (search rules)
