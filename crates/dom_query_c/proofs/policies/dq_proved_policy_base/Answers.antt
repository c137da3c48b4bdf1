use Rattle.std.proofs.Common.{rules, ◌≡◌, subst}
use Rattle.c_state.specs.Policies.{ChangesRules}
use Rattle.c_state.specs.Rules.{IsResolvedBy}
use Rattle.c_state.specs.declared.policies.PolicyState.{PolicyState}
use Rattle.dom_query_c.proofs.Asking.{asked}
use Rattle.dom_query_c.proofs.policies.dq_proved_policy_base.Goals as goal

pub returns-in-Some : goal.returns-in-Some
returns-in-Some c =
    let same : c.deref_mut.result.now ≡ c.in-Some.boxed.value = search rules in
    let told = subst (λ (s : PolicyState). ChangesRules c.resolve_relative-given.result s c.resolve_relative-given.new.self (IsResolvedBy c.args.base.now)) same c.resolve_relative-given.ensures in
    asked c.args.handle.now.slot.policy c.answer.new.self.slot.policy _
    (λ given s t. ChangesRules given s t (IsResolvedBy c.args.base.now))
    c.in-Some.boxed.value c.resolve_relative-given.new.self c.resolve_relative-given.result (search rules) (search rules) told (search rules)
