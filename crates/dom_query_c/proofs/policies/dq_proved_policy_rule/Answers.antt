use Rattle.std.proofs.Common.{rules, ◌≡◌, subst}
use Rattle.std.specs.Prelude.{Some}
use Rattle.c_state.specs.Policies.{ChangesRules}
use Rattle.c_state.specs.Rules.{rule_numbered}
use Rattle.c_state.specs.declared.policies.PolicyState.{PolicyState}
use Rattle.dom_query_c.proofs.Asking.{asked}
use Rattle.dom_query_c.proofs.policies.dq_proved_policy_rule.Goals as goal

pub returns-in-Some : goal.returns-in-Some
returns-in-Some c =
    let same : c.deref_mut.result.now ≡ c.in-Some.boxed.value = search rules in
    let told = subst (λ (s : PolicyState). ChangesRules c.add_rule-given.result s c.add_rule-given.new.self (λ old new. rule_numbered c.args.rule c.args.text.now old ≡ Some new)) same c.add_rule-given.ensures in
    asked c.args.handle.now.slot.policy c.answer.new.self.slot.policy _
    (λ given s t. ChangesRules given s t (λ old new. rule_numbered c.args.rule c.args.text.now old ≡ Some new))
    c.in-Some.boxed.value c.add_rule-given.new.self c.add_rule-given.result (search rules) (search rules) told (search rules)
