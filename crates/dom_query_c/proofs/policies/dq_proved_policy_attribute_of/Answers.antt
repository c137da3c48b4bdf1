use Rattle.std.proofs.Common.{rules, ◌≡◌, subst}
use Rattle.std.specs.Prelude.{None}
use Rattle.dom_clean.specs.Policy.{own_attribute}
use Rattle.c_state.specs.Policies.{ChangesRules}
use Rattle.c_state.specs.Rules.{with_own}
use Rattle.c_state.specs.declared.policies.PolicyState.{PolicyState}
use Rattle.dom_query_c.proofs.Asking.{asked}
use Rattle.dom_query_c.proofs.policies.dq_proved_policy_attribute_of.Goals as goal

pub returns-in-Some : goal.returns-in-Some
returns-in-Some c =
    let same : c.deref_mut.result.now ≡ c.in-Some.boxed.value = search rules in
    let told = subst (λ (s : PolicyState). ChangesRules c.allow_attribute_of-given.result s c.allow_attribute_of-given.new.self (λ old new. new ≡ with_own (own_attribute c.args.element.now c.args.name.now None) old)) same c.allow_attribute_of-given.ensures in
    asked c.args.handle.now.slot.policy c.answer.new.self.slot.policy _
    (λ given s t. ChangesRules given s t (λ old new. new ≡ with_own (own_attribute c.args.element.now c.args.name.now None) old))
    c.in-Some.boxed.value c.allow_attribute_of-given.new.self c.allow_attribute_of-given.result (search rules) (search rules) told (search rules)
