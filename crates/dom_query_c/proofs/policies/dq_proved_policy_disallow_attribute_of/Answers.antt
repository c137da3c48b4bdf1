use Rattle.std.proofs.Common.{rules, ◌≡◌, subst}
use Rattle.c_state.specs.Policies.{ChangesRules}
use Rattle.c_state.specs.Rules.{without_attribute_of}
use Rattle.c_state.specs.declared.policies.PolicyState.{PolicyState}
use Rattle.dom_query_c.proofs.Asking.{asked}
use Rattle.dom_query_c.proofs.policies.dq_proved_policy_disallow_attribute_of.Goals as goal

pub returns-in-Some : goal.returns-in-Some
returns-in-Some c =
    let same : c.deref_mut.result.now ≡ c.in-Some.boxed.value = search rules in
    let told = subst (λ (s : PolicyState). ChangesRules c.disallow_attribute_of-given.result s c.disallow_attribute_of-given.new.self (λ old new. new ≡ without_attribute_of c.args.element.now c.args.name.now old)) same c.disallow_attribute_of-given.ensures in
    asked c.args.handle.now.slot.policy c.answer.new.self.slot.policy _
    (λ given s t. ChangesRules given s t (λ old new. new ≡ without_attribute_of c.args.element.now c.args.name.now old))
    c.in-Some.boxed.value c.disallow_attribute_of-given.new.self c.disallow_attribute_of-given.result (search rules) (search rules) told (search rules)
