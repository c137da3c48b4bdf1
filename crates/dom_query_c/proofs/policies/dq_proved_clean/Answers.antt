use Rattle.std.proofs.Common.{rules, ◌≡◌, subst}
use Rattle.c_state.specs.Policies.{Cleans, IsCleanFragment}
use Rattle.c_state.specs.declared.policies.PolicyState.{PolicyState}
use Rattle.dom_query_c.proofs.Asking.{asked}
use Rattle.dom_query_c.proofs.policies.dq_proved_clean.Goals as goal

pub returns-in-Some : goal.returns-in-Some
returns-in-Some c =
    let same : c.deref_mut.result.now ≡ c.in-Some.boxed.value = search rules in
    let told = subst (λ (s : PolicyState). Cleans c.clean-given.result s c.clean-given.new.self c.args.to.now c.clean-given.new.to (λ policy text. IsCleanFragment policy c.args.html.now text)) same c.clean-given.ensures in
    asked c.args.handle.now.slot.policy c.answer.new.self.slot.policy _
    (λ given s t. Cleans given s t c.args.to.now c.clean-given.new.to (λ policy text. IsCleanFragment policy c.args.html.now text))
    c.in-Some.boxed.value c.clean-given.new.self c.clean-given.result (search rules) (search rules) told (search rules)
