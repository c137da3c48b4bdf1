use Rattle.std.proofs.Common.{rules, ◌≡◌, subst}
use Rattle.c_state.specs.Policies.{Cleans, IsCleanTree}
use Rattle.c_state.specs.declared.policies.PolicyState.{PolicyState}
use Rattle.dom_query_c.proofs.Asking.{asked}
use Rattle.dom_query_c.proofs.policies.clean_state.Goals as goal

pub returns-in-Some : goal.returns-in-Some
returns-in-Some c =
    let same : c.deref_mut.result.now ≡ c.in-Some.boxed.value = search rules in
    let told = subst (λ (s : PolicyState). Cleans c.clean_document-given.result s c.clean_document-given.new.self c.args.to.now c.clean_document-given.new.to (λ policy text. IsCleanTree policy c.args.of.now.document.tree text)) same c.clean_document-given.ensures in
    asked c.args.handle.now.slot.policy c.answer.new.self.slot.policy _
    (λ given s t. Cleans given s t c.args.to.now c.clean_document-given.new.to (λ policy text. IsCleanTree policy c.args.of.now.document.tree text))
    c.in-Some.boxed.value c.clean_document-given.new.self c.clean_document-given.result (search rules) (search rules) told (search rules)
