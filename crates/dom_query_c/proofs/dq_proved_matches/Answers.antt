use Rattle.std.proofs.Common.{rules, ◌≡◌, ℕ, refl, subst}
use Rattle.std.specs.Prelude.{IfOk}
use Rattle.dom_select.specs.ByText.{ByText}
use Rattle.dom_select.specs.Descendants.{IsMatch}
use Rattle.c_state.specs.Answers.{SaysWhether}
use Rattle.c_state.specs.declared.state.State.{State}
use Rattle.dom_query_c.proofs.Asking.{asked}
use Rattle.dom_query_c.proofs.dq_proved_matches.Goals as goal

pub returns-in-Some : goal.returns-in-Some
returns-in-Some c =
    let same : c.deref.result.now ≡ c.in-Some.boxed.value = search rules in
    let told = subst (λ (s : State). IfOk c.matches-given.result (λ answer. ByText c.args.selectors.now (λ list. SaysWhether answer (IsMatch list s.document.tree c.args.node)))) same c.matches-given.ensures in
    asked c.args.handle.now.slot.state c.answer.new.self.slot.state _
    (λ given s t. (t ≡ s) × IfOk given (λ answer. ByText c.args.selectors.now (λ list. SaysWhether answer (IsMatch list s.document.tree c.args.node))))
    c.in-Some.boxed.value c.in-Some.boxed.value c.matches-given.result (search rules) (search rules) (refl, told) (search rules)
