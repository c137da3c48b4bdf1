use Rattle.std.proofs.Common.{rules, ◌≡◌, ℕ, refl, subst}
use Rattle.std.specs.Prelude.{IfOk}
use Rattle.dom_select.specs.ByText.{ByText}
use Rattle.c_state.specs.Neighbours.{IsFirst}
use Rattle.c_state.specs.declared.state.State.{State}
use Rattle.dom_query_c.proofs.Asking.{asked}
use Rattle.dom_query_c.proofs.dq_proved_select_first.Goals as goal

pub returns-in-Some : goal.returns-in-Some
returns-in-Some c =
    let same : c.deref.result.now ≡ c.in-Some.boxed.value = search rules in
    let told = subst (λ (s : State). IfOk c.select_first-given.result (λ found. ByText c.args.selectors.now (λ list. IsFirst list s.document.tree c.args.root found))) same c.select_first-given.ensures in
    asked c.args.handle.now.slot.state c.answer.new.self.slot.state _
    (λ given s t. (t ≡ s) × IfOk given (λ found. ByText c.args.selectors.now (λ list. IsFirst list s.document.tree c.args.root found)))
    c.in-Some.boxed.value c.in-Some.boxed.value c.select_first-given.result (search rules) (search rules) (refl, told) (search rules)
