use Rattle.std.proofs.Common.{rules, ◌≡◌, ℕ, refl, subst}
use Rattle.std.specs.Prelude.{IfOk}
use Rattle.c_state.specs.KindNumbers.{HasContents}
use Rattle.c_state.specs.declared.state.State.{State}
use Rattle.dom_query_c.proofs.Asking.{asked}
use Rattle.dom_query_c.proofs.dq_proved_contents.Goals as goal

pub returns-in-Some : goal.returns-in-Some
returns-in-Some c =
    let same : c.deref.result.now ≡ c.in-Some.boxed.value = search rules in
    let told = subst (λ (s : State). IfOk c.contents-given.result (λ found. HasContents s.document.tree c.args.node found)) same c.contents-given.ensures in
    asked c.args.handle.now.slot.state c.answer.new.self.slot.state _
    (λ given s t. (t ≡ s) × IfOk given (λ found. HasContents s.document.tree c.args.node found))
    c.in-Some.boxed.value c.in-Some.boxed.value c.contents-given.result (search rules) (search rules) (refl, told) (search rules)
