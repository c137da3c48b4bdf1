use Rattle.std.proofs.Common.{rules, ◌≡◌, refl, subst}
use Rattle.std.specs.Prelude.{IfOk, MatchOption}
use Rattle.c_state.specs.declared.state.State.{State}
use Rattle.dom_query_c.proofs.Asking.{asked}
use Rattle.dom_query_c.proofs.dq_proved_replaced.Goals as goal

pub returns-in-Some : goal.returns-in-Some
returns-in-Some c =
    let same : c.deref.result.now ≡ c.in-Some.boxed.value = search rules in
    let told = subst (λ (s : State). IfOk c.replaced-given.result (λ count. MatchOption s.decoded ⊥ (λ decoded. count ≡ decoded.replaced))) same c.replaced-given.ensures in
    asked c.args.handle.now.slot.state c.answer.new.self.slot.state _
    (λ given s t. (t ≡ s) × IfOk given (λ count. MatchOption s.decoded ⊥ (λ decoded. count ≡ decoded.replaced)))
    c.in-Some.boxed.value c.in-Some.boxed.value c.replaced-given.result (search rules) (search rules) (refl, told) (search rules)
