use Rattle.std.proofs.Common.{rules, ◌≡◌, subst}
use Rattle.std.specs.Prelude.{true}
use Rattle.std.specs.Option.{is_some}
use Rattle.c_state.specs.Answers.{GivesTextThat}
use Rattle.c_state.specs.declared.state.State.{State}
use Rattle.dom_query_c.proofs.Asking.{asked}
use Rattle.dom_query_c.proofs.dq_proved_encoding.Goals as goal

pub returns-in-Some : goal.returns-in-Some
returns-in-Some c =
    let same : c.deref_mut.result.now ≡ c.in-Some.boxed.value = search rules in
    let told = subst (λ (s : State). GivesTextThat c.take_encoding-given.result s c.take_encoding-given.new.self c.args.to.now c.take_encoding-given.new.to (λ _. is_some s.decoded ≡ true)) same c.take_encoding-given.ensures in
    asked c.args.handle.now.slot.state c.answer.new.self.slot.state _
    (λ given s t. GivesTextThat given s t c.args.to.now c.take_encoding-given.new.to (λ _. is_some s.decoded ≡ true))
    c.in-Some.boxed.value c.take_encoding-given.new.self c.take_encoding-given.result (search rules) (search rules) told (search rules)
