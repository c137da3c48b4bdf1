use Rattle.std.proofs.Common.{rules, ◌≡◌, ℕ, refl, subst}
use Rattle.std.specs.Prelude.{IfOk}
use Rattle.dom_trees.specs.Edits.{setting_text}
use Rattle.c_state.specs.Answers.{EditsTree}
use Rattle.c_state.specs.declared.state.State.{State}
use Rattle.dom_query_c.proofs.Asking.{asked}
use Rattle.dom_query_c.proofs.dq_proved_set_text.Goals as goal

pub returns-in-Some : goal.returns-in-Some
returns-in-Some c =
    let same : c.deref_mut.result.now ≡ c.in-Some.boxed.value = search rules in
    let told = subst (λ (s : State). EditsTree c.set_text-given.result s c.set_text-given.new.self (setting_text c.args.node c.args.text.now)) same c.set_text-given.ensures in
    asked c.args.handle.now.slot.state c.answer.new.self.slot.state _
    (λ given s t. EditsTree given s t (setting_text c.args.node c.args.text.now))
    c.in-Some.boxed.value c.set_text-given.new.self c.set_text-given.result (search rules) (search rules) told (search rules)
