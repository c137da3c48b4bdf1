use Rattle.std.proofs.Common.{rules, ◌≡◌, ℕ, List, string_bytes, subst}
use Rattle.c_state.specs.Policies.{IsCleanFragment}
use Rattle.c_state.specs.declared.policies.Stage.TheVariants.{Ready}
use Rattle.c_state.proofs.CleanedTexts.{kept_clean}
use Rattle.c_state.proofs.policies.PolicyState.clean.Goals as goal

pub returns : goal.returns
returns c =
    let policy = c.in-Ready.policy in
    let left = c.in_ok-text-in-Ready in
    let ready : c.args.self.now.stage ≡ Ready policy = search rules in
    let told : IsCleanFragment policy c.in_ok-as_text-in-Ready.field-0.now (string_bytes left.text) = record { cleaned = left.ensures.cleaned; calm = left.ensures.calm } in
    kept_clean c.keep.result c.args.self.now c.keep.new.self c.args.to.now c.keep.new.to (λ by text. IsCleanFragment by c.args.html.now text) policy (string_bytes left.text)
    ready c.keep.ensures.stage c.keep.ensures.text c.keep.ensures.count c.keep.ensures.written
    (subst (λ (source : List ℕ). IsCleanFragment policy source (string_bytes left.text)) c.in_ok-as_text-in-Ready.ensures told)
