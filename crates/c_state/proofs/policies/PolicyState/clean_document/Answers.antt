use Rattle.std.proofs.Common.{rules, ◌≡◌, string_bytes}
use Rattle.c_state.specs.Policies.{IsCleanTree}
use Rattle.c_state.specs.declared.policies.Stage.TheVariants.{Ready}
use Rattle.c_state.proofs.CleanedTexts.{kept_clean}
use Rattle.c_state.proofs.policies.PolicyState.clean_document.Goals as goal

pub returns : goal.returns
returns c =
    let policy = c.in-Ready.policy in
    let left = c.in_ok-text-in-Ready in
    let ready : c.args.self.now.stage ≡ Ready policy = search rules in
    kept_clean c.keep.result c.args.self.now c.keep.new.self c.args.to.now c.keep.new.to (λ by text. IsCleanTree by c.args.of.now.document.tree text) policy (string_bytes left.text)
    ready c.keep.ensures.stage c.keep.ensures.text c.keep.ensures.count c.keep.ensures.written (record { is = left.ensures.text; cleaned = left.ensures.cleaned })
