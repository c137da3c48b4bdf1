-- A text that is kept after a policy cleaned it.
use Rattle.std.proofs.Common.{◌≡◌, ℕ, List, Ok, length, take, string_bytes, subst, sym, ap, ◌∙◌}
use Rattle.dom_clean.specs.Policy.{Policy}
use Rattle.c_state.specs.Policies.{Cleans, IfReady}
use Rattle.c_state.specs.declared.policies.PolicyState.{PolicyState}
use Rattle.c_state.specs.declared.policies.Stage.{Stage}
use Rattle.c_state.specs.declared.policies.Stage.TheVariants.{Ready}

pub kept_clean : (count : ℕ) (old new : PolicyState) (before after : List ℕ) (IsIt : Policy → List ℕ → Type 0) (policy : Policy) (text : List ℕ) → old.stage ≡ Ready policy → new.stage ≡ old.stage → string_bytes new.text ≡ text → count ≡ length text → take count after ≡ take (length before) text → IsIt policy text
    → Cleans (Ok count) old new before after IsIt
kept_clean count old new before after IsIt policy text ready stays same counted written holds = record {
  policy = stays;
  kept = subst (λ (stage : Stage). IfReady stage (λ by. IsIt by (string_bytes new.text))) (sym ready) (subst (λ (t : List ℕ). IsIt policy t) (sym same) holds);
  count = counted ∙ sym (ap (λ (t : List ℕ). length t) same);
  written = subst (λ (t : List ℕ). take count after ≡ take (length before) t) (sym same) written;
}
