-- What goes as long as it can has one reading, if each of its elements has.
use Rattle.std.proofs.Common.{◌≡◌, ℕ, ◌<◌, List, [], ◌∷◌, ◌++◌, length, Bool, true, refl, sym, ap, ◌∙◌, subst, true≢false}
use Rattle.dom_selectors.specs.Spelling.{Many, Run, SpellsNone}

-- a text has one reading
abbrev pub IsOnce : {A : Type 0} → (A → List ℕ → List ℕ → Type 0) → Type 0
IsOnce {A} S = (v w : A) (text r s : List ℕ) → S v text r → S w text s → (v ≡ w) × (r ≡ s)

-- where something is spelled the text goes on
abbrev pub GoesOn : {A : Type 0} → (A → List ℕ → List ℕ → Type 0) → (List ℕ → Bool) → Type 0
GoesOn {A} S goes = (v : A) (text r : List ℕ) → S v text r → goes text ≡ true

-- and is shorter after it
abbrev pub Shortens : {A : Type 0} → (A → List ℕ → List ℕ → Type 0) → Type 0
Shortens {A} S = (v : A) (text r : List ℕ) → S v text r → length r < length text

module _ {A : Type 0} (S : A → List ℕ → List ℕ → Type 0) where
  -- one more
  pub many_last : (vs : List A) (v : A) (text mid rest : List ℕ) → Many S vs text mid → S v mid rest → Many S (vs ++ v ∷ []) text rest
  many_last [] v text mid rest h k = (rest, subst (λ t. S v t rest) h k, refl)
  many_last (w ∷ vs) v text mid rest h k = (h.0, h.1, many_last vs v h.0 mid rest h.2 k)

  module _ (once : IsOnce S) (goes : List ℕ → Bool) (on : GoesOn S goes) where
    -- a run goes through every place that can be reached
    pub run_through : (vs ws : List A) (text mid rest : List ℕ) → Many S vs text mid → Run S goes ws text rest → (more : List A) × (ws ≡ vs ++ more) × Run S goes more mid rest
    run_through [] ws text mid rest h run = (ws, refl, subst (λ t. Run S goes ws t rest) (sym h) run)
    run_through (v ∷ vs) [] text mid rest h run =
        absurd (true≢false (sym (on v text h.0 h.1) ∙ ap goes (sym run.each) ∙ run.ends))
    run_through (v ∷ vs) (w ∷ ws) text mid rest h run =
        let each = run.each in
        let same = once v w text h.0 each.0 h.1 each.1 in
        let first : Many S vs each.0 mid = subst (λ t. Many S vs t mid) same.1 h.2 in
        let later = run_through vs ws each.0 mid rest first (record { each = each.2; ends = run.ends }) in
        (later.0, ap (λ u. u ∷ ws) (sym same.0) ∙ ap (λ us. v ∷ us) later.1, later.2)

    pub run_once : IsOnce (Run S goes)
    run_once vs ws text r s h k =
        let through = run_through vs ws text r s h.each k in
        elim through.0 as (λ more. ws ≡ vs ++ more → Run S goes more r s → (vs ≡ ws) × (r ≡ s)) [
          | [] ↦ λ e run. (sym (e ∙ append_nil vs), sym run.each)
          | v ∷ more ↦ λ e run. let each = run.each in absurd (true≢false (sym (on v r each.0 each.1) ∙ h.ends))
        ] through.1 through.2
      where
        append_nil : (us : List A) → us ++ [] ≡ us
        append_nil [] = refl
        append_nil (u ∷ us) = ap (λ ts. u ∷ ts) (append_nil us)

    -- where the text goes on and nothing is spelled, there is no run
    pub run_none : (vs : List A) (text mid : List ℕ) → Many S vs text mid → goes mid ≡ true → SpellsNone S mid → SpellsNone (Run S goes) text
    run_none vs text mid h goes_mid none ws rest run =
        let through = run_through vs ws text mid rest h run in
        elim through.0 as (λ more. Run S goes more mid rest → ⊥) [
          | [] ↦ λ r. true≢false (sym goes_mid ∙ ap goes (sym r.each) ∙ r.ends)
          | v ∷ more ↦ λ r. let each = r.each in none v each.0 each.1
        ] through.2
