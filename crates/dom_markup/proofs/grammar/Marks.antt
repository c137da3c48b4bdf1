-- The first place where a mark stands.
use Rattle.std.proofs.Common.{◌≡◌, ℕ, List, [], ◌∷◌, ◌++◌, Some, None, refl, sym, ap, ◌∙◌, arith, take, drop, length, length-append, inl, inr}
use Rattle.std.specs.Str.Pattern.{FindsText}
use Rattle.std.proofs.lemmas.Bool.{cases_lt}
use Rattle.std.proofs.lemmas.List.{take-append-drop}
use Rattle.dom_markup.specs.Markup.{EndsAtMark}

pub drop_front : (before later : List ℕ) → drop (length before) (before ++ later) ≡ later
drop_front [] later = refl
drop_front (x ∷ before) later = drop_front before later

pub found_first : (mark text front rest : List ℕ) (i j : ℕ) → FindsText mark text (Some (i, j)) → front ≡ take i text → rest ≡ drop j text → length front ≡ i → EndsAtMark mark text front rest
found_first mark text front rest i j found begin end long = record {
  is = sym (take-append-drop i text) ∙ ap (λ t. take i text ++ t) (found.1.split ∙ ap (λ t. mark ++ t) (sym end)) ∙ ap (λ t. t ++ (mark ++ rest)) (sym begin);
  first = λ before later e. elim (cases_lt (length before) i) [
    | inl less ↦ absurd (found.0 (length before) less later (ap (drop (length before)) e ∙ drop_front before (mark ++ later)))
    | inr past ↦ omega (arith, long)
  ];
}

pub found_nowhere : (mark text : List ℕ) → FindsText mark text None → (front rest : List ℕ) → text ≡ front ++ (mark ++ rest) → ⊥
found_nowhere mark text none front rest e =
    none (length front) (omega (arith, ap length e, length-append front (mark ++ rest))) rest (ap (drop (length front)) e ∙ drop_front front (mark ++ rest))
