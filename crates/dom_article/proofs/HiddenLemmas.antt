-- Characters in a text without white space.
use Rattle.std.proofs.Common.{ℕ, suc, ◌≡◌, ◌+◌, ◌<◌, ◌≤◌, ◌==◌, Bool, true, false, true≢false, List, [], ◌∷◌, inl, inr, refl, sym, ap, ◌∙◌, ◌-◌, length, take, drop, get_or, add-one, arith}
use Rattle.std.specs.Char.{is_ascii_whitespace}
use Rattle.std.proofs.Math.Seq.{drop-cons}
use Rattle.std.proofs.Math.ListN.{drop_of_length-le}
use Rattle.std.proofs.Math.Dec.{eqb-suc-zero}
use Rattle.std.proofs.lemmas.Bool.{cases_Bool}
use Rattle.std.proofs.lemmas.List.{length-drop, take_all}
use Rattle.dom_article.specs.Hidden.{begins_blank, begins_with, has_part, is_mentioned_first, squeezed}

pub nothing_left : (wanted : List ℕ) → begins_with wanted [] ≡ (length wanted == 0)
nothing_left [] = refl
nothing_left (w ∷ ws) = sym (eqb-suc-zero (length ws))

-- Where the text begins with the characters, it has them.
begins_part : (wanted text : List ℕ) → begins_with wanted text ≡ true → has_part wanted text ≡ true
begins_part wanted [] is = is
begins_part wanted (c ∷ cs) is = rw is refl

pub part_here : (wanted text : List ℕ) → is_mentioned_first wanted text ≡ true → has_part wanted (squeezed text) ≡ true
part_here wanted text is = elim (cases_Bool (begins_blank text)) [
  | inl t ↦ absurd (true≢false (sym (rw t at is)))
  | inr f ↦ begins_part wanted (squeezed text) (rw f at is)
]

part_later : (wanted cs : List ℕ) (c : ℕ) → is_mentioned_first wanted (c ∷ cs) ≡ false → has_part wanted (squeezed (c ∷ cs)) ≡ has_part wanted (squeezed cs)
part_later wanted cs c not = elim (cases_Bool (is_ascii_whitespace c)) [
  | inl t ↦ rw t refl
  | inr f ↦ (let here = rw f at not in rw (f, here) refl)
]

-- One character further on.
pub part_on : (wanted text : List ℕ) (i : ℕ) → i < length text → is_mentioned_first wanted (drop i text) ≡ false → has_part wanted (squeezed (drop i text)) ≡ has_part wanted (squeezed (drop (i + 1) text))
part_on wanted text i inside not =
    let e = drop-cons text i 0 inside in
    let not_here : is_mentioned_first wanted (get_or text i 0 ∷ drop (suc i) text) ≡ false = ap (λ cs. is_mentioned_first wanted cs) (sym e) ∙ not in
    ap (λ cs. has_part wanted (squeezed cs)) e ∙ (part_later wanted (drop (suc i) text) (get_or text i 0) not_here ∙ ap (λ (k : ℕ). has_part wanted (squeezed (drop k text))) (sym (add-one i)))

-- At the end of the text.
pub part_ends : (wanted text : List ℕ) (i : ℕ) → length text ≤ i → has_part wanted (squeezed (drop i text)) ≡ (length wanted == 0)
part_ends wanted text i past = ap (λ cs. has_part wanted (squeezed cs)) (drop_of_length-le text past) ∙ nothing_left wanted

pub begins_ends : (wanted text : List ℕ) (i : ℕ) → length text ≤ i → begins_with wanted (squeezed (drop i text)) ≡ (length wanted == 0)
begins_ends wanted text i past = ap (λ cs. begins_with wanted (squeezed cs)) (drop_of_length-le text past) ∙ nothing_left wanted

-- The end of a text, as a slice of it.
pub end_is : (wanted text : List ℕ) (i : ℕ) (b : Bool) → b ≡ is_mentioned_first wanted (take (length text - i) (drop i text)) → b ≡ is_mentioned_first wanted (drop i text)
end_is wanted text i b is = is ∙ ap (λ cs. is_mentioned_first wanted cs) (take_all (length text - i) (drop i text) (simp length-drop (omega arith)))
