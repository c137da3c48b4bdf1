-- Words by their lengths.
use Rattle.std.proofs.Common.{ℕ, ◌≡◌, ◌<◌, ◌≤◌, ◌⊎◌, ◌∙◌, Bool, true, false, true≢false, List, [], ◌∷◌, inl, inr, refl, sym, ap, arith, length}
use Rattle.std.specs.Prelude.{◌==◌, ◌&&◌, ◌||◌, nat_le}
use Rattle.std.specs.List.{list_all}
use Rattle.std.specs.Str.{bytes_eq}
use Rattle.std.proofs.lemmas.Bool.{cases_Bool, eq-eqb, eqb-true}
use Rattle.std.proofs.lemmas.Slice.Eq.{bytes_eq-Decides}
use Rattle.dom_nodes.specs.Words.{is_among}
use Rattle.dom_article.specs.Hidden.{of_length}

-- words of different lengths differ
differ : (word text : List ℕ) → (length word == length text) ≡ false → bytes_eq word text ≡ false
differ word text other = elim (cases_Bool (bytes_eq word text)) [
  | inl same ↦ absurd (true≢false (sym (eq-eqb (length word) (length text) (ap length ((bytes_eq-Decides word text).0 same))) ∙ other))
  | inr f ↦ f
]

-- a text is one of some words if it is one of those of its length
pub among_of_length : (text : List ℕ) (words : List (List ℕ)) → is_among text (of_length (length text) words) ≡ is_among text words
among_of_length text [] = refl
among_of_length text (word ∷ words) = elim (cases_Bool (length word == length text)) [
  | inl t ↦ rw t (ap (λ (b : Bool). bytes_eq word text || b) (among_of_length text words))
  | inr f ↦ rw (f, differ word text f) (among_of_length text words)
]

-- whether a word has 3 to 8 characters
unfoldable pub fits : List ℕ → Bool
fits word = nat_le 3 (length word) && nat_le (length word) 8

both_so : (a b : Bool) → (a && b) ≡ true → (a ≡ true) × (b ≡ true)
both_so true b e = (refl, e)
both_so false b e = absurd (true≢false (sym e))

within : (n : ℕ) → nat_le 3 n ≡ true → nat_le n 8 ≡ true → (3 ≤ n) × (n ≤ 8)
within n low high = (grind arith, grind arith)

outside : (n m : ℕ) → (m < 3) ⊎ (8 < m) → nat_le 3 n ≡ true → nat_le n 8 ≡ true → (n == m) ≡ false
outside n m out low high = elim (cases_Bool (n == m)) [
  | inl same ↦ absurd (let e : n ≡ m = eqb-true n m same in let bounds = within n low high in let lo = bounds.0 in let hi = bounds.1 in elim out [ inl less ↦ omega arith | inr more ↦ omega arith ])
  | inr f ↦ f
]

-- of words that have 3 to 8 characters, none has fewer or more
pub none_of_length : (m : ℕ) (words : List (List ℕ)) → (m < 3) ⊎ (8 < m) → list_all fits words ≡ true → of_length m words ≡ []
unfolding fits
none_of_length m [] out all = refl
none_of_length m (word ∷ words) out all =
    let both = both_so (fits word) (list_all fits words) all in
    let fit = both_so (nat_le 3 (length word)) (nat_le (length word) 8) both.0 in
    rw (outside (length word) m out fit.0 fit.1) (none_of_length m words out both.1)
