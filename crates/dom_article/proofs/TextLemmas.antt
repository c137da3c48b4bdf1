-- The text of an article is a part of the page's.
use Rattle.std.proofs.Common.{◌≡◌, ℕ, List, [], ◌∷◌, ◌++◌, Bool, true, true≢false, inl, inr, refl, sym, subst}
use Rattle.std.specs.Prelude.{◌==◌}
use Rattle.std.specs.List.{filter, flat_map}
use Rattle.std.proofs.lemmas.Bool.{cases_Bool, eq-eqb, eqb-true}
use Rattle.dom_links.specs.Forest.{Forest}
use Rattle.dom_links.specs.Lists.{is_member}
use Rattle.dom_links.specs.Texts.{text_at, text_of}
use Rattle.dom_links.specs.Trees.{descendants_in_order}
use Rattle.dom_article.specs.Pruned.{IsExtract, marked}
use Rattle.dom_article.specs.Texts.{IsSubsequence, nothing, taken, left_out, kept_nodes, kept_text}

-- The same text in front of both.
same_front : (zs xs ys : List ℕ) → IsSubsequence xs ys → IsSubsequence (zs ++ xs) (zs ++ ys)
same_front [] xs ys part = part
same_front (z ∷ zs) xs ys part = taken z (zs ++ xs) (zs ++ ys) (same_front zs xs ys part)

-- A text in front that is left out.
front_left : (zs xs ys : List ℕ) → IsSubsequence xs ys → IsSubsequence xs (zs ++ ys)
front_left [] xs ys part = part
front_left (z ∷ zs) xs ys part = left_out z xs (zs ++ ys) (front_left zs xs ys part)

filtered : (f : ℕ → List ℕ) (p : ℕ → Bool) (ns : List ℕ) → IsSubsequence (flat_map f (filter p ns)) (flat_map f ns)
filtered f p [] = nothing []
filtered f p (n ∷ ns) = elim (cases_Bool (p n)) [
  | inl t ↦ rw t (same_front (f n) (flat_map f (filter p ns)) (flat_map f ns) (filtered f p ns))
  | inr not ↦ rw not (front_left (f n) (flat_map f (filter p ns)) (flat_map f ns) (filtered f p ns))
]

pub kept_is_part : (forest : Forest) (root : ℕ) (marks : List Bool) → IsSubsequence (kept_text forest root marks) (text_of forest root)
kept_is_part forest root marks = filtered (text_at forest) (marked marks) (root ∷ descendants_in_order forest root)

passes : (p : ℕ → Bool) (ns : List ℕ) (n : ℕ) → p n ≡ true → is_member n ns ≡ true → is_member n (filter p ns) ≡ true
passes p [] n is s = absurd (true≢false (sym s))
passes p (m ∷ ms) n is s = elim (cases_Bool (m == n)) [
  | inl here ↦ (let at_m : p m ≡ true = subst (λ (k : ℕ). p k ≡ true) (sym (eqb-true m n here)) is in rw (at_m, here) refl)
  | inr there ↦ (let later = passes p ms n is (rw there at s) in elim (cases_Bool (p m)) [ inl t ↦ rw (t, there) later | inr f ↦ rw f later ])
]

pub kept_stands : (forest : Forest) (root : ℕ) (marks : List Bool) → IsExtract forest root marks → (n : ℕ) → marked marks n ≡ true → is_member n (kept_nodes forest root marks) ≡ true
kept_stands forest root marks extract n is = passes (marked marks) (root ∷ descendants_in_order forest root) n is (elim (extract.pruned n is) [
  | inl e ↦ rw (eq-eqb root n (sym e)) refl
  | inr below ↦ elim (cases_Bool (root == n)) [ inl t ↦ rw t refl | inr f ↦ rw f (below.below) ]
])
