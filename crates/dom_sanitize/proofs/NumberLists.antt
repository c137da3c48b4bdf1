-- Lists of numbers: who stands in them, and what is left without some.
use Rattle.std.proofs.Common.{ℕ, ◌≡◌, true, false, List, [], ◌∷◌, ◌++◌, refl, sym, ap, ◌∙◌, subst, inl, inr}
use Rattle.std.specs.Prelude.{◌==◌, ◌&&◌, not}
use Rattle.std.proofs.lemmas.Bool.{and_right, cases_Bool, eqb-true, eqb-false, ne_eqb, or_parts, true≢false, or_right, or_left}
use Rattle.dom_links.specs.Lists.{is_member, IsDistinct, without}
use Rattle.dom_links.proofs.forest.Neighbours.{is_member-append, is_member-without, distinct_parts}

pub in_front : (xs ys : List ℕ) (n : ℕ) → is_member n xs ≡ true → is_member n (xs ++ ys) ≡ true
in_front xs ys n s = is_member-append xs ys n ∙ or_left _ _ s

pub in_back : (xs ys : List ℕ) (n : ℕ) → is_member n ys ≡ true → is_member n (xs ++ ys) ≡ true
in_back xs ys n s = is_member-append xs ys n ∙ or_right _ _ s

-- in neither part
pub out_parts : (xs ys : List ℕ) (n : ℕ) → is_member n (xs ++ ys) ≡ false → (is_member n xs ≡ false) × (is_member n ys ≡ false)
out_parts xs ys n out = or_parts (is_member n xs) (is_member n ys) (sym (is_member-append xs ys n) ∙ out)

pub out_of_both : (xs ys : List ℕ) (n : ℕ) → is_member n xs ≡ false → is_member n ys ≡ false → is_member n (xs ++ ys) ≡ false
out_of_both xs ys n one two = is_member-append xs ys n ∙ rw one two

-- who stands in a list isn't who doesn't
pub other : (xs : List ℕ) (a n : ℕ) → is_member a xs ≡ false → is_member n xs ≡ true → (a == n) ≡ false
other xs a n out s = elim (cases_Bool (a == n)) [
  | inr f ↦ f
  | inl t ↦ absurd (true≢false (sym s ∙ subst (λ (k : ℕ). is_member k xs ≡ false) (eqb-true a n t) out))
]

pub turned : (a n : ℕ) → (a == n) ≡ false → (n == a) ≡ false
turned a n f = ne_eqb n a (λ e. eqb-false a n f (sym e))

-- the two lists have no number in common
pub apart-back : (xs ys : List ℕ) (n : ℕ) → IsDistinct (xs ++ ys) → is_member n ys ≡ true → is_member n xs ≡ false
apart-back xs ys n d s = elim (cases_Bool (is_member n xs)) [
  | inr f ↦ f
  | inl t ↦ absurd (true≢false (sym s ∙ (distinct_parts xs ys d).2 n t))
]

-- one number out of what is left without others
pub without-cons : (x : ℕ) (gone ns : List ℕ) → without (x ∷ []) (without gone ns) ≡ without (x ∷ gone) ns
without-cons x gone [] = refl
without-cons x gone (n ∷ ns) = elim (cases_Bool (is_member n gone)) [
  | inl t ↦ rw (t, or_right (x == n) true refl) (without-cons x gone ns)
  | inr f ↦ elim (cases_Bool (x == n)) [
    | inl u ↦ rw (f, u) (without-cons x gone ns)
    | inr g ↦ rw (f, g) (ap (λ ms. n ∷ ms) (without-cons x gone ns))
  ]
]

pub out_of-without : (gone ns : List ℕ) (n : ℕ) → is_member n gone ≡ true → is_member n (without gone ns) ≡ false
out_of-without gone ns n s = is_member-without gone ns n ∙ and_right (is_member n ns) (not (is_member n gone)) (ap not s)

pub out_of_less : (gone ns : List ℕ) (n : ℕ) → is_member n ns ≡ false → is_member n (without gone ns) ≡ false
out_of_less gone ns n out = is_member-without gone ns n ∙ ap (λ t. t && not (is_member n gone)) out
