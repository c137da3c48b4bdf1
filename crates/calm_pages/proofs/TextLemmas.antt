-- Bytes that are calm wherever they stand.
use Rattle.std.proofs.Common.{◌≡◌, ◌==◌, ◌&&◌, ◌||◌, ℕ, zero, suc, Bool, true, false, not, List, [], ◌∷◌, length, drop, refl, sym, subst, ap, ◌∙◌, arith, inl, inr}
use Rattle.std.proofs.lemmas.Bool.{and_right, cases_Bool, eqb-true, false_from_ne_true}
use Rattle.std.proofs.lemmas.List.{length-drop}
use Rattle.memchr.specs.Find.{Nowhere, Passes, is_byte}
use Rattle.calm_pages.specs.Calm.{begins_other_tag, is_calm_at, is_calm_byte, is_calm_text, is_plain_reference}

-- another byte in front changes nothing
other : (byte x : ℕ) (xs : List ℕ) → (x == byte ≡ true → ⊥) → is_calm_at byte (x ∷ xs) ≡ is_calm_at byte xs
other byte x xs differs = ap (λ b. (not b || is_calm_byte x xs) && is_calm_at byte xs) (false_from_ne_true _ differs)

pub calm-absent : (byte : ℕ) (xs : List ℕ) → Nowhere (Passes (is_byte byte) xs) 0 (length xs) → is_calm_at byte xs ≡ true
calm-absent byte [] none = refl
calm-absent byte (x ∷ xs) none =
    other byte x xs (none 0 (omega arith) (omega arith))
    ∙ calm-absent byte xs (λ k low high. none (suc k) (omega arith) (omega (arith, high)))

-- at its first place what follows decides
found-here : (byte : ℕ) (xs : List ℕ) (at b : ℕ) (after : List ℕ) → Nowhere (Passes (is_byte byte) xs) 0 at → Passes (is_byte byte) xs at → drop at xs ≡ b ∷ after
    → is_calm_at byte xs ≡ is_calm_byte byte after && is_calm_at byte after
found-here byte [] at b after none is from = absurd (omega (arith, ap length from, length-drop {A = ℕ} at []))
found-here byte (x ∷ xs) zero b after none is from =
    let same : xs ≡ after = cc in
    ap (λ t. (not t || is_calm_byte x xs) && is_calm_at byte xs) is
    ∙ (ap (λ y. is_calm_byte y xs && is_calm_at byte xs) (eqb-true x byte is)
    ∙ ap (λ l. is_calm_byte byte l && is_calm_at byte l) same)
found-here byte (x ∷ xs) (suc n) b after none is from =
    other byte x xs (none 0 (omega arith) (omega arith))
    ∙ found-here byte xs n b after (λ k low high. none (suc k) (omega arith) (omega (arith, high))) is from

pub calm-found : (byte : ℕ) (xs : List ℕ) (at b : ℕ) (after : List ℕ) → Nowhere (Passes (is_byte byte) xs) 0 at → Passes (is_byte byte) xs at → drop at xs ≡ b ∷ after
    → (t : Bool) → t ≡ is_calm_byte byte after → t && is_calm_at byte after ≡ is_calm_at byte xs
calm-found byte xs at b after none is from t e = ap (λ u. u && is_calm_at byte after) e ∙ sym (found-here byte xs at b after none is from)

-- ---- the four bytes that may not be calm

abbrev pub Each : (a b c d : Bool) → Bool
Each a b c d = a && (b && (c && d))

-- with another byte in front, bytes are calm by the answers of each of the four
abbrev Spreads : List ℕ → (a b c d : Bool) → ℕ → Type 0
Spreads xs a b c d x = (is_calm_byte x xs && Each a b c d)
    ≡ Each ((not (x == 0) || is_calm_byte x xs) && a) ((not (x == 13) || is_calm_byte x xs) && b) ((not (x == 38) || is_calm_byte x xs) && c) ((not (x == 60) || is_calm_byte x xs) && d)

at_reference : (p a b c d : Bool) → (p && Each a b c d) ≡ Each a b (p && c) d
at_reference true a b c d = refl
at_reference false a b c d = sym (and_right a _ (and_right b false refl))

at_tag : (p a b c d : Bool) → (p && Each a b c d) ≡ Each a b c (p && d)
at_tag true a b c d = refl
at_tag false a b c d = sym (and_right a _ (and_right b _ (and_right c false refl)))

elsewhere : (x : ℕ) (xs : List ℕ) (a b c d : Bool) → x == 0 ≡ false → x == 13 ≡ false → x == 38 ≡ false → x == 60 ≡ false → Spreads xs a b c d x
elsewhere x xs a b c d p q r s = rw (p, q, r, s) refl

spreads : (x : ℕ) (xs : List ℕ) (a b c d : Bool) → Spreads xs a b c d x
spreads x xs a b c d = elim (cases_Bool (x == 0)) [
  | inl is ↦ subst (Spreads xs a b c d) (sym (eqb-true x 0 is)) refl
  | inr p ↦ elim (cases_Bool (x == 13)) [
    | inl is ↦ subst (Spreads xs a b c d) (sym (eqb-true x 13 is)) (sym (and_right a false refl))
    | inr q ↦ elim (cases_Bool (x == 38)) [
      | inl is ↦ subst (Spreads xs a b c d) (sym (eqb-true x 38 is)) (at_reference (is_plain_reference xs) a b c d)
      | inr r ↦ elim (cases_Bool (x == 60)) [
        | inl is ↦ subst (Spreads xs a b c d) (sym (eqb-true x 60 is)) (at_tag (not (begins_other_tag xs)) a b c d)
        | inr s ↦ elsewhere x xs a b c d p q r s
      ]
    ]
  ]
]

each-of-four : (xs : List ℕ) → is_calm_text xs ≡ Each (is_calm_at 0 xs) (is_calm_at 13 xs) (is_calm_at 38 xs) (is_calm_at 60 xs)
each-of-four [] = refl
each-of-four (x ∷ xs) = ap (λ b. is_calm_byte x xs && b) (each-of-four xs) ∙ spreads x xs _ _ _ _

pub calm-each : (xs ys : List ℕ) → xs ≡ ys → Each (is_calm_at 0 xs) (is_calm_at 13 xs) (is_calm_at 38 xs) (is_calm_at 60 xs) ≡ is_calm_text ys
calm-each xs ys same = sym (each-of-four xs) ∙ ap is_calm_text same
