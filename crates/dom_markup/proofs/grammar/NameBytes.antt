-- Bytes above `>` at the front of a name, which are tested by many at once.
use Rattle.std.proofs.Common.{◌≡◌, ℕ, ◌+◌, ◌<◌, ◌≤◌, ◌==◌, zero, suc, Bool, true, false, not, List, [], ◌∷◌, ◌++◌, drop, refl, sym, ◌∙◌, subst, arith}
use Rattle.std.specs.Prelude.{nat_le}
use Rattle.std.specs.List.{prefix_len}
use Rattle.std.specs.Simd.Lanes.{chunk}
use Rattle.std.proofs.lemmas.Bool.{leb-false, ne_eqb, not-true}
use Rattle.std.proofs.lemmas.Simd.{chunk-drop}
use Rattle.dom_markup.specs.Bytes.{is_low, is_name_byte, is_whitespace}

-- no whitespace stands above a space
pub no_whitespace : (b : ℕ) → 32 < b → is_whitespace b ≡ false
no_whitespace b high =
    let other : (k : ℕ) → k ≤ 32 → (b == k) ≡ false = λ k h. ne_eqb b k (λ e. omega (arith, e)) in
    rw (other 9 (omega arith), other 10 (omega arith), other 12 (omega arith), other 13 (omega arith), other 32 (omega arith)) refl

-- all that names leave out stands at `>` or below
pub above : (b : ℕ) → 62 < b → is_name_byte b ≡ true
above b high =
    let other : (k : ℕ) → k ≤ 62 → (b == k) ≡ false = λ k h. ne_eqb b k (λ e. omega (arith, e)) in
    rw (no_whitespace b (omega arith), other 47 (omega arith), other 62 (omega arith), other 60 (omega arith), other 61 (omega arith), other 34 (omega arith), other 39 (omega arith), other 0 (omega arith)) refl

-- where p passes all that q does, a run of q is the beginning of one of p
past_run : (q p : ℕ → Bool) → ((b : ℕ) → q b ≡ true → p b ≡ true) → (front xs : List ℕ) (k : ℕ) → k ≡ prefix_len q front →
    prefix_len p (front ++ xs) ≡ k + prefix_len p (drop k (front ++ xs))
past_run q p more front xs zero is = omega arith
past_run q p more [] xs (suc k) is = absurd (omega (arith, is))
past_run q p more (b ∷ front) xs (suc k) is = by_byte (q b) refl is (past_run q p more front xs k)
  where
    by_byte : (t : Bool) → q b ≡ t → suc k ≡ prefix_len q (b ∷ front) → (k ≡ prefix_len q front → prefix_len p (front ++ xs) ≡ k + prefix_len p (drop k (front ++ xs))) →
        prefix_len p (b ∷ front ++ xs) ≡ suc k + prefix_len p (drop (suc k) (b ∷ front ++ xs))
    by_byte true e is rest =
        let here : suc k ≡ 1 + prefix_len q front = is ∙ (rw e refl) in
        let next = rest (omega (arith, here)) in
        rw (more b e) (omega (arith, next))
    by_byte false e is rest =
        let here : suc k ≡ 0 = is ∙ (rw e refl) in
        absurd (omega (arith, here))

high_passes : (b : ℕ) → not (is_low b) ≡ true → is_name_byte b ≡ true
high_passes b high = above b (leb-false b 62 (not-true (nat_le b 62) high))

pub past_high : (d : List ℕ) (k : ℕ) → k ≡ prefix_len (λ (b : ℕ). not (is_low b)) (chunk 0 16 d) → prefix_len is_name_byte d ≡ k + prefix_len is_name_byte (drop k d)
past_high d k is =
    let q = λ (b : ℕ). not (is_low b) in
    subst (λ (l : List ℕ). prefix_len is_name_byte l ≡ k + prefix_len is_name_byte (drop k l)) (sym (chunk-drop 0 16 d)) (past_run q is_name_byte high_passes (chunk 0 16 d) (drop 16 d) k is)
