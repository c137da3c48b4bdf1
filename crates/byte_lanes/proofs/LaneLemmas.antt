-- What the operations on vectors of 16 bytes hold at each lane.
use Rattle.std.proofs.Common.{◌≡◌, ℕ, zero, suc, ◌%◌, ◌^◌, ◌<◌, ◌≤◌, Bool, true, false, not, cond, List, [], ◌∷◌, length, get_or, map, replicate, refl, sym, subst, ap, ◌∙◌, arith, inl, inr, w8, bit_or}
use Rattle.std.specs.Prelude.{◌||◌, ◌==◌, if◌then◌else◌}
use Rattle.std.specs.List.{prefix_len}
use Rattle.std.specs.Simd.Lanes.{zip2, sel_l, mask_l, top}
use lib.Count.{count_trailing_zeros}
use Rattle.std.proofs.lemmas.Bool.{cases_Bool}
use Rattle.std.proofs.lemmas.Simd.{bitmask_splat, first_set_mask_l, length-zip2, get_or-zip2, get_or-replicate, length-replicate, length-sel_l, get_or-sel_l, tops_compared}
use Rattle.byte_lanes.specs.Lanes.{HasLanes, Marks}

-- an operator on two vectors
pub HasLanes-zip2 : (f : ℕ → ℕ → ℕ) (a b : List ℕ) → length a ≡ 16 → length b ≡ 16 → HasLanes (zip2 f a b) (λ k. f (get_or a k 0) (get_or b k 0))
HasLanes-zip2 f a b p q = record {
  long = length-zip2 f a b (p ∙ sym q) ∙ p;
  each = λ k l. get_or-zip2 f a b k 0 0 0 (omega arith) (omega arith);
}

-- a choice of two vectors by the comparison with a splat
pub HasLanes-select : (t : ℕ → ℕ → Bool) (a : List ℕ) (x : ℕ) (ys zs : List ℕ) → length a ≡ 16 → length ys ≡ 16 → length zs ≡ 16
    → HasLanes (sel_l (zip2 t a (replicate 16 x)) ys zs) (λ k. cond (t (get_or a k 0) x) (get_or ys k 0) (get_or zs k 0))
HasLanes-select t a x ys zs p q r =
    let long : length (zip2 t a (replicate 16 x)) ≡ 16 = length-zip2 t a (replicate 16 x) (p ∙ sym (length-replicate 16 x)) ∙ p in
    record {
      long = length-sel_l _ ys zs (long ∙ sym q) (long ∙ sym r) ∙ long;
      each = λ k l.
          get_or-sel_l _ ys zs k 0 (omega arith) (omega arith) (omega arith)
          ∙ ap (λ b. cond b (get_or ys k 0) (get_or zs k 0)) (get_or-zip2 t a (replicate 16 x) k 0 0 false (omega arith) (omega (arith, length-replicate 16 x)) ∙ ap (t (get_or a k 0)) (get_or-replicate 16 k x 0 l));
    }

-- the same of two splats
Marks-select : (t : ℕ → ℕ → Bool) (a : List ℕ) (x : ℕ) → length a ≡ 16 → Marks (sel_l (zip2 t a (replicate 16 x)) (replicate 16 255) (replicate 16 0)) (λ k. t (get_or a k 0) x)
Marks-select t a x p =
    let s = HasLanes-select t a x (replicate 16 255) (replicate 16 0) p (length-replicate {A = ℕ} 16 255) (length-replicate {A = ℕ} 16 0) in
    record {
      long = s.long;
      each = λ k l. s.each k l
          ∙ (ap (λ n. cond (t (get_or a k 0) x) n (get_or (replicate 16 0) k 0)) (get_or-replicate 16 k 255 0 l)
          ∙ ap (λ n. cond (t (get_or a k 0) x) 255 n) (get_or-replicate 16 k 0 0 l));
    }

-- what a comparison of a vector with a splat marks
pub marks_compared : (t : ℕ → ℕ → Bool) (a : List ℕ) (x : ℕ) → length a ≡ 16
    → Marks (sel_l (map (top 7) (zip2 (λ a b. cond (t a b) 255 0) a (replicate 16 x))) (replicate 16 255) (replicate 16 0)) (λ k. t (get_or a k 0) x)
marks_compared t a x p = subst (λ ms. Marks (sel_l ms (replicate 16 255) (replicate 16 0)) (λ k. t (get_or a k 0) x)) (sym (tops_compared w8 t a (replicate 16 x))) (Marks-select t a x p)

or_marks : (p q : Bool) → bit_or (if p then 255 else 0) (if q then 255 else 0) ≡ (if p || q then 255 else 0)
or_marks true true = refl
or_marks true false = refl
or_marks false true = refl
or_marks false false = refl

pub Marks-or : (a b : List ℕ) (p q : ℕ → Bool) → Marks a p → Marks b q → Marks (zip2 bit_or a b) (λ k. p k || q k)
Marks-or a b p q m n =
    let both = HasLanes-zip2 bit_or a b m.long n.long in
    record {
      long = both.long;
      each = λ k l. both.each k l ∙ (ap (λ x. bit_or x (get_or b k 0)) (m.each k l) ∙ (ap (λ y. bit_or (if p k then 255 else 0) y) (n.each k l) ∙ or_marks (p k) (q k)));
    }

-- lanes before the first that isn't 0
unset : (xs : List ℕ) (k : ℕ) → k < prefix_len (λ x. not (not (x == 0))) xs → (get_or xs k 0 == 0) ≡ true
unset [] k h = absurd (omega arith)
unset (x ∷ xs) zero h = elim (cases_Bool (x == 0)) [
  | inl t ↦ t
  | inr f ↦ (let none : zero < 0 = rw f at h in absurd (omega (arith, none)))
]
unset (x ∷ xs) (suc k) h = elim (cases_Bool (x == 0)) [
  | inl t ↦ unset xs k (let more = rw t at h in omega (arith, more))
  | inr f ↦ (let none : suc k < 0 = rw f at h in absurd (omega (arith, none)))
]

mark_none : (b : Bool) → ((if b then 255 else 0) == 0) ≡ true → b ≡ false
mark_none true h = absurd (cc)
mark_none false h = refl

prefix-short : (p : ℕ → Bool) (xs : List ℕ) → prefix_len p xs ≤ length xs
prefix-short p [] = omega arith
prefix-short p (x ∷ xs) = elim (cases_Bool (p x)) [
  | inl t ↦ rw t (let rest = prefix-short p xs in omega (arith, rest))
  | inr f ↦ rw f (omega arith)
]

-- the lowest bit that is set of the lanes that aren't 0, or 16
abbrev pub marks_of : List ℕ → ℕ
marks_of v = mask_l (map (top 7) (zip2 (λ a b. cond (not (a == b)) 255 0) v (replicate 16 0))) % 2 ^ 64

counted : (v : List ℕ) → length v ≡ 16 → cond (marks_of v == 0) 16 (count_trailing_zeros 64 (marks_of v)) ≡ prefix_len (λ x. not (not (x == 0))) v
counted v long =
    ap (λ m. cond (m == 0) 16 (count_trailing_zeros 64 m)) (bitmask_splat w8 (λ a b. not (a == b)) v 16 0 long (omega arith))
    ∙ first_set_mask_l (λ x. not (x == 0)) v 16 long (omega arith)

-- as many lanes as there are before the first that is marked
pub record IsUnmarked (v : List ℕ) (r : ℕ) : Type 0 where
  pub within : r ≤ 16
  pub unmarked : (p : ℕ → Bool) → Marks v p → (k : ℕ) → k < r → p k ≡ false

unmarked : (v : List ℕ) (r : ℕ) → length v ≡ 16 → r ≡ prefix_len (λ x. not (not (x == 0))) v → IsUnmarked v r
unmarked v r long is = record {
  within = (let short = prefix-short (λ x. not (not (x == 0))) v in omega (arith, is, short));
  unmarked = λ p m k l. mark_none (p k) (ap (λ x. x == 0) (sym (m.each k (let short = prefix-short (λ x. not (not (x == 0))) v in omega (arith, is, short, l)))) ∙ unset v k (rw is at l));
}

pub none_marked : (v : List ℕ) → length v ≡ 16 → (marks_of v == 0) ≡ true → IsUnmarked v 16
none_marked v long none = unmarked v 16 long (ap (λ b. cond b 16 (count_trailing_zeros 64 (marks_of v))) (sym none) ∙ counted v long)

pub first_marked : (v : List ℕ) → length v ≡ 16 → (marks_of v == 0) ≡ false → IsUnmarked v (count_trailing_zeros 64 (marks_of v))
first_marked v long some = unmarked v _ long (ap (λ b. cond b 16 (count_trailing_zeros 64 (marks_of v))) (sym some) ∙ counted v long)
