-- What a test leaves of two or three items of a list.
use Rattle.std.proofs.Common.{◌≡◌, ℕ, ◌+◌, List, [], ◌∷◌, ◌++◌, append-nil, Bool, true, false, ◌||◌, cond, filter, length, min, take, drop, refl, sym, ap, ap₂, ◌∙◌, inl, inr, arith}
use Rattle.std.proofs.lemmas.Bool.{cases_lt}
use Rattle.std.proofs.lemmas.List.{drop-drop, take_all}
use Rattle.std.proofs.lemmas.List.Filters.{FiltersInPlace}
use Rattle.std.specs.List.{list_any}

-- what two tests leave of two items
two_kept : {X : Type 0} (a b : Bool) (x y : X) →
    cond a (x ∷ cond b (y ∷ []) []) (cond b (y ∷ []) []) ≡ cond (a || false) (x ∷ []) [] ++ cond (b || false) (y ∷ []) []
two_kept true true x y = refl
two_kept true false x y = refl
two_kept false true x y = refl
two_kept false false x y = refl

-- what a test leaves of one item
first_kept : {X : Type 0} (b : Bool) (x : X) → cond b (x ∷ []) [] ≡ cond (b || false) (x ∷ []) [] ++ []
first_kept true x = refl
first_kept false x = refl

-- what a test leaves of the first two items
left_two : {X : Type 0} (f : X → Bool) (xs : List X) →
    filter f (take 2 xs) ≡ cond (list_any f (take 1 xs)) (take 1 xs) [] ++ cond (list_any f (take 1 (drop 1 xs))) (take 1 (drop 1 xs)) []
left_two f [] = refl
left_two f (x ∷ []) = first_kept (f x) x
left_two f (x ∷ y ∷ xs) = two_kept (f x) (f y) x y

two_left : {X : Type 0} (f : X → Bool) (xs : List X) (n : ℕ) (a b : Bool) →
    list_any f (take 1 (drop n xs)) ≡ a → list_any f (take 1 (drop (n + 1) xs)) ≡ b →
    cond a (take 1 (drop n xs)) [] ++ cond b (take 1 (drop (n + 1) xs)) [] ≡ filter f (take 2 (drop n xs))
two_left f xs n a b e g =
    sym (ap₂ (λ a b. cond a (take 1 (drop n xs)) [] ++ cond b (take 1 (drop (n + 1) xs)) []) e g)
    ∙ ap (λ ys. cond (list_any f (take 1 (drop n xs))) (take 1 (drop n xs)) [] ++ cond (list_any f (take 1 ys)) (take 1 ys) []) (sym (drop-drop 1 n xs))
    ∙ sym (left_two f (drop n xs))

-- two items are the first and the second
both : {X : Type 0} (xs : List X) → take 2 xs ≡ take 1 xs ++ take 1 (drop 1 xs)
both [] = refl
both (x ∷ []) = refl
both (x ∷ y ∷ xs) = refl

-- what a test leaves of the two items from a place on: both, the first, the second or none
pub both_left : {X : Type 0} (f : X → Bool) (xs : List X) (n : ℕ) → list_any f (take 1 (drop n xs)) ≡ true →
    list_any f (take 1 (drop (n + 1) xs)) ≡ true → take 2 (drop n xs) ≡ filter f (take 2 (drop n xs))
both_left f xs n e g =
    both (drop n xs) ∙ ap (λ ys. take 1 (drop n xs) ++ take 1 ys) (drop-drop 1 n xs) ∙ two_left f xs n true true e g

pub first_left : {X : Type 0} (f : X → Bool) (xs : List X) (n : ℕ) → list_any f (take 1 (drop n xs)) ≡ true →
    list_any f (take 1 (drop (n + 1) xs)) ≡ false → take 1 (drop n xs) ≡ filter f (take 2 (drop n xs))
first_left f xs n e g = sym (append-nil (take 1 (drop n xs))) ∙ two_left f xs n true false e g

pub second_left : {X : Type 0} (f : X → Bool) (xs : List X) (n : ℕ) → list_any f (take 1 (drop n xs)) ≡ false →
    list_any f (take 1 (drop (n + 1) xs)) ≡ true → take 1 (drop (n + 1) xs) ≡ filter f (take 2 (drop n xs))
second_left f xs n e g = two_left f xs n false true e g

pub none_left : {X : Type 0} (f : X → Bool) (xs : List X) (n : ℕ) → list_any f (take 1 (drop n xs)) ≡ false →
    list_any f (take 1 (drop (n + 1) xs)) ≡ false → [] ≡ filter f (take 2 (drop n xs))
none_left f xs n e g = two_left f xs n false false e g

take_min : {X : Type 0} (xs : List X) (n i : ℕ) → i ≡ min n (length xs) → take i xs ≡ take n xs
take_min xs n i end = elim (cases_lt n (length xs)) [
  | inl lt ↦ ap (λ i. take i xs) (omega (arith, end))
  | inr ge ↦ take_all i xs (omega (arith, end)) ∙ sym (take_all n xs ge)
]

-- a loop has filtered in place the first so many items
pub few_left : {X : Type 0} (f : X → Bool) (xs ys : List X) (k i n : ℕ) → FiltersInPlace f xs ys k i → i ≡ min n (length xs) →
    take k ys ≡ filter f (take n xs)
few_left f xs ys k i n h end = h.front ∙ ap (filter f) (take_min xs n i end)
