-- What is left of a list after elements are taken off its end.
use Rattle.std.proofs.Common.{ℕ, ◌≡◌, ◌+◌, ◌<◌, ◌≤◌, Bool, true, false, ◌||◌, List, [], ◌∷◌, ◌++◌, Option, Some, None, length, take, drop, refl, sym, ap, ◌∙◌, arith, if◌then◌else◌}
use Rattle.std.specs.Prelude.{All, IfNone}
use Rattle.std.specs.Option.{option_to_list}
use Rattle.std.proofs.lemmas.List.{append-nil, length-append, take-append-le}
use Rattle.std.specs.List.{list_any}
use Rattle.std.proofs.lemmas.List.Elements.{All-cons, All-head, All-nil, All-tail}
use Rattle.std.proofs.lemmas.List.{take_all, take-append-drop}
use Rattle.page_trees.specs.Popping.{before_last, first_from, up_to_last}

or_false : (b : Bool) → (b || false) ≡ b
or_false true = refl
or_false false = refl

pub any_push : {X : Type 0} (p : X → Bool) (xs : List X) (y : X) → list_any p (xs ++ y ∷ []) ≡ (list_any p xs || p y)
any_push p [] y = or_false (p y)
any_push p (x ∷ xs) y = or_assoc (p x) _ _ _ (any_push p xs y)
  where
    or_assoc : (a b c d : Bool) → b ≡ (c || d) → (a || b) ≡ ((a || c) || d)
    or_assoc true b c d e = refl
    or_assoc false b c d e = e

same_either : {X : Type 0} (b : Bool) (x : X) → x ≡ (if b then x else x)
same_either true x = refl
same_either false x = refl

step : {X : Type 0} (a b c : Bool) (x : X) (long short xs : List X) → c ≡ (a || b) → long ≡ (if b then xs else short) →
    (if c then x ∷ long else []) ≡ (if b then x ∷ xs else (if a then x ∷ short else []))
step true true c x long short xs e l = ap (λ k. if k then x ∷ long else []) e ∙ ap (λ ys. x ∷ ys) l
step false true c x long short xs e l = ap (λ k. if k then x ∷ long else []) e ∙ ap (λ ys. x ∷ ys) l
step true false c x long short xs e l = ap (λ k. if k then x ∷ long else []) e ∙ ap (λ ys. x ∷ ys) l
step false false c x long short xs e l = ap (λ k. if k then x ∷ long else []) e

-- the last element decides
pub before_last_push : {X : Type 0} (p : X → Bool) (xs : List X) (y : X) → before_last p (xs ++ y ∷ []) ≡ (if p y then xs else before_last p xs)
before_last_push p [] y = same_either (p y) []
before_last_push p (x ∷ xs) y = step (list_any p xs) (p y) _ x _ _ xs (any_push p xs y) (before_last_push p xs y)

all_if : {X : Type 0} (P : X → Type 0) (b : Bool) (xs : List X) → All P xs → All P (if b then xs else [])
all_if P true xs all = all
all_if P false xs all = All-nil P

pub all_before_last : {X : Type 0} (P : X → Type 0) (p : X → Bool) (xs : List X) → All P xs → All P (before_last p xs)
all_before_last P p [] all = all
all_before_last P p (x ∷ xs) all = all_if P (list_any p xs) _ (All-cons P x _ (All-head P x xs all) (all_before_last P p xs (All-tail P x xs all)))

-- an element that passes the test ends the list, or is passed over
pub ended_by : {X : Type 0} (p : X → Bool) (xs ys : List X) (y : X) → xs ≡ ys ++ y ∷ [] → p y ≡ true → ys ≡ before_last p xs
ended_by p xs ys y e t = sym (ap (before_last p) e ∙ before_last_push p ys y ∙ ap (λ k. if k then ys else before_last p ys) t)

pub passed_by : {X : Type 0} (p : X → Bool) (xs ys : List X) (y : X) → xs ≡ ys ++ y ∷ [] → p y ≡ false → before_last p ys ≡ before_last p xs
passed_by p xs ys y e f = sym (ap (before_last p) e ∙ before_last_push p ys y ∙ ap (λ k. if k then ys else before_last p ys) f)

ended : {X : Type 0} (b : Bool) (y : X) → (if b || false then y ∷ [] else []) ≡ (if b then y ∷ [] else [])
ended true y = refl
ended false y = refl

pub up_to_last_push : {X : Type 0} (p : X → Bool) (xs : List X) (y : X) → up_to_last p (xs ++ y ∷ []) ≡ (if p y then xs ++ y ∷ [] else up_to_last p xs)
up_to_last_push p [] y = ended (p y) y
up_to_last_push p (x ∷ xs) y = step (list_any p (x ∷ xs)) (p y) _ x _ _ (xs ++ y ∷ []) (any_push p (x ∷ xs) y) (up_to_last_push p xs y)

pub stops_at : {X : Type 0} (p : X → Bool) (xs ys : List X) (y : X) → xs ≡ ys ++ y ∷ [] → p y ≡ true → xs ≡ up_to_last p xs
stops_at p xs ys y e t = e ∙ sym (ap (up_to_last p) e ∙ up_to_last_push p ys y ∙ ap (λ k. if k then ys ++ y ∷ [] else up_to_last p ys) t)

pub goes_past : {X : Type 0} (p : X → Bool) (xs ys : List X) (y : X) → xs ≡ ys ++ y ∷ [] → p y ≡ false → up_to_last p ys ≡ up_to_last p xs
goes_past p xs ys y e f = sym (ap (up_to_last p) e ∙ up_to_last_push p ys y ∙ ap (λ k. if k then ys ++ y ∷ [] else up_to_last p ys) f)

-- ---- an element is popped while there are too many

pub same_front : {X : Type 0} (n : ℕ) (xs ys : List X) (r : Option X) → xs ≡ ys ++ option_to_list r → n < length xs → take n ys ≡ take n xs
same_front n xs ys None e lt = sym (ap (take n) (e ∙ append-nil ys))
same_front n xs ys (Some y) e lt =
    let long : length xs ≡ length ys + 1 = ap length e ∙ length-append ys (y ∷ []) in
    sym (ap (take n) e ∙ take-append-le n ys (y ∷ []) (omega (arith, long, lt)))

pub popped : {X : Type 0} (n : ℕ) (xs ys : List X) (r : Option X) → xs ≡ ys ++ option_to_list r → IfNone r (xs ≡ []) → n < length xs → length ys < length xs
popped n xs ys None e none lt = absurd (omega (arith, ap length none, lt))
popped n xs ys (Some y) e none lt = let long : length xs ≡ length ys + 1 = ap length e ∙ length-append ys (y ∷ []) in omega (arith, long)

pub all_taken : {X : Type 0} (n : ℕ) (xs : List X) → length xs ≤ n → xs ≡ take n xs
all_taken n xs le = sym (take_all n xs le)

-- ---- the first element that passes a test

pub found_first : {X : Type 0} (p : X → Bool) (n : ℕ) (xs ys : List X) (y : X) → xs ≡ y ∷ ys → p y ≡ true → Some n ≡ first_from p n xs
found_first p n xs ys y e t = sym (ap (first_from p n) e ∙ ap (λ b. if b then Some n else first_from p (n + 1) ys) t)

pub not_first : {X : Type 0} (p : X → Bool) (n : ℕ) (xs ys : List X) (y : X) → xs ≡ y ∷ ys → p y ≡ false → first_from p (n + 1) ys ≡ first_from p n xs
not_first p n xs ys y e f = sym (ap (first_from p n) e ∙ ap (λ b. if b then Some n else first_from p (n + 1) ys) f)

-- the front of a list without its last element
pub front_shorter : {X : Type 0} (xs rest below : List X) (o : X) → rest ≡ below ++ o ∷ [] → take (length rest) xs ≡ rest → take (length below) xs ≡ below
front_shorter xs rest below o e f =
    let whole : xs ≡ (below ++ o ∷ []) ++ drop (length rest) xs = sym (take-append-drop (length rest) xs) ∙ ap (λ ys. ys ++ drop (length rest) xs) (f ∙ e) in
    let longer : length (below ++ o ∷ []) ≡ length below + 1 = length-append below (o ∷ []) in
    ap (λ ys. take (length below) ys) whole
    ∙ take-append-le (length below) (below ++ o ∷ []) (drop (length rest) xs) (omega (arith, longer))
    ∙ take-append-le (length below) below (o ∷ []) (omega arith)
    ∙ take_all (length below) below (omega arith)
