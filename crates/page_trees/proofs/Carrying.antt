-- An element of a list that changes places with those behind it.
use Rattle.std.proofs.Common.{ℕ, ◌≡◌, ◌<◌, ◌≤◌, ◌+◌, suc, zero, List, [], ◌∷◌, Some, refl, sym, ap, ◌∙◌, subst, arith, length}
use Rattle.std.specs.Prelude.{insert, remove, slice_get, slice_set}
use Rattle.std.proofs.lemmas.Option.{same_Some}

-- the copy of an element stands where the element stood
pub set_in_place : {X : Type 0} (xs : List X) (i : ℕ) (y : X) → i < length xs → slice_set xs i y ≡ insert (remove xs i) i y
set_in_place [] i y lt = absurd (omega (arith, lt))
set_in_place (x ∷ xs) zero y lt = refl
set_in_place (x ∷ xs) (suc i) y lt = ap (λ ys. x ∷ ys) (set_in_place xs i y (omega (arith, lt)))

inserted_at : {X : Type 0} (xs : List X) (i : ℕ) (y : X) → i ≤ length xs → slice_get (insert xs i y) i ≡ Some y
inserted_at [] zero y le = refl
inserted_at [] (suc i) y le = absurd (omega (arith, le))
inserted_at (x ∷ xs) zero y le = refl
inserted_at (x ∷ xs) (suc i) y le = inserted_at xs i y (omega (arith, le))

-- it passes the next one
passes : {X : Type 0} (xs : List X) (i : ℕ) (y u : X) → i < length xs → slice_get (insert xs i y) (suc i) ≡ Some u → slice_set (slice_set (insert xs i y) i u) (suc i) y ≡ insert xs (suc i) y
passes [] i y u lt is = absurd (omega (arith, lt))
passes (x ∷ xs) zero y u lt is = ap (λ v. v ∷ y ∷ xs) (sym (same_Some x u is))
passes (x ∷ xs) (suc i) y u lt is = ap (λ ys. x ∷ ys) (passes xs i y u (omega (arith, lt)) is)

next : (k : ℕ) → suc k ≡ k + 1
next k = omega arith

passes_next : {X : Type 0} (xs : List X) (i : ℕ) (y u : X) → i < length xs → slice_get (insert xs i y) (i + 1) ≡ Some u → slice_set (slice_set (insert xs i y) i u) (i + 1) y ≡ insert xs (i + 1) y
passes_next xs i y u lt =
    subst (λ n. slice_get (insert xs i y) n ≡ Some u → slice_set (slice_set (insert xs i y) i u) n y ≡ insert xs n y) (next i) (passes xs i y u lt)

pub exchanged : {X : Type 0} (old mid new xs : List X) (i : ℕ) (y lower upper : X) → slice_get old i ≡ Some lower → slice_get old (i + 1) ≡ Some upper → mid ≡ slice_set old i upper → new ≡ slice_set mid (i + 1) lower →
    old ≡ insert xs i y → i < length xs → new ≡ insert xs (i + 1) y
exchanged old mid new xs i y lower upper is above e e' front lt =
    let same : lower ≡ y = same_Some lower y (sym is ∙ ap (λ ys. slice_get ys i) front ∙ inserted_at xs i y (omega (arith, lt))) in
    e' ∙ ap (λ ys. slice_set ys (i + 1) lower) (e ∙ ap (λ ys. slice_set ys i upper) front) ∙ ap (λ z. slice_set (slice_set (insert xs i y) i upper) (i + 1) z) same ∙
    passes_next xs i y upper lt (ap (λ ys. slice_get ys (i + 1)) (sym front) ∙ above)

-- to insert a copy behind a later element and then to remove the element is to remove it first
pub carried : {X : Type 0} (xs : List X) (p b : ℕ) (y : X) → p ≤ b → b < length xs → remove (insert xs (suc b) y) p ≡ insert (remove xs p) b y
carried [] p b y le lt = absurd (omega (arith, lt))
carried (x ∷ xs) zero b y le lt = refl
carried (x ∷ xs) (suc p) zero y le lt = absurd (omega (arith, le))
carried (x ∷ xs) (suc p) (suc b) y le lt = ap (λ ys. x ∷ ys) (carried xs p b y (omega (arith, le)) (omega (arith, lt)))

pub carried_next : {X : Type 0} (xs : List X) (p b : ℕ) (y : X) → p ≤ b → b < length xs → remove (insert xs (b + 1) y) p ≡ insert (remove xs p) b y
carried_next xs p b y le lt = subst (λ n. remove (insert xs n y) p ≡ insert (remove xs p) b y) (next b) (carried xs p b y le lt)
