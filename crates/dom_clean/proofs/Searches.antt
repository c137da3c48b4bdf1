-- Loops that look for an element: what was found so far, and what that says of the whole list.
use Rattle.std.proofs.Common.{◌≡◌, ℕ, ◌+◌, ◌<◌, ◌≤◌, ◌||◌, ◌&&◌, Bool, true, false, List, [], ◌∷◌, None, Option, Some, cond, filter, length, map, take, take_all, get_or, refl, sym, ap, ◌∙◌}
use Rattle.std.specs.List.{find, list_all, list_any}
use Rattle.std.specs.Option.{option_map}
use Rattle.std.proofs.lemmas.List.Folds.{list_all_at, list_all_more, list_any_at, list_any_more}

-- ---- lists that are mapped

pub find-map : {X Y : Type 0} (h : X → Y) (p : Y → Bool) (xs : List X) → option_map h (find (λ x. p (h x)) xs) ≡ find p (map h xs)
find-map h p [] = refl
find-map h p (x ∷ xs) = elim (p (h x)) as (λ b. option_map h (cond b (Some x) (find (λ x. p (h x)) xs)) ≡ cond b (Some (h x)) (find p (map h xs))) [
  | true ↦ refl
  | false ↦ find-map h p xs
]

pub map-twice : {X Y Z : Type 0} (g : Y → Z) (h : X → Y) (found : Option X) → option_map g (option_map h found) ≡ option_map (λ x. g (h x)) found
map-twice g h None = refl
map-twice g h (Some x) = refl

pub filter-map : {X Y : Type 0} (h : X → Y) (p : Y → Bool) (xs : List X) → map h (filter (λ x. p (h x)) xs) ≡ filter p (map h xs)
filter-map h p [] = refl
filter-map h p (x ∷ xs) = elim (p (h x)) as (λ b. map h (cond b (x ∷ filter (λ x. p (h x)) xs) (filter (λ x. p (h x)) xs)) ≡ cond b (h x ∷ filter p (map h xs)) (filter p (map h xs))) [
  | true ↦ ap (λ ys. h x ∷ ys) (filter-map h p xs)
  | false ↦ filter-map h p xs
]

-- ---- one that passes

pub one_passes : {X : Type 0} (p : X → Bool) (xs : List X) (i : ℕ) (x : X) → i < length xs → x ≡ get_or xs i x → p x ≡ true → list_any p xs ≡ true
one_passes p xs i x low is passed = list_any_at p xs i x low (ap p (sym is) ∙ passed)

pub none_more : {X : Type 0} (p : X → Bool) (xs : List X) (i : ℕ) (x : X) → i < length xs → x ≡ get_or xs i x → list_any p (take i xs) ≡ false → p x ≡ false →
    list_any p (take (i + 1) xs) ≡ false
none_more p xs i x low is none failed = list_any_more p xs i x low ∙ ap (λ b. b || p (get_or xs i x)) none ∙ (ap p (sym is) ∙ failed)

pub none_passes : {X : Type 0} (p : X → Bool) (xs : List X) (i : ℕ) → length xs ≤ i → list_any p (take i xs) ≡ false → list_any p xs ≡ false
none_passes p xs i all none = ap (list_any p) (sym (take_all i xs all)) ∙ none

-- ---- one that fails

pub one_fails : {X : Type 0} (p : X → Bool) (xs : List X) (i : ℕ) (x : X) → i < length xs → x ≡ get_or xs i x → p x ≡ false → list_all p xs ≡ false
one_fails p xs i x low is failed = list_all_at p xs i x low (ap p (sym is) ∙ failed)

pub all_more : {X : Type 0} (p : X → Bool) (xs : List X) (i : ℕ) (x : X) → i < length xs → x ≡ get_or xs i x → list_all p (take i xs) ≡ true → p x ≡ true →
    list_all p (take (i + 1) xs) ≡ true
all_more p xs i x low is all passed = list_all_more p xs i x low ∙ ap (λ b. b && p (get_or xs i x)) all ∙ (ap p (sym is) ∙ passed)

pub all_pass : {X : Type 0} (p : X → Bool) (xs : List X) (i : ℕ) → length xs ≤ i → list_all p (take i xs) ≡ true → list_all p xs ≡ true
all_pass p xs i whole all = ap (list_all p) (sym (take_all i xs whole)) ∙ all
