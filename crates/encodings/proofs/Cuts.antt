-- Runs of bytes, and what stands behind them.
use Rattle.std.proofs.Common.{◌≡◌, ℕ, ◌+◌, ◌<◌, ◌≤◌, List, [], ◌∷◌, ◌++◌, Bool, true, false, cond, length, take, drop, get_or, refl, sym, ap, ◌∙◌, append_assoc, append-nil, Some, None}
use Rattle.std.proofs.lemmas.List.{at_drop_more, at_drop_all, take_more, take_all}
use Rattle.encodings.specs.Bytes.{after_while, from_first, front_while}

-- ---- one byte more

pub after_passed : (p : ℕ → Bool) (bytes : List ℕ) (i : ℕ) → i < length bytes → p (get_or bytes i 0) ≡ true → after_while p (drop i bytes) ≡ after_while p (drop (i + 1) bytes)
unfolding after_while
after_passed p bytes i h passes = at_drop_more (after_while p) bytes i 0 h ∙ rw passes refl

pub after_stopped : (p : ℕ → Bool) (bytes : List ℕ) (i : ℕ) → i < length bytes → p (get_or bytes i 0) ≡ false → after_while p (drop i bytes) ≡ drop i bytes
unfolding after_while
after_stopped p bytes i h stops =
    let here : after_while p (get_or bytes i 0 ∷ drop (i + 1) bytes) ≡ get_or bytes i 0 ∷ drop (i + 1) bytes = rw stops refl in
    at_drop_more (after_while p) bytes i 0 h ∙ here ∙ sym (at_drop_more (λ xs. xs) bytes i 0 h)

front_passed : (p : ℕ → Bool) (bytes : List ℕ) (i : ℕ) → i < length bytes → p (get_or bytes i 0) ≡ true →
    front_while p (drop i bytes) ≡ get_or bytes i 0 ∷ front_while p (drop (i + 1) bytes)
unfolding front_while
front_passed p bytes i h passes = at_drop_more (front_while p) bytes i 0 h ∙ rw passes refl

front_stopped : (p : ℕ → Bool) (bytes : List ℕ) (i : ℕ) → i < length bytes → p (get_or bytes i 0) ≡ false → front_while p (drop i bytes) ≡ []
unfolding front_while
front_stopped p bytes i h stops = at_drop_more (front_while p) bytes i 0 h ∙ rw stops refl

pub front_more : (p : ℕ → Bool) (bytes : List ℕ) (i : ℕ) → i < length bytes → p (get_or bytes i 0) ≡ true → front_while p bytes ≡ take i bytes ++ front_while p (drop i bytes) →
    front_while p bytes ≡ take (i + 1) bytes ++ front_while p (drop (i + 1) bytes)
front_more p bytes i h passes so_far =
    so_far ∙ ap (λ rest. take i bytes ++ rest) (front_passed p bytes i h passes) ∙ sym (append_assoc (take i bytes) (get_or bytes i 0 ∷ []) (front_while p (drop (i + 1) bytes)))
    ∙ ap (λ front. front ++ front_while p (drop (i + 1) bytes)) (sym (take_more bytes i 0 h))

pub front_found : (p : ℕ → Bool) (bytes : List ℕ) (i : ℕ) → i < length bytes → p (get_or bytes i 0) ≡ false → front_while p bytes ≡ take i bytes ++ front_while p (drop i bytes) →
    take i bytes ≡ front_while p bytes
front_found p bytes i h stops so_far =
    sym (so_far ∙ ap (λ rest. take i bytes ++ rest) (front_stopped p bytes i h stops) ∙ append-nil (take i bytes))

pub front_all : (p : ℕ → Bool) (bytes : List ℕ) (i : ℕ) → length bytes ≤ i → front_while p bytes ≡ take i bytes ++ front_while p (drop i bytes) → bytes ≡ front_while p bytes
unfolding front_while
front_all p bytes i h so_far =
    sym (so_far ∙ ap (λ rest. take i bytes ++ rest) (at_drop_all (front_while p) bytes i h) ∙ append-nil (take i bytes) ∙ take_all i bytes h)

pub after_all : (p : ℕ → Bool) (bytes : List ℕ) (i : ℕ) → length bytes ≤ i → after_while p (drop i bytes) ≡ after_while p bytes → [] ≡ after_while p bytes
unfolding after_while
after_all p bytes i h so_far = sym (at_drop_all (after_while p) bytes i h) ∙ so_far

pub first_passed : (p : List ℕ → Bool) (bytes : List ℕ) (i : ℕ) → i < length bytes → p (drop i bytes) ≡ true → from_first p (drop i bytes) ≡ Some (drop i bytes)
unfolding from_first
first_passed p bytes i h passes =
    let here = at_drop_more (λ xs. xs) bytes i 0 h in
    let passes_here : p (get_or bytes i 0 ∷ drop (i + 1) bytes) ≡ true = ap p (sym here) ∙ passes in
    let found : from_first p (get_or bytes i 0 ∷ drop (i + 1) bytes) ≡ Some (get_or bytes i 0 ∷ drop (i + 1) bytes) = rw passes_here refl in
    ap (from_first p) here ∙ found ∙ ap (λ xs. Some xs) (sym here)

pub first_later : (p : List ℕ → Bool) (bytes : List ℕ) (i : ℕ) → i < length bytes → p (drop i bytes) ≡ false → from_first p (drop i bytes) ≡ from_first p (drop (i + 1) bytes)
unfolding from_first
first_later p bytes i h stops =
    let here = at_drop_more (λ xs. xs) bytes i 0 h in
    let stops_here : p (get_or bytes i 0 ∷ drop (i + 1) bytes) ≡ false = ap p (sym here) ∙ stops in
    let later : from_first p (get_or bytes i 0 ∷ drop (i + 1) bytes) ≡ from_first p (drop (i + 1) bytes) = rw stops_here refl in
    ap (from_first p) here ∙ later

pub first_nowhere : (p : List ℕ → Bool) (bytes : List ℕ) (i : ℕ) → length bytes ≤ i → from_first p (drop i bytes) ≡ from_first p bytes → None ≡ from_first p bytes
unfolding from_first
first_nowhere p bytes i h so_far = sym (at_drop_all (from_first p) bytes i h) ∙ so_far

-- ---- the front and the rest are the bytes

pub parts : (p : ℕ → Bool) (bytes : List ℕ) → bytes ≡ front_while p bytes ++ after_while p bytes
unfolding front_while after_while
parts p [] = refl
parts p (byte ∷ rest) =
    elim (p byte) as (λ b. byte ∷ rest ≡ cond b (byte ∷ front_while p rest) [] ++ cond b (after_while p rest) (byte ∷ rest)) [ true ↦ ap (λ r. byte ∷ r) (parts p rest) | false ↦ refl ]
