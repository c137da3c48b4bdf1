-- Where the last element that passes a test stands, and what is in scope.
use Rattle.std.proofs.Common.{ℕ, zero, suc, ◌≡◌, ◌+◌, ◌<◌, ◌≤◌, max, Bool, true, false, ◌&&◌, ◌||◌, not, List, [], ◌∷◌, ◌++◌, length, take, reverse, refl, sym, ap, ◌∙◌, subst, arith, if◌then◌else◌}
use Rattle.std.specs.Prelude.{Some, slice_get}
use Rattle.std.proofs.lemmas.List.{append-nil, append_assoc, length_push, reverse-append}
use Rattle.page_trees.specs.Popping.{up_to_last}
use Rattle.standard_trees.specs.GrowingTree.{in_scope}
use Rattle.page_trees.specs.Scopes.{last_place}
use Rattle.page_trees.proofs.PoppingLemmas.{up_to_last_push}

-- ---- induction from the first element to the last

by_ends_from : {X : Type 0} (P : List X → Type 0) → ((ys : List X) (y : X) → P ys → P (ys ++ y ∷ [])) → (xs ys : List X) → P xs → P (xs ++ ys)
by_ends_from P step xs [] p = subst P (sym (append-nil xs)) p
by_ends_from P step xs (y ∷ ys) p = subst P (append_assoc xs (y ∷ []) ys) (by_ends_from P step (xs ++ y ∷ []) ys (step xs y p))

pub by_ends : {X : Type 0} (P : List X → Type 0) → P [] → ((ys : List X) (y : X) → P ys → P (ys ++ y ∷ [])) → (xs : List X) → P xs
by_ends P base step xs = by_ends_from P step [] xs base

-- ---- the last element that passes a test

length_if : {X : Type 0} (b : Bool) (xs ys : List X) (n : ℕ) → length xs ≡ n → length (if b then xs else ys) ≡ (if b then n else length ys)
length_if true xs ys n e = e
length_if false xs ys n e = refl

pub last_place_push : {X : Type 0} (p : X → Bool) (ys : List X) (y : X) → last_place p (ys ++ y ∷ []) ≡ (if p y then length ys + 1 else last_place p ys)
last_place_push p ys y = ap length (up_to_last_push p ys y) ∙ length_if (p y) (ys ++ y ∷ []) (up_to_last p ys) (length ys + 1) (length_push ys y)

if_le : (b : Bool) (n m k : ℕ) → n ≤ k → m ≤ k → (if b then n else m) ≤ k
if_le true n m k l r = l
if_le false n m k l r = r

pub last_place_le : {X : Type 0} (p : X → Bool) (xs : List X) → last_place p xs ≤ length xs
last_place_le p = by_ends (λ xs. last_place p xs ≤ length xs) (omega arith) (λ ys y le.
    let e : (if p y then length ys + 1 else last_place p ys) ≤ length (ys ++ y ∷ []) = if_le (p y) (length ys + 1) (last_place p ys) (length (ys ++ y ∷ [])) (omega (arith, length_push ys y)) (omega (arith, le, length_push ys y)) in
    omega (arith, e, last_place_push p ys y))

pub last_place_same : {X : Type 0} (p q : X → Bool) → ((x : X) → p x ≡ q x) → (xs : List X) → last_place p xs ≡ last_place q xs
last_place_same p q e = by_ends (λ xs. last_place p xs ≡ last_place q xs) refl (λ ys y same.
    last_place_push p ys y ∙ ap (λ b. if b then length ys + 1 else last_place p ys) (e y) ∙ ap (λ n. if q y then length ys + 1 else n) same ∙ sym (last_place_push q ys y))

if_false : (b : Bool) (n m : ℕ) → b ≡ false → m ≡ 0 → (if b then n else m) ≡ 0
if_false true n m e z = cc
if_false false n m e z = z

pub last_place_none : {X : Type 0} (p : X → Bool) → ((x : X) → p x ≡ false) → (xs : List X) → last_place p xs ≡ 0
last_place_none p no_x = by_ends (λ xs. last_place p xs ≡ 0) refl (λ ys y z. last_place_push p ys y ∙ if_false (p y) (length ys + 1) (last_place p ys) (no_x y) z)

either : (a b : Bool) (n l r : ℕ) → l ≤ n → r ≤ n → (if a || b then n + 1 else max l r) ≡ max (if a then n + 1 else l) (if b then n + 1 else r)
either true true n l r le re = omega arith
either true false n l r le re = omega (arith, re)
either false true n l r le re = omega (arith, le)
either false false n l r le re = refl

pub last_place_or : {X : Type 0} (p q : X → Bool) (xs : List X) → last_place (λ x. p x || q x) xs ≡ max (last_place p xs) (last_place q xs)
last_place_or p q = by_ends (λ xs. last_place (λ x. p x || q x) xs ≡ max (last_place p xs) (last_place q xs)) (omega arith) (λ ys y same.
    last_place_push (λ x. p x || q x) ys y ∙ ap (λ n. if p y || q y then length ys + 1 else n) same
    ∙ either (p y) (q y) (length ys) (last_place p ys) (last_place q ys) (last_place_le p ys) (last_place_le q ys)
    ∙ ap (λ n. max n (if q y then length ys + 1 else last_place q ys)) (sym (last_place_push p ys y)) ∙ ap (λ n. max (last_place p (ys ++ y ∷ [])) n) (sym (last_place_push q ys y)))

-- a search from the top stops at an element that passes, or goes on below it
pub ends_here : {X : Type 0} (p : X → Bool) (xs ys : List X) (y : X) → xs ≡ ys ++ y ∷ [] → p y ≡ true → length xs ≡ last_place p xs
ends_here p xs ys y e t = ap length e ∙ length_push ys y ∙ sym (ap (last_place p) e ∙ last_place_push p ys y ∙ ap (λ b. if b then length ys + 1 else last_place p ys) t)

pub goes_below : {X : Type 0} (p : X → Bool) (xs ys : List X) (y : X) → xs ≡ ys ++ y ∷ [] → p y ≡ false → last_place p ys ≡ last_place p xs
goes_below p xs ys y e f = sym (ap (last_place p) e ∙ last_place_push p ys y ∙ ap (λ b. if b then length ys + 1 else last_place p ys) f)

-- ---- one more element

pub take_next : {X : Type 0} (xs : List X) (n : ℕ) (x : X) → slice_get xs n ≡ Some x → take (suc n) xs ≡ take n xs ++ x ∷ []
take_next [] n x e = cc
take_next (y ∷ ys) zero x e = let f : y ≡ x = cc in ap (λ z. z ∷ []) f
take_next (y ∷ ys) (suc n) x e = ap (λ zs. y ∷ zs) (take_next ys n x e)

pub take_one_more : {X : Type 0} (xs : List X) (n : ℕ) (x : X) → slice_get xs n ≡ Some x → take (n + 1) xs ≡ take n xs ++ x ∷ []
take_one_more xs n x e = let f : n + 1 ≡ suc n = omega arith in ap (λ m. take m xs) f ∙ take_next xs n x e

pub slice_get_left : {X : Type 0} (xs ys : List X) (k : ℕ) → k < length xs → slice_get (xs ++ ys) k ≡ slice_get xs k
slice_get_left [] ys k lt = absurd (omega (arith, lt))
slice_get_left (x ∷ xs) ys zero lt = refl
slice_get_left (x ∷ xs) ys (suc k) lt = slice_get_left xs ys k (omega (arith, lt))

pub slice_get_end : {X : Type 0} (xs : List X) (x : X) → slice_get (xs ++ x ∷ []) (length xs) ≡ Some x
slice_get_end [] x = refl
slice_get_end (y ∷ ys) x = slice_get_end ys x

-- ---- what is in scope

pub record IsScopeSearch {X : Type 0} (wanted ends : X → Bool) (xs : List X) : Type 0 where
  pub found : 0 < last_place wanted xs → last_place ends xs ≤ last_place wanted xs → in_scope wanted ends (reverse xs) ≡ true
  pub missed : (0 < last_place wanted xs → last_place ends xs ≤ last_place wanted xs → ⊥) → in_scope wanted ends (reverse xs) ≡ false

scope_found : (w e h : Bool) (n W E : ℕ) → W ≤ n → E ≤ n → (0 < W → E ≤ W → h ≡ true) → 0 < (if w then n + 1 else W) → (if e then n + 1 else E) ≤ (if w then n + 1 else W) → (w || (not e && h)) ≡ true
scope_found true e h n W E lw le is lt l = refl
scope_found false true h n W E lw le is lt l = absurd (omega (arith, lw, l))
scope_found false false h n W E lw le is lt l = is lt l

scope_missed : (w e h : Bool) (n W E : ℕ) → W ≤ n → E ≤ n → ((0 < W → E ≤ W → ⊥) → h ≡ false) → (0 < (if w then n + 1 else W) → (if e then n + 1 else E) ≤ (if w then n + 1 else W) → ⊥) → (w || (not e && h)) ≡ false
scope_missed true e h n W E lw le is not_so = absurd (not_so (omega arith) (if_le e (n + 1) E (n + 1) (omega arith) (omega (arith, le))))
scope_missed false true h n W E lw le is not_so = refl
scope_missed false false h n W E lw le is not_so = is not_so

pub scope_search : {X : Type 0} (wanted ends : X → Bool) (xs : List X) → IsScopeSearch wanted ends xs
scope_search wanted ends = by_ends (IsScopeSearch wanted ends)
    (record { found = λ lt _. absurd (omega (arith, lt)); missed = λ _. refl })
    (λ ys y is.
    let outer : in_scope wanted ends (reverse (ys ++ y ∷ [])) ≡ (wanted y || (not (ends y) && in_scope wanted ends (reverse ys))) = ap (in_scope wanted ends) (reverse-append ys (y ∷ [])) in
    record {
      found = λ lt le. outer ∙ scope_found (wanted y) (ends y) (in_scope wanted ends (reverse ys)) (length ys) (last_place wanted ys) (last_place ends ys) (last_place_le wanted ys) (last_place_le ends ys) is.found
          (subst (λ n. 0 < n) (last_place_push wanted ys y) lt) (subst (λ n. n ≤ (if wanted y then length ys + 1 else last_place wanted ys)) (last_place_push ends ys y) (subst (λ n. last_place ends (ys ++ y ∷ []) ≤ n) (last_place_push wanted ys y) le));
      missed = λ not_so. outer ∙ scope_missed (wanted y) (ends y) (in_scope wanted ends (reverse ys)) (length ys) (last_place wanted ys) (last_place ends ys) (last_place_le wanted ys) (last_place_le ends ys) is.missed
          (λ lt le. not_so (subst (λ n. 0 < n) (sym (last_place_push wanted ys y)) lt)
          (subst (λ n. n ≤ last_place wanted (ys ++ y ∷ [])) (sym (last_place_push ends ys y)) (subst (λ n. (if ends y then length ys + 1 else last_place ends ys) ≤ n) (sym (last_place_push wanted ys y)) le)));
    })
