-- The table of known names, as far as the functions over it need it. Each fact of the whole table is computed.
use Rattle.std.proofs.Common.{◌≡◌, ℕ, zero, suc, ◌+◌, ◌*◌, ◌-◌, ◌/◌, ◌%◌, ◌<◌, ◌≤◌, true, List, [], ◌∷◌, take, drop, get_or, length, IsUtf8, map, refl, sym, ap, ◌∙◌, subst, inl, inr, arith}
use Rattle.std.specs.Prelude.{nat_eq, nat_lt, nat_le}
use Rattle.std.specs.List.{list_all}
use Rattle.std.specs.Str.{bytes_eq}
use Rattle.std.specs.Char.{to_ascii_lowercase}
use Rattle.std.proofs.lemmas.Bool.{agree_below, agree_below_at, cases_Bool, false≢true, ltb-true, leb-true, cases_lt, cases_order, eqb-true, eq-eqb}
use Rattle.std.proofs.lemmas.List.Folds.{list_all_at}
use Rattle.std.proofs.lemmas.List.{get_or_past}
use Rattle.std.proofs.lemmas.Slice.Eq.{bytes_eq-Decides}
use Rattle.std.proofs.lemmas.Str.{IsUtf8-from_ascii, IsAscii-take, IsAscii-drop}
use Rattle.std.specs.Str.{IsAscii}
use Rattle.dom_nodes.specs.declared.name.known.TheConstants.{LETTERS, PLACES}
use Rattle.dom_nodes.specs.KnownNames.{start, known_name, slot, HasNumber, IsUnknown}

-- each name begins where or after the one before it begins, and ends within the letters
starts_rise : agree_below (λ n. nat_le (start n) (start (n + 1))) (λ n. true) 247 ≡ true
starts_rise = refl

starts_end : agree_below (λ n. nat_le (start (n + 1)) 1377) (λ n. true) 247 ≡ true
starts_end = refl

pub start-le : (n : ℕ) → n < 247 → start n ≤ start (n + 1)
start-le n h = leb-true _ _ (agree_below_at (λ n. nat_le (start n) (start (n + 1))) (λ n. true) 247 n starts_rise h)

pub end-le : (n : ℕ) → n < 247 → start (n + 1) ≤ 1377
end-le n h = leb-true _ _ (agree_below_at (λ n. nat_le (start (n + 1)) 1377) (λ n. true) 247 n starts_end h)

letters_small : list_all (λ b. nat_lt b 128) LETTERS ≡ true
letters_small = refl

letters_ascii : IsAscii LETTERS
letters_ascii i =
    elim (cases_lt i 1377) [
      | inl l ↦ elim (cases_Bool (nat_lt (get_or LETTERS i 0) 128)) [
        | inl t ↦ ltb-true _ _ t
        | inr f ↦ absurd (false≢true (sym (list_all_at (λ b. nat_lt b 128) LETTERS i 0 l f) ∙ letters_small))
      ]
      | inr past ↦ let is : get_or LETTERS i 0 ≡ 0 = get_or_past LETTERS i 0 past in omega (arith, is)
    ]

pub known_utf8 : (from count : ℕ) → IsUtf8 (take count (drop from LETTERS))
known_utf8 from count = IsUtf8-from_ascii _ (IsAscii-take _ count (IsAscii-drop LETTERS from letters_ascii))

pub known_empty : known_name 0 ≡ []
unfolding known_name
known_empty = refl

-- the bytes as the digits of a number
abbrev number_in : ℕ → List ℕ → ℕ
number_in so_far [] = so_far
number_in so_far (b ∷ bytes) = number_in (so_far * 256 + b) bytes

abbrev code : ℕ → ℕ
code n = number_in 0 (known_name n)

-- the names stand in the order of these numbers
codes_rise : agree_below (λ n. nat_lt (code n) (code (n + 1))) (λ n. true) 246 ≡ true
unfolding known_name
codes_rise = refl

code-lt : (n : ℕ) → n < 246 → code n < code (n + 1)
code-lt n h = ltb-true _ _ (agree_below_at (λ n. nat_lt (code n) (code (n + 1))) (λ n. true) 246 n codes_rise h)

code-lt-later : (n d : ℕ) → n + d < 246 → code n < code (n + suc d)
code-lt-later n zero h = let step = code-lt n (omega arith) in let P : ℕ → Type 0 = λ m. code n < code m in subst P (omega arith) step
code-lt-later n (suc d) h =
    let before = code-lt-later n d (omega arith) in
    let step = code-lt (n + suc d) (omega arith) in
    let P : ℕ → Type 0 = λ m. code (n + suc d) < code m in
    let next : code (n + suc d) < code (n + suc (suc d)) = subst P (omega arith) step in
    omega (arith, before, next)

apart : (n m : ℕ) → n < m → m < 247 → known_name n ≡ known_name m → ⊥
apart n m l h e =
    let later = code-lt-later n (m - suc n) (omega arith) in
    let P : ℕ → Type 0 = λ k. code n < code k in
    let less : code n < code m = subst P (omega arith) later in
    let same : code n ≡ code m = ap (number_in 0) e in
    omega (arith, less, same)

-- no name has two numbers
known_once : (n m : ℕ) → n < 247 → m < 247 → known_name n ≡ known_name m → n ≡ m
known_once n m h k e =
    elim (cases_order n m) [
      | inl same ↦ same
      | inr other ↦ elim other [ inl l ↦ absurd (apart n m l k e) | inr l ↦ absurd (apart m n l h (sym e)) ]
    ]

pub known-same : (n m : ℕ) → n < 247 → m < 247 → nat_eq n m ≡ bytes_eq (known_name n) (known_name m)
known-same n m h k =
    elim (cases_Bool (nat_eq n m)) [
      | inl t ↦ t ∙ sym ((bytes_eq-Decides (known_name n) (known_name m)).1 (ap known_name (eqb-true n m t)))
      | inr f ↦ elim (cases_Bool (bytes_eq (known_name n) (known_name m))) [
        | inl t ↦ absurd (false≢true (sym f ∙ eq-eqb n m (known_once n m h k ((bytes_eq-Decides (known_name n) (known_name m)).0 t))))
        | inr g ↦ f ∙ sym g
      ]
    ]

-- no known name has a letter from A to Z
names_lower : agree_below (λ n. bytes_eq (map to_ascii_lowercase (known_name n)) (known_name n)) (λ n. true) 247 ≡ true
unfolding known_name
names_lower = refl

pub known_lower : (n : ℕ) → n < 247 → map to_ascii_lowercase (known_name n) ≡ known_name n
known_lower n h = (bytes_eq-Decides _ (known_name n)).0 (agree_below_at (λ m. bytes_eq (map to_ascii_lowercase (known_name m)) (known_name m)) (λ m. true) 247 n names_lower h)

pub folded_known : (n : ℕ) (name : List ℕ) → n < 247 → known_name n ≡ name → known_name n ≡ map to_ascii_lowercase name
folded_known n name h e = sym (known_lower n h) ∙ ap (map to_ascii_lowercase) e

-- the place of a name
abbrev pub slot_in : List ℕ → ℕ
slot_in name = slot (length name % 128) (get_or name 0 0) (get_or name (length name / 2) 0) (get_or name (length name - 1) 0)

-- each known name but the empty one is found at its place
places_are : agree_below (λ n. nat_eq (get_or PLACES (slot_in (known_name (n + 1))) 0) (n + 1)) (λ n. true) 246 ≡ true
unfolding known_name slot
places_are = refl

place_is : (n : ℕ) → n < 246 → get_or PLACES (slot_in (known_name (n + 1))) 0 ≡ n + 1
place_is n h = eqb-true _ _ (agree_below_at (λ m. nat_eq (get_or PLACES (slot_in (known_name (m + 1))) 0) (m + 1)) (λ m. true) 246 n places_are h)

-- a name that isn't found at its place has no number
pub unknown : (name : List ℕ) → (length name ≡ 0 → ⊥) → (HasNumber name (get_or PLACES (slot_in name) 0) → ⊥) → IsUnknown name
unknown name some missing zero h = some (ap (λ (xs : List ℕ). length xs) (sym h.1 ∙ known_empty))
unknown name some missing (suc n) h =
    let found : get_or PLACES (slot_in (known_name (n + 1))) 0 ≡ n + 1 = place_is n (omega (arith, h.0)) in
    let P : ℕ → Type 0 = λ m. known_name m ≡ name in
    let is : known_name (n + 1) ≡ name = subst P (omega arith) h.1 in
    let here : get_or PLACES (slot_in name) 0 ≡ n + 1 = ap (λ (xs : List ℕ). get_or PLACES (slot_in xs) 0) (sym is) ∙ found in
    missing (omega (arith, here, h.0), ap known_name here ∙ is)
