-- The names of the table stand in the order of their bytes: shown by computing over the table.
use Rattle.std.proofs.Common.{◌≡◌, ℕ, zero, suc, ◌+◌, ◌-◌, ◌<◌, ◌≤◌, ◌⊎◌, Bool, true, false, ◌&&◌, ◌||◌, ◌==◌, nat_lt, nat_le, List, [], ◌∷◌, take, drop, length, get_or, slice_index, slice_range, refl, sym, ap, ap₂, subst, ◌∙◌, arith, inl, inr, ltb-true, lt-ltb, eqb-true, eq-eqb, leb-true}
use Rattle.std.proofs.Common.{drop-drop, length-take, length-drop, add-one, le_of_suc-le-suc, le_of_lt, Option, Some}
use Rattle.std.proofs.lemmas.Bool.{and_parts, and_from, or_cases, or_left, or_right, cases_order}
use Rattle.page_tokens.specs.declared.named_references.table.TheConstants.{LETTERS, STARTS, FIRSTS, SECONDS}
use Rattle.std.specs.Char.{IsScalar}
use Rattle.std.specs.List.{list_all}
use lib.Utf8.{scalar}
use Rattle.page_tokens.specs.declared.named_references.Value.{Value}
use Rattle.page_tokens.specs.NameTable.{name_at, value_at, second_of}

-- in the order of the bytes, the first text stands before the second
unfoldable pub rises : List ℕ → List ℕ → Bool
rises [] [] = false
rises [] (y ∷ ys) = true
rises (x ∷ xs) [] = false
rises (x ∷ xs) (y ∷ ys) = nat_lt x y || (x == y && rises xs ys)

-- each text stands behind the one before it, the first behind `before`
unfoldable pub rises_on : List ℕ → List (List ℕ) → Bool
rises_on before [] = true
rises_on before (text ∷ texts) = rises before text && rises_on text texts

-- the texts between `start` and each of the ends
unfoldable pub texts_from : ℕ → List ℕ → List ℕ → List (List ℕ)
texts_from start letters [] = []
texts_from start letters (end ∷ ends) = take (end - start) letters ∷ texts_from end (drop (end - start) letters) ends

-- each number is greater than the one before, the first than `start`, and the last is at most `most`
unfoldable pub ends_rise : ℕ → ℕ → List ℕ → Bool
ends_rise most start [] = nat_le start most
ends_rise most start (end ∷ ends) = nat_lt start end && ends_rise most end ends

-- ---- the order

pub rises-later : (x y : ℕ) (xs ys : List ℕ) → rises (x ∷ xs) (y ∷ ys) ≡ true → (x < y) ⊎ ((x ≡ y) × (rises xs ys ≡ true))
unfolding rises
rises-later x y xs ys h =
    elim (or_cases (nat_lt x y) (x == y && rises xs ys) h) [
      | inl less ↦ inl (ltb-true x y less)
      | inr same ↦ let parts = and_parts (x == y) (rises xs ys) same in inr (eqb-true x y parts.0, parts.1)
    ]

rises-less : (x y : ℕ) (xs ys : List ℕ) → x < y → rises (x ∷ xs) (y ∷ ys) ≡ true
unfolding rises
rises-less x y xs ys less = or_left (nat_lt x y) (x == y && rises xs ys) (lt-ltb x y less)

rises-same : (x y : ℕ) (xs ys : List ℕ) → x ≡ y → rises xs ys ≡ true → rises (x ∷ xs) (y ∷ ys) ≡ true
unfolding rises
rises-same x y xs ys same h = or_right (nat_lt x y) (x == y && rises xs ys) (and_from (x == y) (rises xs ys) (eq-eqb x y same) h)

pub rises-trans : (a b c : List ℕ) → rises a b ≡ true → rises b c ≡ true → rises a c ≡ true
unfolding rises
rises-trans [] [] c h k = cc
rises-trans [] (y ∷ ys) [] h k = cc
rises-trans [] (y ∷ ys) (z ∷ zs) h k = refl
rises-trans (x ∷ xs) [] c h k = cc
rises-trans (x ∷ xs) (y ∷ ys) [] h k = cc
rises-trans (x ∷ xs) (y ∷ ys) (z ∷ zs) h k =
    elim (rises-later x y xs ys h) [
      | inl less ↦ elim (rises-later y z ys zs k) [
        | inl more ↦ rises-less x z xs zs (omega arith)
        | inr same ↦ rises-less x z xs zs (omega arith)
      ]
      | inr first ↦ elim (rises-later y z ys zs k) [
        | inl more ↦ rises-less x z xs zs (omega arith)
        | inr same ↦ rises-same x z xs zs (first.0 ∙ same.0) (rises-trans xs ys zs first.1 same.1)
      ]
    ]

-- no text stands before itself
pub rises-other : (a : List ℕ) → rises a a ≡ true → ⊥
unfolding rises
rises-other [] h = cc
rises-other (x ∷ xs) h =
    elim (rises-later x x xs xs h) [
      | inl less ↦ absurd (omega arith)
      | inr same ↦ rises-other xs same.1
    ]

rises_on-at : (before : List ℕ) (texts : List (List ℕ)) (j : ℕ) → rises_on before texts ≡ true → j < length texts → rises before (get_or texts j []) ≡ true
unfolding rises_on
rises_on-at before [] j h within = absurd (omega arith)
rises_on-at before (text ∷ texts) zero h within = (and_parts (rises before text) (rises_on text texts) h).0
rises_on-at before (text ∷ texts) (suc j) h within =
    let parts = and_parts (rises before text) (rises_on text texts) h in
    rises-trans before text (get_or texts j []) parts.0 (rises_on-at text texts j parts.1 (le_of_suc-le-suc within))

pub rises_on-two : (before : List ℕ) (texts : List (List ℕ)) (i j : ℕ) → rises_on before texts ≡ true → i < j → j < length texts → rises (get_or texts i []) (get_or texts j []) ≡ true
unfolding rises_on
rises_on-two before [] i j h less within = absurd (omega arith)
rises_on-two before (text ∷ texts) i zero h less within = absurd (omega arith)
rises_on-two before (text ∷ texts) zero (suc j) h less within = rises_on-at text texts j (and_parts (rises before text) (rises_on text texts) h).1 (le_of_suc-le-suc within)
rises_on-two before (text ∷ texts) (suc i) (suc j) h less within =
    rises_on-two text texts i j (and_parts (rises before text) (rises_on text texts) h).1 (le_of_suc-le-suc less) (le_of_suc-le-suc within)

-- ---- the texts of a table

pub length-texts_from : (start : ℕ) (letters ends : List ℕ) → length (texts_from start letters ends) ≡ length ends
unfolding texts_from
length-texts_from start letters [] = refl
length-texts_from start letters (end ∷ ends) = ap suc (length-texts_from end (drop (end - start) letters) ends)

texts_from-at : (letters : List ℕ) (most start : ℕ) (ends : List ℕ) (i : ℕ) → ends_rise most start ends ≡ true → i < length ends →
    get_or (texts_from start (drop start letters) ends) i [] ≡ slice_range letters (get_or (start ∷ ends) i 0) (get_or ends i 0)
unfolding texts_from ends_rise
texts_from-at letters most start [] i h within = absurd (omega arith)
texts_from-at letters most start (end ∷ ends) zero h within = refl
texts_from-at letters most start (end ∷ ends) (suc i) h within =
    let parts = and_parts (nat_lt start end) (ends_rise most end ends) h in
    let before = ltb-true start end parts.0 in
    let sum : start + (end - start) ≡ end = omega arith in
    ap (λ (rest : List ℕ). get_or (texts_from end rest ends) i []) (drop-drop (end - start) start letters ∙ ap (λ n. drop n letters) sum)
    ∙ texts_from-at letters most end ends i parts.1 (le_of_suc-le-suc within)

-- each text begins where the one before it ends, and lies within the letters
pub ends_rise-at : (most start : ℕ) (ends : List ℕ) (i : ℕ) → ends_rise most start ends ≡ true → i < length ends → (get_or (start ∷ ends) i 0 < get_or ends i 0) × (get_or ends i 0 ≤ most)
unfolding ends_rise
ends_rise-at most start [] i h within = absurd (omega arith)
ends_rise-at most start (end ∷ []) zero h within =
    let parts = and_parts (nat_lt start end) (nat_le end most) h in (ltb-true start end parts.0, leb-true end most parts.1)
ends_rise-at most start (end ∷ next ∷ ends) zero h within =
    let parts = and_parts (nat_lt start end) (ends_rise most end (next ∷ ends)) h in
    let later = ends_rise-at most end (next ∷ ends) zero parts.1 (omega arith) in
    (ltb-true start end parts.0, omega arith)
ends_rise-at most start (end ∷ ends) (suc i) h within =
    ends_rise-at most end ends i (and_parts (nat_lt start end) (ends_rise most end ends) h).1 (le_of_suc-le-suc within)

-- ---- the table

-- the name with a number, of any letters and starts
name_in : List ℕ → List ℕ → ℕ → List ℕ
name_in letters starts i = slice_range letters (slice_index starts i) (slice_index starts (i + 1))

texts-name_in : (letters : List ℕ) (most start : ℕ) (ends : List ℕ) (i : ℕ) → ends_rise most start ends ≡ true → i < length ends →
    get_or (texts_from start (drop start letters) ends) i [] ≡ name_in letters (start ∷ ends) i
unfolding name_in
texts-name_in letters most start ends i h within =
    texts_from-at letters most start ends i h within ∙ ap (λ n. slice_range letters (get_or (start ∷ ends) i 0) (get_or (start ∷ ends) n 0)) (sym (add-one i))

name_in-rises : (letters : List ℕ) (most : ℕ) (ends : List ℕ) (i j : ℕ) → ends_rise most 0 ends ≡ true → rises_on [] (texts_from 0 letters ends) ≡ true →
    i < j → j < length ends → rises (name_in letters (0 ∷ ends) i) (name_in letters (0 ∷ ends) j) ≡ true
name_in-rises letters most ends i j ok sorted less within =
    subst (λ (t : List ℕ). rises t (name_in letters (0 ∷ ends) j) ≡ true) (texts-name_in letters most 0 ends i ok (omega arith))
    (subst (λ (t : List ℕ). rises (get_or (texts_from 0 letters ends) i []) t ≡ true) (texts-name_in letters most 0 ends j ok within)
    (rises_on-two [] (texts_from 0 letters ends) i j sorted less (rw (length-texts_from 0 letters ends) within)))

-- of two names, the one with the less number rises to the other
pub name_at-rises : (i j : ℕ) → i < j → j < 2231 → rises (name_at i) (name_at j) ≡ true
unfolding name_at name_in rises rises_on texts_from ends_rise
name_at-rises i j less within = name_in-rises LETTERS 16641 (drop 1 STARTS) i j refl refl less within

-- no two names are the same
pub name_at-once : (i j : ℕ) → i < 2231 → j < 2231 → name_at i ≡ name_at j → i ≡ j
name_at-once i j first second same =
    elim (cases_order i j) [
      | inl equal ↦ equal
      | inr other ↦ elim other [
        | inl less ↦ absurd (rises-other (name_at j) (subst (λ (t : List ℕ). rises t (name_at j) ≡ true) same (name_at-rises i j less second)))
        | inr more ↦ absurd (rises-other (name_at i) (subst (λ (t : List ℕ). rises t (name_at i) ≡ true) (sym same) (name_at-rises j i more first)))
      ]
    ]

-- where a name begins and ends
pub starts_rise : (i : ℕ) → i < 2231 → (slice_index STARTS i < slice_index STARTS (i + 1)) × (slice_index STARTS (i + 1) ≤ 16641)
unfolding ends_rise
starts_rise i within = rw (add-one i) (ends_rise-at 16641 0 (drop 1 STARTS) i refl within)

pub ordered_at : (i from end : ℕ) → i < 2231 → from ≡ slice_index STARTS i → end ≡ slice_index STARTS (i + 1) → from ≤ end
ordered_at i from end within first last = rw (first, last) (le_of_lt (starts_rise i within).0)

pub within_at : (i end : ℕ) → i < 2231 → end ≡ slice_index STARTS (i + 1) → end ≤ 16641
within_at i end within last = rw last (starts_rise i within).1

pub part_is_name : (i from end : ℕ) (part : List ℕ) → from ≡ slice_index STARTS i → end ≡ slice_index STARTS (i + 1) → part ≡ slice_range LETTERS from end → part ≡ name_at i
unfolding name_at
part_is_name i from end part first last is = is ∙ ap₂ (slice_range LETTERS) first last

length-part : (n m : ℕ) (letters : List ℕ) → length (take n (drop m letters)) ≤ length letters
length-part n m letters = rw (length-take n (drop m letters), length-drop m letters) (omega arith)

pub length-name_at : (i : ℕ) → length (name_at i) ≤ 16641
unfolding name_at
length-name_at i = length-part (slice_index STARTS (i + 1) - slice_index STARTS i) (slice_index STARTS i) LETTERS

length-part-is : (letters : List ℕ) (from end : ℕ) → from < end → end ≤ length letters → 0 < length (slice_range letters from end)
length-part-is letters from end some within = rw (length-take (end - from) (drop from letters), length-drop from letters) (omega arith)

-- no name is empty
pub name_at-some : (i : ℕ) → i < 2231 → 0 < length (name_at i)
unfolding name_at
name_at-some i within =
    let bounds = starts_rise i within in
    length-part-is LETTERS (slice_index STARTS i) (slice_index STARTS (i + 1)) bounds.0 bounds.1

-- ---- what the names stand for

passes-at : (test : ℕ → Bool) (numbers : List ℕ) (i : ℕ) → list_all test numbers ≡ true → i < length numbers → test (get_or numbers i 0) ≡ true
passes-at test [] i h within = absurd (omega arith)
passes-at test (n ∷ numbers) zero h within = (and_parts (test n) (list_all test numbers) h).0
passes-at test (n ∷ numbers) (suc i) h within = passes-at test numbers i (and_parts (test n) (list_all test numbers) h).1 (le_of_suc-le-suc within)

pub first_scalar : (i n : ℕ) → i < 2231 → n ≡ slice_index FIRSTS i → IsScalar n
first_scalar i n within is = subst IsScalar (sym is) (passes-at scalar FIRSTS i refl within)

pub second_scalar : (i n : ℕ) → i < 2231 → n ≡ slice_index SECONDS i → IsScalar n
second_scalar i n within is = subst IsScalar (sym is) (passes-at scalar SECONDS i refl within)

pub value-is : (i first second : ℕ) (r : Option Value) → first ≡ slice_index FIRSTS i → second ≡ slice_index SECONDS i →
    r ≡ Some (record { first = first; second = second_of second }) → r ≡ Some (value_at i)
unfolding value_at
value-is i first second r one two is = is ∙ ap₂ (λ (a b : ℕ). Some (record { first = a; second = second_of b })) one two

-- ---- each character of a name is a byte

abbrev pub are_bytes : List ℕ → Bool
are_bytes text = list_all (λ b. nat_lt b 256) text

bytes-take : (n : ℕ) (text : List ℕ) → are_bytes text ≡ true → are_bytes (take n text) ≡ true
bytes-take zero text h = refl
bytes-take (suc n) [] h = refl
bytes-take (suc n) (b ∷ text) h =
    let parts = and_parts (nat_lt b 256) (are_bytes text) h in and_from (nat_lt b 256) (are_bytes (take n text)) parts.0 (bytes-take n text parts.1)

bytes-drop : (n : ℕ) (text : List ℕ) → are_bytes text ≡ true → are_bytes (drop n text) ≡ true
bytes-drop zero text h = h
bytes-drop (suc n) [] h = refl
bytes-drop (suc n) (b ∷ text) h = bytes-drop n text (and_parts (nat_lt b 256) (are_bytes text) h).1

bytes-part : (letters : List ℕ) (from end : ℕ) → are_bytes letters ≡ true → are_bytes (slice_range letters from end) ≡ true
bytes-part letters from end h = bytes-take (end - from) (drop from letters) (bytes-drop from letters h)

pub name_at-bytes : (i : ℕ) → are_bytes (name_at i) ≡ true
unfolding name_at
name_at-bytes i = bytes-part LETTERS (slice_index STARTS i) (slice_index STARTS (i + 1)) refl
