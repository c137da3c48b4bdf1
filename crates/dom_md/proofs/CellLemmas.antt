-- Backslashes before the bars of a cell.
use Rattle.std.proofs.Common.{◌≡◌, ℕ, suc, ◌+◌, ◌<◌, ◌≤◌, Bool, true, false, List, [], ◌∷◌, ◌++◌, length, drop, get_or, refl, sym, ◌∙◌, ap, arith, append-nil, append_assoc, encode_utf8, encode_utf8_all, inl, inr, ◌⊎◌}
use Rattle.std.specs.Prelude.{◌==◌, ◌&&◌, not, if◌then◌else◌}
use Rattle.std.proofs.lemmas.Bool.{cases_Bool, eqb-true, eq-eqb, cases_lt}
use Rattle.std.proofs.lemmas.List.{at_drop_more, at_drop_all, length_push}
use Rattle.std.proofs.lemmas.Str.{encode_ascii, encodes-chars, inside_one, length-encode, len_utf8_bounds}
use Rattle.std.specs.Str.{chars, IsUtf8}
use Rattle.dom_nodes.specs.Ascii.{backslash, vertical_bar}
use Rattle.dom_md.specs.Cells.{in_cell_on, in_cell, BarsAreEscaped, AddsBackslashes}
use Rattle.dom_md.specs.Cells.AddsBackslashes.{done, kept, bar}

-- what stands before a character
abbrev pub cell_front : Bool → ℕ → List ℕ
cell_front after c = if c == vertical_bar && not after then backslash ∷ [] else []

other : (b n : ℕ) → 128 ≤ b → n < 128 → (b == n) ≡ false
other b n high low = elim (cases_Bool (b == n)) [
  | inl t ↦ (let same = eqb-true b n t in absurd (omega arith))
  | inr f ↦ f
]

-- bytes past ASCII
high : (after : Bool) (b : ℕ) (bs rest : List ℕ) → ((k : ℕ) → k < length (b ∷ bs) → 128 ≤ get_or (b ∷ bs) k 0) → in_cell_on after ((b ∷ bs) ++ rest) ≡ (b ∷ bs) ++ in_cell_on false rest
high after b [] rest all = let h : 128 ≤ b = all 0 (omega arith) in rw (other b vertical_bar h (omega arith), other b backslash h (omega arith)) refl
high after b (d ∷ bs) rest all =
    let h : 128 ≤ b = all 0 (omega arith) in
    let later = high false d bs rest (λ k low. all (suc k) (omega arith)) in
    rw (other b vertical_bar h (omega arith), other b backslash h (omega arith)) (ap (λ t. b ∷ t) later)

high_list : (after : Bool) (bs rest : List ℕ) → 0 < length bs → ((k : ℕ) → k < length bs → 128 ≤ get_or bs k 0) → in_cell_on after (bs ++ rest) ≡ bs ++ in_cell_on false rest
high_list after [] rest some all = absurd (omega arith)
high_list after (b ∷ bs) rest some all = high after b bs rest all

past_ascii : (c k : ℕ) → 128 ≤ c → k < length (encode_utf8 c) → 128 ≤ get_or (encode_utf8 c) k 0
past_ascii c k past within = elim (cases_lt (get_or (encode_utf8 c) k 0) 128) [
  | inl low ↦ (let same = inside_one c [] (encode_utf8 c) k (sym (append-nil (encode_utf8 c))) within low in absurd (omega arith))
  | inr h ↦ h
]

-- one character
pub cell_char : (after : Bool) (c : ℕ) (rest : List ℕ) → in_cell_on after (encode_utf8 c ++ rest) ≡ cell_front after c ++ (encode_utf8 c ++ in_cell_on (c == backslash) rest)
cell_char after c rest = elim (cases_lt c 128) [
  | inl low ↦ rw (encode_ascii c low) (elim (cases_Bool (c == vertical_bar && not after)) as (λ t. in_cell_on after (c ∷ rest) ≡ cell_front after c ++ (c ∷ in_cell_on (c == backslash) rest)) [
    | inl t ↦ (let same = eqb-true c vertical_bar (left _ _ t) in rw (t, same) refl)
    | inr f ↦ rw f refl
  ])
  | inr past ↦ (let some = len_utf8_bounds c in
      rw (other c vertical_bar past (omega arith), other c backslash past (omega arith)) (high_list after (encode_utf8 c) rest (omega (arith, length-encode c, some.0)) (λ k within. past_ascii c k past within)))
]
  where
    left : (a b : Bool) → (a && b) ≡ true → a ≡ true
    left true b h = refl
    left false b h = h

-- ---- what stands in the new text

head_same : (a b : ℕ) (xs ys : List ℕ) → a ∷ xs ≡ b ∷ ys → a ≡ b
head_same a b xs ys is = cc

abbrev Ends : List ℕ → Type 0
Ends front = (before : List ℕ) × (front ≡ before ++ backslash ∷ [])

-- what stands before a bar: nothing but the backslash before the text, or a text that ends in a backslash
abbrev BeforeBar : Bool → List ℕ → Type 0
BeforeBar after front = ((front ≡ []) × (after ≡ true)) ⊎ Ends front

ends_more : (front : List ℕ) (x y : ℕ) → BeforeBar false front → Ends (x ∷ y ∷ front)
ends_more front x y (inl p) = absurd (let no = p.1 in cc)
ends_more front x y (inr p) = (x ∷ y ∷ p.0, ap (λ t. x ∷ y ∷ t) p.1)

ends_one : (front : List ℕ) (b x : ℕ) → b ≡ x → BeforeBar (b == backslash) front → Ends (x ∷ front)
ends_one front b x same (inl p) = ([], ap (λ t. x ∷ t) p.0 ∙ ap (λ n. n ∷ []) (sym same ∙ eqb-true b backslash p.1))
ends_one front b x same (inr p) = (x ∷ p.0, ap (λ t. x ∷ t) p.1)

not_both : (after : Bool) (b : Bool) → b ≡ true → (b && not after) ≡ false → after ≡ true
not_both true b h f = refl
not_both false true h f = absurd (cc)
not_both false false h f = absurd (cc)

bars_on : (after : Bool) (text front back : List ℕ) → in_cell_on after text ≡ front ++ vertical_bar ∷ back → BeforeBar after front
bars_on after [] [] back is = absurd (cc)
bars_on after [] (x ∷ front) back is = absurd (cc)
bars_on after (b ∷ text) [] back is = elim (cases_Bool (b == vertical_bar && not after)) [
  | inl t ↦ (let first = head_same backslash vertical_bar _ _ (rw t at is) in absurd (omega arith))
  | inr f ↦ (let h = rw f at is in let first : b ≡ vertical_bar = cc in inl (refl, not_both after (b == vertical_bar) (eq-eqb b vertical_bar first) f))
]
bars_on after (b ∷ text) (x ∷ []) back is = elim (cases_Bool (b == vertical_bar && not after)) [
  | inl t ↦ (let h = rw t at is in let first : backslash ≡ x = cc in inr ([], ap (λ n. n ∷ []) (sym first)))
  | inr f ↦ (let h = rw f at is in let first : b ≡ x = cc in let rest : in_cell_on (b == backslash) text ≡ vertical_bar ∷ back = cc in inr (ends_one [] b x first (bars_on (b == backslash) text [] back rest)))
]
bars_on after (b ∷ text) (x ∷ y ∷ front) back is = elim (cases_Bool (b == vertical_bar && not after)) [
  | inl t ↦ (let h = rw t at is in let rest : in_cell_on false text ≡ front ++ vertical_bar ∷ back = cc in inr (ends_more front x y (bars_on false text front back rest)))
  | inr f ↦ (let h = rw f at is in let first : b ≡ x = cc in let rest : in_cell_on (b == backslash) text ≡ (y ∷ front) ++ vertical_bar ∷ back = cc in inr (ends_one (y ∷ front) b x first (bars_on (b == backslash) text (y ∷ front) back rest)))
]

pub bars : (text : List ℕ) → BarsAreEscaped (in_cell text)
bars text = λ front back is. elim (bars_on false text front back is) [
  | inl p ↦ absurd (let no = p.1 in cc)
  | inr p ↦ p
]

pub adds : (after : Bool) (text : List ℕ) → AddsBackslashes text (in_cell_on after text)
adds after [] = done
adds after (b ∷ text) = elim (cases_Bool (b == vertical_bar && not after)) [
  | inl t ↦ (let same = eqb-true b vertical_bar (left _ _ t) in rw (t, same) (bar (adds false text)))
  | inr f ↦ rw f (kept b (adds (b == backslash) text))
]
  where
    left : (a c : Bool) → (a && c) ≡ true → a ≡ true
    left true c h = refl
    left false c h = h

-- ---- the loop

pub cell_start : (text made : List ℕ) → IsUtf8 text → made ≡ [] → made ++ in_cell_on false (encode_utf8_all (drop 0 (chars text))) ≡ in_cell text
cell_start text made utf8 empty = rw (empty, encodes-chars text utf8) refl

pub front_yes : (old new : List ℕ) (after : Bool) (c : ℕ) → c ≡ vertical_bar → after ≡ false → new ≡ old ++ encode_utf8 backslash → new ≡ old ++ cell_front after c
front_yes old new after c is_bar free is = rw (is_bar, free) (is ∙ ap (λ t. old ++ t) (encode_ascii backslash (omega arith)))

pub front_held : (old new : List ℕ) (after : Bool) (c : ℕ) → c ≡ vertical_bar → after ≡ true → new ≡ old → new ≡ old ++ cell_front after c
front_held old new after c is_bar held is = rw (is_bar, held) (is ∙ sym (append-nil old))

pub front_other : (old new : List ℕ) (after : Bool) (c : ℕ) → (c ≡ vertical_bar → ⊥) → new ≡ old → new ≡ old ++ cell_front after c
front_other old new after c other_char is = elim (cases_Bool (c == vertical_bar)) [
  | inl t ↦ absurd (other_char (eqb-true c vertical_bar t))
  | inr f ↦ rw f (is ∙ sym (append-nil old))
]

pub cell_more : (text old new read : List ℕ) (after : Bool) (c : ℕ) → length read < length (chars text) → c ≡ get_or (chars text) (length read) c → new ≡ old ++ (cell_front after c ++ encode_utf8 c) →
    old ++ in_cell_on after (encode_utf8_all (drop (length read) (chars text))) ≡ in_cell text →
    new ++ in_cell_on (c == backslash) (encode_utf8_all (drop (length (read ++ c ∷ [])) (chars text))) ≡ in_cell text
cell_more text old new read after c within is made whole =
    let rest = encode_utf8_all (drop (length read + 1) (chars text)) in
    let step : in_cell_on after (encode_utf8_all (drop (length read) (chars text))) ≡ cell_front after c ++ (encode_utf8 c ++ in_cell_on (c == backslash) rest) =
    at_drop_more (λ cs. in_cell_on after (encode_utf8_all cs)) (chars text) (length read) c within
    ∙ (ap (λ x. in_cell_on after (encode_utf8 x ++ rest)) (sym is) ∙ cell_char after c rest) in
    let n : length (read ++ c ∷ []) ≡ length read + 1 = length_push read c in
    rw (n, made) (append_assoc old (cell_front after c ++ encode_utf8 c) (in_cell_on (c == backslash) rest)
    ∙ (ap (λ t. old ++ t) (append_assoc (cell_front after c) (encode_utf8 c) (in_cell_on (c == backslash) rest) ∙ sym step) ∙ whole))

pub cell_done : (text made : List ℕ) (after : Bool) (read : List ℕ) → length (chars text) ≤ length read → made ++ in_cell_on after (encode_utf8_all (drop (length read) (chars text))) ≡ in_cell text → made ≡ in_cell text
cell_done text made after read past whole =
    sym (append-nil made) ∙ (ap (λ t. made ++ t) (sym (at_drop_all (λ cs. in_cell_on after (encode_utf8_all cs)) (chars text) (length read) past)) ∙ whole)
