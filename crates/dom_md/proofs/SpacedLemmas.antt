-- Words parted by one space: what is added for a text, piece by piece.
use Rattle.std.proofs.Common.{◌≡◌, ℕ, ◌+◌, ◌-◌, ◌<◌, ◌≤◌, Bool, true, false, List, [], ◌∷◌, ◌++◌, length, take, drop, get_or, refl, sym, ◌∙◌, ap, arith, append_assoc, append-nil, subst, zero, suc, replicate, bit_xor, w8, Fits, encode_utf8, encode_utf8_all, inl, inr}
use Rattle.std.specs.Prelude.{◌==◌, ◌||◌, nat_le, nat_lt, not, if◌then◌else◌}
use Rattle.std.specs.Char.{is_whitespace}
use Rattle.std.specs.Str.{IsCharBoundary, IsUtf8, all_scalars, chars, skip_leading_whitespace, trim_start}
use Rattle.std.proofs.lemmas.Bool.{agree_below, agree_below_at, and_from, and_parts, cases_Bool, eqb-true, ltb-true, ne_eqb, or_cases}
use Rattle.std.proofs.lemmas.Bool.Decides.{nat_tests}
use Rattle.std.proofs.lemmas.List.{at_drop_more, take_more}
use Rattle.std.specs.Simd.Lanes.{Each1, zip2}
use Rattle.std.proofs.lemmas.Simd.{Each1-get_or, below_from_Fits, get_or-replicate, get_or-zip2, length-replicate}
use Rattle.std.proofs.lemmas.Str.{IsCharBoundary-after_ascii, IsCharBoundary-at_seam, IsCharBoundary-start, IsUtf8-past_char, chars-encodes, chars-nil, chars_past_char, encodes-chars, len_utf8_bounds, length-encode, scalars-chars}
use Rattle.std.proofs.lemmas.Str.Ascii.{encode_ascii}
use Rattle.dom_nodes.specs.Ascii.{space}
use Rattle.dom_md.specs.Formatted.{joined_words, spaced_on, spaced_words}
use Rattle.byte_lanes.specs.Lanes.{Marks}
use Rattle.dom_md.specs.Visible.{begins_visible, is_visible, stays}

-- ---- bytes that stay

chars-low : (b : ℕ) (text : List ℕ) → b < 128 → chars (b ∷ text) ≡ b ∷ chars text
unfolding chars
chars-low b [] low = (let less : nat_lt b 128 ≡ true = grind (arith, nat_tests) in rw less refl)
chars-low b (d ∷ text) low = (let less : nat_lt b 128 ≡ true = grind (arith, nat_tests) in rw less refl)

visible-low : (b : ℕ) → is_visible b ≡ true → b < 128
visible-low b h = ltb-true b 128 (and_parts (nat_lt space b) (nat_lt b 128) h).1

visible-dark : (b : ℕ) → is_visible b ≡ true → is_whitespace b ≡ false
visible-dark b h =
    let above = ltb-true space b (and_parts (nat_lt space b) (nat_lt b 128) h).0 in
    let below = visible-low b h in
    grind (arith, nat_tests)

-- a low character but whitespace is one byte
one_byte : (b : ℕ) (cs : List ℕ) → b < 128 → encode_utf8_all (b ∷ cs) ≡ b ∷ encode_utf8_all cs
one_byte b cs low = ap (λ e. e ++ encode_utf8_all cs) (encode_ascii b low)

spaced-visible : (b : ℕ) (text : List ℕ) → is_visible b ≡ true → spaced_words (b ∷ text) ≡ b ∷ spaced_words text
spaced-visible b text h =
    ap (λ cs. encode_utf8_all (spaced_on false cs)) (chars-low b text (visible-low b h))
    ∙ (rw (visible-dark b h) (one_byte b (spaced_on false (chars text)) (visible-low b h)))

spaced-space : (text : List ℕ) → begins_visible text ≡ true → spaced_words (space ∷ text) ≡ space ∷ spaced_words text
spaced-space [] h = absurd (cc)
spaced-space (c ∷ text) h =
    let first : chars (c ∷ text) ≡ c ∷ chars text = chars-low c text (visible-low c h) in
    let dark = visible-dark c h in
    let gap : spaced_on true (c ∷ chars text) ≡ space ∷ spaced_on false (c ∷ chars text) = rw dark refl in
    ap (λ cs. encode_utf8_all (spaced_on false cs)) (chars-low space (c ∷ text) (omega arith) ∙ ap (λ cs. space ∷ cs) first)
    ∙ ap encode_utf8_all gap
    ∙ one_byte space (spaced_on false (c ∷ chars text)) (omega arith)
    ∙ ap (λ cs. space ∷ encode_utf8_all (spaced_on false cs)) (sym first)

spaced-stays : (b : ℕ) (text : List ℕ) → stays b text ≡ true → (spaced_words (b ∷ text) ≡ b ∷ spaced_words text) × (b < 128)
spaced-stays b text h = elim (or_cases (is_visible b) _ h) [
  | inl seen ↦ (spaced-visible b text seen, visible-low b seen)
  | inr gap ↦
      let both = and_parts (b == space) (begins_visible text) gap in
      let same : b ≡ space = eqb-true b space both.0 in
      rw same (spaced-space text both.1, omega arith)
]

-- up to a place all stays, and the text may be cut there
pub record IsSameTo (text : List ℕ) (at : ℕ) : Type 0 where
  pub same : spaced_words text ≡ take at text ++ spaced_words (drop at text)
  pub boundary : IsUtf8 text → IsCharBoundary text at

pub same_none : (text : List ℕ) → IsSameTo text 0
same_none text = record { same = refl; boundary = λ utf8. IsCharBoundary-start text utf8 }

pub same_more : (text : List ℕ) (at : ℕ) → at < length text → IsSameTo text at → stays (get_or text at 0) (drop (at + 1) text) ≡ true → IsSameTo text (at + 1)
same_more text at within so h =
    let b = get_or text at 0 in
    let rest = spaced_words (drop (at + 1) text) in
    let step = spaced-stays b (drop (at + 1) text) h in
    let here : spaced_words (drop at text) ≡ b ∷ rest = at_drop_more spaced_words text at 0 within ∙ step.0 in
    let more : take (at + 1) text ≡ take at text ++ b ∷ [] = take_more text at 0 within in
    record {
      same = so.same ∙ ap (λ t. take at text ++ t) here ∙ sym (append_assoc (take at text) (b ∷ []) rest) ∙ ap (λ t. t ++ rest) (sym more);
      boundary = λ utf8. IsCharBoundary-after_ascii text at utf8 within step.1;
    }

-- where some bytes more stay
pub same_run : (text : List ℕ) (at r : ℕ) → at + r ≤ length text → IsSameTo text at → ((k : ℕ) → k < r → stays (get_or text (at + k) 0) (drop (at + k + 1) text) ≡ true) → IsSameTo text (at + r)
same_run text at zero within so h = (let none : at + zero ≡ at = omega arith in subst (IsSameTo text) (sym none) so)
same_run text at (suc r) within so h =
    let front = same_run text at r (omega arith) so (λ k l. h k (omega arith)) in
    let more : at + r + 1 ≡ at + suc r = omega arith in
    subst (IsSameTo text) more (same_more text (at + r) (omega arith) front (h r (omega arith)))

-- ---- the tests of 16 bytes

turned_table : agree_below (λ n. nat_le (bit_xor n 128) 160) (λ n. not (is_visible n)) 256 ≡ true
turned_table = refl

pub turned : (b : ℕ) → b < 256 → nat_le (bit_xor b 128) 160 ≡ not (is_visible b)
turned b low = agree_below_at (λ n. nat_le (bit_xor n 128) 160) (λ n. not (is_visible n)) 256 b turned_table low

pub marks-turned : (v r : List ℕ) → length v ≡ 16 → Each1 (Fits w8) v → Marks r (λ k. nat_le (get_or (zip2 bit_xor v (replicate 16 128)) k 0) 160) → Marks r (λ k. not (is_visible (get_or v k 0)))
marks-turned v r long fits m = record {
  long = m.long;
  each = λ k l.
      let lane : get_or (zip2 bit_xor v (replicate 16 128)) k 0 ≡ bit_xor (get_or v k 0) 128 = get_or-zip2 bit_xor v (replicate 16 128) k 0 0 0 (omega arith) (omega (arith, length-replicate {A = ℕ} 16 128)) ∙ ap (bit_xor (get_or v k 0)) (get_or-replicate 16 k 128 0 l) in
      let low : get_or v k 0 < 256 = Each1-get_or (λ x. x < 256) v k 0 (omega arith) (below_from_Fits w8 v fits) in
      m.each k l ∙ (ap (λ x. if nat_le x 160 then 255 else 0) lane ∙ ap (λ b. if b then 255 else 0) (turned (get_or v k 0) low));
}

first_of : (text : List ℕ) (i : ℕ) → i < length text → begins_visible (drop i text) ≡ is_visible (get_or text i 0)
first_of text i within = at_drop_more begins_visible text i 0 within

shown : (b : Bool) → not b ≡ false → b ≡ true
shown true h = refl
shown false h = absurd (cc)

-- a byte stays where it is visible, or the byte behind it if it is a space
pub stays-tested : (text : List ℕ) (i : ℕ) → i + 1 < length text → not (is_visible (if get_or text i 0 == space then get_or text (i + 1) 0 else get_or text i 0)) ≡ false → stays (get_or text i 0) (drop (i + 1) text) ≡ true
stays-tested text i within h = elim (cases_Bool (get_or text i 0 == space)) [
  | inl gap ↦ (let next : is_visible (get_or text (i + 1) 0) ≡ true = shown _ (rw gap at h) in
      or_right (is_visible (get_or text i 0)) _ (and_from _ _ gap (first_of text (i + 1) within ∙ next)))
  | inr other ↦ (let here : is_visible (get_or text i 0) ≡ true = shown _ (rw other at h) in rw here refl)
]
  where
    or_right : (a b : Bool) → b ≡ true → (a || b) ≡ true
    or_right true b h = refl
    or_right false b h = h

-- ---- a character

pub spaced-char : (rest after : List ℕ) (c : ℕ) → IsUtf8 rest → rest ≡ encode_utf8 c ++ after → is_whitespace c ≡ false → spaced_words rest ≡ encode_utf8 c ++ spaced_words after
spaced-char rest after c utf8 is dark = ap (λ cs. encode_utf8_all (spaced_on false cs)) (chars_past_char rest after c utf8 is) ∙ rw dark refl

pub shorter-past : (rest after : List ℕ) (c : ℕ) → rest ≡ encode_utf8 c ++ after → length after < length rest
shorter-past rest after c is =
    let size = ap length is in
    let one = length-encode c in
    let some = (len_utf8_bounds c).0 in
    omega (arith, size, length-append (encode_utf8 c) after, one, some)
  where
    length-append : (xs ys : List ℕ) → length (xs ++ ys) ≡ length xs + length ys
    length-append [] ys = omega arith
    length-append (x ∷ xs) ys = let rest = length-append xs ys in omega (arith, rest)

-- ---- whitespace at the front

skip-scalars : (cs : List ℕ) → all_scalars cs ≡ true → all_scalars (skip_leading_whitespace cs) ≡ true
skip-scalars [] h = refl
skip-scalars (c ∷ cs) h = elim (cases_Bool (is_whitespace c)) [
  | inl white ↦ rw white (skip-scalars cs (and_parts _ _ h).1)
  | inr dark ↦ rw dark h
]

trimmed-chars : (text : List ℕ) → IsUtf8 text → chars (trim_start text) ≡ skip_leading_whitespace (chars text)
unfolding trim_start
trimmed-chars text utf8 = chars-encodes (skip_leading_whitespace (chars text)) (skip-scalars (chars text) (scalars-chars text utf8))

trimmed-is : (text : List ℕ) → trim_start text ≡ encode_utf8_all (skip_leading_whitespace (chars text))
unfolding trim_start
trimmed-is text = refl

abbrev after_gap : Bool → List ℕ → List ℕ
after_gap none cs = if none then cs else space ∷ cs

abbrev nothing : List ℕ → Bool
nothing [] = true
nothing (c ∷ cs) = false

skip-dark : (c : ℕ) (cs : List ℕ) → is_whitespace c ≡ false → skip_leading_whitespace (c ∷ cs) ≡ c ∷ cs
skip-dark c cs dark = rw dark refl

spaced-dark : (c : ℕ) (cs : List ℕ) → is_whitespace c ≡ false → spaced_on false (c ∷ cs) ≡ c ∷ spaced_on false cs
spaced-dark c cs dark = rw dark refl

gap-dark : (c : ℕ) (cs : List ℕ) → is_whitespace c ≡ false → spaced_on true (c ∷ cs) ≡ space ∷ c ∷ spaced_on false cs
gap-dark c cs dark = rw dark refl

spaced-skip : (cs : List ℕ) → spaced_on true cs ≡ after_gap (nothing (skip_leading_whitespace cs)) (spaced_on false (skip_leading_whitespace cs))
spaced-skip [] = refl
spaced-skip (c ∷ cs) = elim (cases_Bool (is_whitespace c)) as (λ t. spaced_on true (c ∷ cs) ≡ after_gap (nothing (skip_leading_whitespace (c ∷ cs))) (spaced_on false (skip_leading_whitespace (c ∷ cs)))) [
  | inl white ↦ rw white (spaced-skip cs)
  | inr dark ↦ gap-dark c cs dark ∙ ap (λ t. space ∷ t) (sym (spaced-dark c cs dark)) ∙ ap (λ ds. after_gap (nothing ds) (spaced_on false ds)) (sym (skip-dark c cs dark))
]

some_bytes : (c : ℕ) (cs : List ℕ) → (length (encode_utf8_all (c ∷ cs)) == 0) ≡ false
some_bytes c cs = ne_eqb _ 0 (λ e. let less = shorter-past (encode_utf8_all (c ∷ cs)) (encode_utf8_all cs) c refl in omega (arith, less))

encoded-none : (cs : List ℕ) → (length (encode_utf8_all cs) == 0) ≡ nothing cs
encoded-none [] = refl
encoded-none (c ∷ cs) = some_bytes c cs

encoded-gap : (none : Bool) (cs : List ℕ) → encode_utf8_all (after_gap none cs) ≡ after_gap none (encode_utf8_all cs)
encoded-gap true cs = refl
encoded-gap false cs = one_byte space cs (omega arith)

-- what is written for a text that begins with whitespace
pub spaced-white : (rest after words : List ℕ) (c : ℕ) → IsUtf8 rest → rest ≡ encode_utf8 c ++ after → is_whitespace c ≡ true → words ≡ trim_start rest →
    spaced_words rest ≡ (if length words == 0 then spaced_words words else space ∷ spaced_words words)
spaced-white rest after words c utf8 is white trimmed =
    let cs = skip_leading_whitespace (chars rest) in
    let first : chars rest ≡ c ∷ chars after = chars_past_char rest after c utf8 is in
    let skipped : cs ≡ skip_leading_whitespace (chars after) = ap skip_leading_whitespace first ∙ rw white refl in
    let on : spaced_on false (chars rest) ≡ spaced_on true (chars after) = ap (spaced_on false) first ∙ rw white refl in
    let gap : spaced_on true (chars after) ≡ after_gap (nothing cs) (spaced_on false cs) = spaced-skip (chars after) ∙ ap (λ ds. after_gap (nothing ds) (spaced_on false ds)) (sym skipped) in
    let none : (length words == 0) ≡ nothing cs = ap (λ t. length t == 0) (trimmed ∙ trimmed-is rest) ∙ encoded-none cs in
    let words_are : chars words ≡ cs = ap chars trimmed ∙ trimmed-chars rest utf8 in
    ap encode_utf8_all (on ∙ gap)
    ∙ encoded-gap (nothing cs) (spaced_on false cs)
    ∙ ap (λ b. after_gap b (encode_utf8_all (spaced_on false cs))) (sym none)
    ∙ ap (λ ds. after_gap (length words == 0) (encode_utf8_all (spaced_on false ds))) (sym words_are)

skip-shorter : (cs : List ℕ) → length (encode_utf8_all (skip_leading_whitespace cs)) ≤ length (encode_utf8_all cs)
skip-shorter [] = omega arith
skip-shorter (c ∷ cs) = elim (cases_Bool (is_whitespace c)) [
  | inl white ↦ rw white (let rest = skip-shorter cs in let less = shorter-past (encode_utf8_all (c ∷ cs)) (encode_utf8_all cs) c refl in omega (arith, rest, less))
  | inr dark ↦ rw dark (omega arith)
]

pub trimmed-shorter : (rest after words : List ℕ) (c : ℕ) → IsUtf8 rest → rest ≡ encode_utf8 c ++ after → is_whitespace c ≡ true → words ≡ trim_start rest → length words < length rest
trimmed-shorter rest after words c utf8 is white trimmed =
    let skipped : skip_leading_whitespace (chars rest) ≡ skip_leading_whitespace (chars after) = ap skip_leading_whitespace (chars_past_char rest after c utf8 is) ∙ rw white refl in
    let size : length words ≡ length (encode_utf8_all (skip_leading_whitespace (chars after))) = ap length (trimmed ∙ trimmed-is rest) ∙ ap (λ cs. length (encode_utf8_all cs)) skipped in
    let whole : length (encode_utf8_all (chars after)) ≡ length after = ap length (encodes-chars after (IsUtf8-past_char rest after c utf8 is)) in
    let le = skip-shorter (chars after) in
    let less = shorter-past rest after c is in
    omega (arith, size, whole, le, less)

-- ---- the words of a text are empty where it has none

spaced-none : (cs : List ℕ) → nothing (spaced_on false (skip_leading_whitespace cs)) ≡ nothing (skip_leading_whitespace cs)
spaced-none [] = refl
spaced-none (c ∷ cs) = elim (cases_Bool (is_whitespace c)) as (λ t. nothing (spaced_on false (skip_leading_whitespace (c ∷ cs))) ≡ nothing (skip_leading_whitespace (c ∷ cs))) [
  | inl white ↦ rw white (spaced-none cs)
  | inr dark ↦ ap (λ ds. nothing (spaced_on false ds)) (skip-dark c cs dark) ∙ ap nothing (spaced-dark c cs dark) ∙ sym (ap nothing (skip-dark c cs dark))
]

pub joined-empty : (text row : List ℕ) → IsUtf8 text → row ≡ trim_start text → (length (joined_words text) == 0) ≡ (length row == 0)
joined-empty text row utf8 same =
    let cs = skip_leading_whitespace (chars text) in
    ap (λ ds. length (encode_utf8_all (spaced_on false ds)) == 0) (trimmed-chars text utf8)
    ∙ encoded-none (spaced_on false cs)
    ∙ spaced-none (chars text)
    ∙ sym (encoded-none cs)
    ∙ ap (λ t. length t == 0) (sym (same ∙ trimmed-is text))

-- ---- the steps

pub push_char : (old rest after : List ℕ) (c : ℕ) → IsUtf8 rest → rest ≡ encode_utf8 c ++ after → is_whitespace c ≡ false → (old ++ encode_utf8 c) ++ spaced_words after ≡ old ++ spaced_words rest
push_char old rest after c utf8 is dark = append_assoc old (encode_utf8 c) (spaced_words after) ∙ ap (λ t. old ++ t) (sym (spaced-char rest after c utf8 is dark))

-- the text with a space where words follow
pub push_gap : (old new rest after words : List ℕ) (c : ℕ) → IsUtf8 rest → rest ≡ encode_utf8 c ++ after → is_whitespace c ≡ true → words ≡ trim_start rest →
    new ≡ old ++ (if length words == 0 then [] else encode_utf8 space) → new ++ spaced_words words ≡ old ++ spaced_words rest
push_gap old new rest after words c utf8 is white trimmed made =
    ap (λ t. t ++ spaced_words words) made
    ∙ (append_assoc old _ (spaced_words words) ∙ ap (λ t. old ++ t) (gap (length words == 0) ∙ sym (spaced-white rest after words c utf8 is white trimmed)))
  where
    gap : (none : Bool) → (if none then [] else encode_utf8 space) ++ spaced_words words ≡ (if none then spaced_words words else space ∷ spaced_words words)
    gap true = refl
    gap false = ap (λ e. e ++ spaced_words words) (encode_ascii space (omega arith))

pub spaced-end : (old new rest row : List ℕ) → length rest ≡ 0 → new ++ spaced_words rest ≡ old ++ spaced_words row → new ≡ old ++ spaced_words row
spaced-end old new [] row none whole = sym (append-nil new) ∙ ap (λ cs. new ++ encode_utf8_all (spaced_on false cs)) (sym chars-nil) ∙ whole
spaced-end old new (b ∷ rest) row none whole = absurd (omega arith)

-- a space before a character that isn't whitespace
pub spaced-letter : (after more : List ℕ) (c : ℕ) → IsUtf8 after → after ≡ encode_utf8 c ++ more → is_whitespace c ≡ false → spaced_words (space ∷ after) ≡ space ∷ spaced_words after
spaced-letter after more c utf8 is dark =
    let first : chars after ≡ c ∷ chars more = chars_past_char after more c utf8 is in
    ap (λ cs. encode_utf8_all (spaced_on false cs)) (chars-low space after (omega arith) ∙ ap (λ cs. space ∷ cs) first)
    ∙ ap encode_utf8_all (gap-dark c (chars more) dark ∙ ap (λ t. space ∷ t) (sym (spaced-dark c (chars more) dark)))
    ∙ one_byte space (spaced_on false (c ∷ chars more)) (omega arith)
    ∙ ap (λ cs. space ∷ encode_utf8_all (spaced_on false cs)) (sym first)

-- ---- characters at the front of a text

-- what was read and what is left
pub record IsRead (text left : List ℕ) : Type 0 where
  pub front : List ℕ
  pub whole : text ≡ front ++ left
  pub same : spaced_words text ≡ front ++ spaced_words left
  pub utf8 : IsUtf8 left

pub read_more : (text left after : List ℕ) (c : ℕ) → IsRead text left → left ≡ encode_utf8 c ++ after → spaced_words left ≡ encode_utf8 c ++ spaced_words after → IsRead text after
read_more text left after c read is same = record {
  front = read.front ++ encode_utf8 c;
  whole = read.whole ∙ (ap (λ t. read.front ++ t) is ∙ sym (append_assoc read.front (encode_utf8 c) after));
  same = read.same ∙ (ap (λ t. read.front ++ t) same ∙ sym (append_assoc read.front (encode_utf8 c) (spaced_words after)));
  utf8 = IsUtf8-past_char left after c read.utf8 is;
}

take-front : (front left : List ℕ) → (take (length front) (front ++ left) ≡ front) × (drop (length front) (front ++ left) ≡ left)
take-front [] left = (refl, refl)
take-front (b ∷ front) left = (let rest = take-front front left in (ap (λ t. b ∷ t) rest.0, rest.1))

length-joined : (xs ys : List ℕ) → length (xs ++ ys) ≡ length xs + length ys
length-joined [] ys = omega arith
length-joined (x ∷ xs) ys = let rest = length-joined xs ys in omega (arith, rest)

pub read_all : (text left : List ℕ) (n : ℕ) → IsRead text left → n ≡ length text - length left → IsCharBoundary text n × (spaced_words text ≡ take n text ++ spaced_words (drop n text))
read_all text left n read counted =
    let size = ap length read.whole in
    let sum = length-joined read.front left in
    let is : n ≡ length read.front = omega (arith, size, sum, counted) in
    let parts = take-front read.front left in
    let front : take n text ≡ read.front = ap (λ t. take n t) read.whole ∙ ap (λ m. take m (read.front ++ left)) is ∙ parts.0 in
    let back : drop n text ≡ left = ap (λ t. drop n t) read.whole ∙ ap (λ m. drop m (read.front ++ left)) is ∙ parts.1 in
    (subst (IsCharBoundary text) (sym is) (IsCharBoundary-at_seam text read.front left read.whole read.utf8), read.same ∙ (ap (λ t. t ++ spaced_words left) (sym front) ∙ ap (λ t. take n text ++ spaced_words t) (sym back)))
