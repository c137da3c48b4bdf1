-- The characters of calm texts, and the pieces of which texts and values with references consist.
use Rattle.std.specs.Prelude.{◌≡◌, ◌≢◌, ◌<◌, ◌≤◌, ℕ, zero, suc, Bool, true, false, not, nat_eq, nat_lt, ◌==◌, ◌&&◌, ◌||◌, List, [], ◌∷◌, ◌++◌, None, codes, encode_utf8, flat_map, length, map, refl, if◌then◌else◌}
use Rattle.std.specs.Char.{is_ascii_alphanumeric}
use Rattle.std.specs.List.{list_all}
use Rattle.std.specs.Str.{all_scalars, encode_utf8_all}
use Rattle.std.specs.Cmp.Derive.{both_true}
use Rattle.std.proofs.Common.{arith, inl, inr}
use Rattle.std.proofs.Math.Utf8.{encode}
use Rattle.std.proofs.lemmas.Bool.{and_parts, cases_lt, eqb-true, ltb-true, ne_eqb, or_cases, or_parts, true≢false}
use Rattle.std.proofs.lemmas.Bool.Decides.{nat_tests}
use Rattle.std.proofs.lemmas.List.{append_assoc, length-append}
use Rattle.std.proofs.lemmas.Str.{encode_ascii}
use mathlib.Core.Path.{◌∙◌, sym, ap, subst}
use lib.Utf8.{scalar}
use Rattle.calm_pages.specs.Calm.{begins, is_bare, is_calm_byte, is_calm_text, is_plain_reference}
use Rattle.dom_markup.specs.Bytes.{is_letter}
use Rattle.dom_markup.specs.Markup.{begins_markup, opens_markup, text_front}
use Rattle.dom_markup.specs.References.{decoded, reference}
use Rattle.dom_markup.proofs.html.InertLemmas.{encode_lacks}
use Rattle.dom_markup.proofs.html.ReadBack.{decoded-char}
use Rattle.standard_tokens.specs.PlainMarkup.{Piece, Itself, Amp, Lt, Gt, Quot, Nbsp, character, written_piece}
use Rattle.standard_laws.specs.SpelledMarkup.{are_pieces, is_lone, is_piece, is_text_at}
use Rattle.standard_laws.proofs.ByteChars.{First, first, first_same}
use Rattle.standard_laws.proofs.Encodings.{Encodes, encodes_both, encodes_one, nothing}

-- ---- the characters behind an `&`

-- neither a letter nor a digit nor `#`
abbrev pub refers : ℕ → Bool
refers b = is_ascii_alphanumeric b || b == 35

refers_low : (b : ℕ) → 128 ≤ b → refers b ≡ false
refers_low b h = grind (arith, nat_tests)

pub bare_same : (cs : List ℕ) → is_bare (encode_utf8_all cs) ≡ is_bare cs
bare_same [] = refl
bare_same (c ∷ cs) = ap (λ (bytes : List ℕ). is_bare (bytes ++ encode_utf8_all cs)) (first c).is ∙ ap not (first_same refers refers_low c)

pub bare_front : (cs rest : List ℕ) → is_bare (cs ++ rest) ≡ true → is_bare cs ≡ true
bare_front [] rest h = refl
bare_front (c ∷ cs) rest h = h

-- a byte that passes a test is none that does not
pub differs : (test : ℕ → Bool) (b k : ℕ) → test b ≡ true → test k ≡ false → (k == b) ≡ false
differs test b k passes fails = ne_eqb k b (λ e. true≢false (sym passes ∙ ap test (sym e) ∙ fails))

pub bare_none : (bytes : List ℕ) → is_bare bytes ≡ true → reference bytes ≡ None
bare_none [] h = refl
bare_none (b ∷ bytes) h =
    rw (
      differs (λ c. not (refers c)) b 97 h refl,
      differs (λ c. not (refers c)) b 108 h refl,
      differs (λ c. not (refers c)) b 103 h refl,
      differs (λ c. not (refers c)) b 113 h refl,
      differs (λ c. not (refers c)) b 110 h refl,
      differs (λ c. not (refers c)) b 35 h refl,
    ) refl

-- ---- words of ASCII

abbrev pub is_ascii_char : ℕ → Bool
is_ascii_char b = nat_lt b 128

ascii_below : (b : ℕ) → is_ascii_char b ≡ true → b < 128
ascii_below b h = ltb-true b 128 h

-- a word of ASCII with which the bytes begin, the characters begin with, too
begins_chars : (word cs : List ℕ) → list_all is_ascii_char word ≡ true → begins (encode_utf8_all cs) word ≡ true → begins cs word ≡ true
begins_chars [] cs all h = refl
begins_chars (w ∷ word) [] all h = h
begins_chars (w ∷ word) (c ∷ cs) all h =
    let parts : (is_ascii_char w ≡ true) × (list_all is_ascii_char word ≡ true) = and_parts (is_ascii_char w) (list_all is_ascii_char word) all in
    let f : First c = first c in
    let k : begins (f.byte ∷ (f.more ++ encode_utf8_all cs)) (w ∷ word) ≡ true = subst (λ (bytes : List ℕ). begins (bytes ++ encode_utf8_all cs) (w ∷ word) ≡ true) f.is h in
    let same : w ≡ f.byte = eqb-true w f.byte (and_parts (nat_eq w f.byte) (begins (f.more ++ encode_utf8_all cs) word) k).0 in
    elim (cases_lt c 128) [
      | inl small ↦
          (let head : w ≡ c = same ∙ f.low small in
          let rest : begins (encode_utf8_all cs) word ≡ true =
          (and_parts (nat_eq w c) (begins (encode_utf8_all cs) word) (subst (λ (bytes : List ℕ). begins (bytes ++ encode_utf8_all cs) (w ∷ word) ≡ true) (encode_ascii c small) h)).1 in
          both_true (subst (λ d. nat_eq w d ≡ true) head (itself w)) (begins_chars word cs parts.1 rest))
      | inr large ↦ absurd (omega (arith, f.high large, same, ascii_below w parts.0))
    ]
  where
    itself : (n : ℕ) → nat_eq n n ≡ true
    itself n = grind arith

or_both : (a b c d : Bool) → (a ≡ true → c ≡ true) → (b ≡ true → d ≡ true) → (a || b) ≡ true → (c || d) ≡ true
or_both a b true d f g h = refl
or_both true b false d f g h = absurd (true≢false (sym (f refl)))
or_both false b false d f g h = g h

reference_chars : (cs : List ℕ) → is_plain_reference (encode_utf8_all cs) ≡ true → is_plain_reference cs ≡ true
reference_chars cs h =
    or_both _ _ _ _
    (or_both _ _ _ _
    (or_both _ _ _ _
    (or_both _ _ _ _ (or_both _ _ _ _ (begins_chars (codes "amp;") cs refl) (begins_chars (codes "lt;") cs refl)) (begins_chars (codes "gt;") cs refl))
    (begins_chars (codes "quot;") cs refl))
    (begins_chars (codes "nbsp;") cs refl)) (λ bare. sym (bare_same cs) ∙ bare) h

-- ---- calm characters

-- an `&` begins one of five references or none, and no other character is a null or a carriage return
abbrev pub is_calm_char : ℕ → List ℕ → Bool
is_calm_char c after = if 38 == c then is_plain_reference after else not (0 == c || 13 == c)

abbrev pub are_calm_chars : List ℕ → Bool
are_calm_chars [] = true
are_calm_chars (c ∷ after) = is_calm_char c after && are_calm_chars after

pub calm_behind : (xs ys : List ℕ) → is_calm_text (xs ++ ys) ≡ true → is_calm_text ys ≡ true
calm_behind [] ys h = h
calm_behind (x ∷ xs) ys h = calm_behind xs ys (and_parts (is_calm_byte x (xs ++ ys)) (is_calm_text (xs ++ ys)) h).1

pub chars_behind : (xs ys : List ℕ) → are_calm_chars (xs ++ ys) ≡ true → are_calm_chars ys ≡ true
chars_behind [] ys h = h
chars_behind (x ∷ xs) ys h = chars_behind xs ys (and_parts (is_calm_char x (xs ++ ys)) (are_calm_chars (xs ++ ys)) h).1

pub calm_chars : (cs : List ℕ) → is_calm_text (encode_utf8_all cs) ≡ true → are_calm_chars cs ≡ true
unfolding encode
calm_chars [] h = refl
calm_chars (c ∷ cs) h = both_true (by_amp (38 == c) refl) (calm_chars cs (calm_behind (encode_utf8 c) (encode_utf8_all cs) h))
  where
    more : List ℕ
    more = encode_utf8_all cs

    no_null : (x : Bool) → (0 == c) ≡ x → x ≡ false
    no_null true e = absurd (true≢false (sym (subst (λ d. is_calm_text (encode_utf8 d ++ more) ≡ true) (sym (eqb-true 0 c e)) h)))
    no_null false e = refl

    no_return : (x : Bool) → (13 == c) ≡ x → x ≡ false
    no_return true e = absurd (true≢false (sym (subst (λ d. is_calm_text (encode_utf8 d ++ more) ≡ true) (sym (eqb-true 13 c e)) h)))
    no_return false e = refl

    by_amp : (x : Bool) → (38 == c) ≡ x → (if x then is_plain_reference cs else not (0 == c || 13 == c)) ≡ true
    by_amp true e = reference_chars cs (and_parts (is_plain_reference more) (is_calm_text more) (subst (λ d. is_calm_text (encode_utf8 d ++ more) ≡ true) (sym (eqb-true 38 c e)) h)).0
    by_amp false e = ap not (ap (λ x. x || 13 == c) (no_null (0 == c) refl) ∙ no_return (13 == c) refl)

-- ---- references

-- what follows does not go on with a word of a reference: neither a letter nor a digit nor `;`
abbrev pub stops : List ℕ → Bool
stops [] = true
stops (c ∷ rest) = not (is_ascii_alphanumeric c || c == 59)

abbrev is_word_char : ℕ → Bool
is_word_char c = is_ascii_alphanumeric c || c == 59

-- the word stands in front of what follows
begins_front : (word cs rest : List ℕ) → list_all is_word_char word ≡ true → stops rest ≡ true → begins (cs ++ rest) word ≡ true → (more : List ℕ) × (cs ≡ word ++ more)
begins_front [] cs rest all stop h = (cs, refl)
begins_front (w ∷ word) [] [] all stop h = absurd (true≢false (sym h))
begins_front (w ∷ word) [] (r ∷ rest) all stop h =
    let same : w ≡ r = eqb-true w r (and_parts (nat_eq w r) (begins rest word) h).0 in
    let passes : is_word_char r ≡ true = subst (λ d. is_word_char d ≡ true) same (and_parts (is_word_char w) (list_all is_word_char word) all).0 in
    absurd (true≢false (sym stop ∙ ap not passes))
begins_front (w ∷ word) (c ∷ cs) rest all stop h =
    let parts : (nat_eq w c ≡ true) × (begins (cs ++ rest) word ≡ true) = and_parts (nat_eq w c) (begins (cs ++ rest) word) h in
    let k = begins_front word cs rest (and_parts (is_word_char w) (list_all is_word_char word) all).1 stop parts.1 in
    (k.0, ap (λ d. d ∷ cs) (sym (eqb-true w c parts.0)) ∙ ap (λ ds. w ∷ ds) k.1)

-- a reference: its piece, and its word
record Reference (piece : Piece) (word : List ℕ) : Type 0 where
  written : written_piece piece ≡ 38 ∷ word
  bytes : (more : List ℕ) → encode_utf8_all (word ++ more) ≡ word ++ encode_utf8_all more
  reads : (more : List ℕ) → decoded (encode_utf8 38 ++ (word ++ more)) ≡ encode_utf8 (character piece) ++ decoded more
  scalar_is : scalar (character piece) ≡ true
  some : not (character piece == 0) ≡ true
  tested : (test : ℕ → List ℕ → Bool) (rest : List ℕ) → is_piece test piece rest ≡ true
  letters : list_all is_word_char word ≡ true

amp_is : Reference Amp (codes "amp;")
unfolding encode
amp_is = record { written = refl; bytes = λ more. refl; reads = λ more. refl; scalar_is = refl; some = refl; tested = λ test rest. refl; letters = refl }

lt_is : Reference Lt (codes "lt;")
unfolding encode
lt_is = record { written = refl; bytes = λ more. refl; reads = λ more. refl; scalar_is = refl; some = refl; tested = λ test rest. refl; letters = refl }

gt_is : Reference Gt (codes "gt;")
unfolding encode
gt_is = record { written = refl; bytes = λ more. refl; reads = λ more. refl; scalar_is = refl; some = refl; tested = λ test rest. refl; letters = refl }

quot_is : Reference Quot (codes "quot;")
unfolding encode
quot_is = record { written = refl; bytes = λ more. refl; reads = λ more. refl; scalar_is = refl; some = refl; tested = λ test rest. refl; letters = refl }

nbsp_is : Reference Nbsp (codes "nbsp;")
unfolding encode
nbsp_is = record { written = refl; bytes = λ more. refl; reads = λ more. refl; scalar_is = refl; some = refl; tested = λ test rest. refl; letters = refl }

-- ---- pieces

-- each character but `&` passes the test before what follows it
abbrev pub Tested : (ℕ → List ℕ → Bool) → List ℕ → List ℕ → Type 0
Tested test [] rest = Unit {0}
Tested test (c ∷ cs) rest = ((38 == c) ≡ false → test c (cs ++ rest) ≡ true) × Tested test cs rest

tested_behind : (test : ℕ → List ℕ → Bool) (xs ys rest : List ℕ) → Tested test (xs ++ ys) rest → Tested test ys rest
tested_behind test [] ys rest h = h
tested_behind test (x ∷ xs) ys rest h = tested_behind test xs ys rest h.1

-- the characters are written as pieces, which stand for the characters of the decoded text
pub record Pieced (test : ℕ → List ℕ → Bool) (cs rest : List ℕ) : Type 0 where
  pub pieces : List Piece
  pub written : flat_map written_piece pieces ≡ cs
  pub means : Encodes (map character pieces) (decoded (encode_utf8_all cs))
  pub passes : are_pieces test pieces rest ≡ true
  pub some : list_all (λ c. not (c == 0)) (map character pieces) ≡ true

abbrev Later : (ℕ → List ℕ → Bool) → ℕ → List ℕ → Type 0
Later test most rest = (cs : List ℕ) → length cs ≤ most → all_scalars cs ≡ true → are_calm_chars (cs ++ rest) ≡ true → Tested test cs rest → Pieced test cs rest

scalars_behind : (xs ys : List ℕ) → all_scalars (xs ++ ys) ≡ true → all_scalars ys ≡ true
scalars_behind [] ys h = h
scalars_behind (x ∷ xs) ys h = scalars_behind xs ys (and_parts (scalar x) (all_scalars (xs ++ ys)) h).1

-- a reference in front
pieced_word : (test : ℕ → List ℕ → Bool) (piece : Piece) (word : List ℕ) → Reference piece word → (most : ℕ) (cs rest : List ℕ) → Later test most rest → length cs ≤ most → all_scalars cs ≡ true →
    are_calm_chars (cs ++ rest) ≡ true → Tested test cs rest → stops rest ≡ true → begins (cs ++ rest) word ≡ true → Pieced test (38 ∷ cs) rest
pieced_word test piece word r most cs rest later few scalars calm tested stop begins =
    let k = begins_front word cs rest r.letters stop begins in
    let short : length k.0 ≤ most = omega (arith, few, ap length k.1, length-append word k.0) in
    let p : Pieced test k.0 rest = later k.0 short (scalars_behind word k.0 (ap all_scalars (sym k.1) ∙ scalars))
    (chars_behind word (k.0 ++ rest) (ap are_calm_chars (sym (append_assoc word k.0 rest) ∙ ap (λ (ds : List ℕ). ds ++ rest) (sym k.1)) ∙ calm))
    (tested_behind test word k.0 rest (subst (λ (ds : List ℕ). Tested test ds rest) k.1 tested)) in
    let bytes : decoded (encode_utf8_all (38 ∷ cs)) ≡ encode_utf8 (character piece) ++ decoded (encode_utf8_all k.0) =
    ap (λ (ds : List ℕ). decoded (encode_utf8 38 ++ encode_utf8_all ds)) k.1 ∙ ap (λ (bs : List ℕ). decoded (encode_utf8 38 ++ bs)) (r.bytes k.0) ∙ r.reads (encode_utf8_all k.0) in
    record {
      pieces = piece ∷ p.pieces;
      written = ap (λ (ds : List ℕ). written_piece piece ++ ds) p.written ∙ ap (λ (ds : List ℕ). ds ++ k.0) r.written ∙ ap (λ (ds : List ℕ). 38 ∷ ds) (sym k.1);
      means = subst (Encodes (character piece ∷ map character p.pieces)) (sym bytes) (encodes_both (encodes_one (character piece) r.scalar_is) p.means);
      passes = both_true (r.tested test _) p.passes;
      some = both_true r.some p.some;
    }

-- an `&` that begins no reference
pieced_bare : (test : ℕ → List ℕ → Bool) → ((after : List ℕ) → is_bare after ≡ true → test 38 after ≡ true) → (cs rest : List ℕ) → Pieced test cs rest → is_bare (cs ++ rest) ≡ true → Pieced test (38 ∷ cs) rest
unfolding encode
pieced_bare test by_bare cs rest p bare =
    let none : reference (encode_utf8_all cs) ≡ None = bare_none (encode_utf8_all cs) (bare_same cs ∙ bare_front cs rest bare) in
    let bytes : decoded (encode_utf8_all (38 ∷ cs)) ≡ encode_utf8 38 ++ decoded (encode_utf8_all cs) = rw none refl in
    record {
      pieces = Itself 38 ∷ p.pieces;
      written = ap (λ (ds : List ℕ). 38 ∷ ds) p.written;
      means = subst (Encodes (38 ∷ map character p.pieces)) (sym bytes) (encodes_both (encodes_one 38 refl) p.means);
      passes = both_true (by_bare _ (subst (λ (ds : List ℕ). is_bare (ds ++ rest) ≡ true) (sym p.written) bare)) p.passes;
      some = both_true refl p.some;
    }

-- any other character
pieced_other : (test : ℕ → List ℕ → Bool) (c : ℕ) (cs rest : List ℕ) → scalar c ≡ true → (38 == c) ≡ false → not (0 == c || 13 == c) ≡ true → test c (cs ++ rest) ≡ true → Pieced test cs rest → Pieced test (c ∷ cs) rest
pieced_other test c cs rest scalar other kept passes p =
    record {
      pieces = Itself c ∷ p.pieces;
      written = ap (λ (ds : List ℕ). c ∷ ds) p.written;
      means = subst (Encodes (c ∷ map character p.pieces)) (sym (decoded-char c (encode_utf8_all cs) (swapped 38 c other))) (encodes_both (encodes_one c scalar) p.means);
      passes = both_true (subst (λ (ds : List ℕ). test c (ds ++ rest) ≡ true) (sym p.written) passes) p.passes;
      some = both_true (no_null (c == 0) refl) p.some;
    }
  where
    swapped : (a b : ℕ) → (a == b) ≡ false → (b == a) ≡ false
    swapped a b h = grind arith

    no_null : (x : Bool) → (c == 0) ≡ x → not x ≡ true
    no_null true e = absurd (true≢false (sym (subst (λ d. not (0 == d || 13 == d) ≡ true) (eqb-true c 0 e) kept)))
    no_null false e = refl

pub pieced : (test : ℕ → List ℕ → Bool) → ((after : List ℕ) → is_bare after ≡ true → test 38 after ≡ true) → (rest : List ℕ) → stops rest ≡ true → (most : ℕ) → Later test most rest
pieced test by_bare rest stop most [] few scalars calm tested = record { pieces = []; written = refl; means = nothing; passes = refl; some = refl }
pieced test by_bare rest stop zero (c ∷ cs) few scalars calm tested = absurd (omega (arith, few))
pieced test by_bare rest stop (suc most) (c ∷ cs) few scalars calm tested =
    let s : (scalar c ≡ true) × (all_scalars cs ≡ true) = and_parts (scalar c) (all_scalars cs) scalars in
    let k : (is_calm_char c (cs ++ rest) ≡ true) × (are_calm_chars (cs ++ rest) ≡ true) = and_parts (is_calm_char c (cs ++ rest)) (are_calm_chars (cs ++ rest)) calm in
    by_amp (38 == c) refl s k.0 k.1 (pieced test by_bare rest stop most)
  where
    short : length cs ≤ most
    short = omega (arith, few)

    by_words : are_calm_chars (cs ++ rest) ≡ true → (all_scalars cs ≡ true) → Later test most rest → is_plain_reference (cs ++ rest) ≡ true → Pieced test (38 ∷ cs) rest
    by_words calm scalars later h = elim (or_cases _ _ h) [
      | inr bare ↦ pieced_bare test by_bare cs rest (later cs short scalars calm tested.1) bare
      | inl h5 ↦
          elim (or_cases _ _ h5) [
            | inr n ↦ pieced_word test Nbsp (codes "nbsp;") nbsp_is most cs rest later short scalars calm tested.1 stop n
            | inl h4 ↦
                elim (or_cases _ _ h4) [
                  | inr q ↦ pieced_word test Quot (codes "quot;") quot_is most cs rest later short scalars calm tested.1 stop q
                  | inl h3 ↦
                      elim (or_cases _ _ h3) [
                        | inr g ↦ pieced_word test Gt (codes "gt;") gt_is most cs rest later short scalars calm tested.1 stop g
                        | inl h2 ↦
                            elim (or_cases _ _ h2) [
                              | inr l ↦ pieced_word test Lt (codes "lt;") lt_is most cs rest later short scalars calm tested.1 stop l
                              | inl a ↦ pieced_word test Amp (codes "amp;") amp_is most cs rest later short scalars calm tested.1 stop a
                            ]
                      ]
                ]
          ]
    ]

    by_amp : (x : Bool) → (38 == c) ≡ x → (scalar c ≡ true) × (all_scalars cs ≡ true) → (if x then is_plain_reference (cs ++ rest) else not (0 == c || 13 == c)) ≡ true →
        are_calm_chars (cs ++ rest) ≡ true → Later test most rest → Pieced test (c ∷ cs) rest
    by_amp true e s here calm later = subst (λ d. Pieced test (d ∷ cs) rest) (eqb-true 38 c e) (by_words calm s.1 later here)
    by_amp false e s here calm later = pieced_other test c cs rest s.0 e here (tested.0 e) (later cs short s.1 calm tested.1)

-- ---- texts in markup

-- the bytes up to the first markup are the characters up to the first markup
opens_low : (b : ℕ) → 128 ≤ b → opens_markup b ≡ false
opens_low b h = grind (arith, nat_tests)

front_past : (xs ys : List ℕ) → list_all (λ b. not (b == 60)) xs ≡ true → text_front (xs ++ ys) ≡ xs ++ text_front ys
front_past [] ys h = refl
front_past (x ∷ xs) ys h =
    let parts : (not (x == 60) ≡ true) × (list_all (λ b. not (b == 60)) xs ≡ true) = and_parts (not (x == 60)) (list_all (λ b. not (b == 60)) xs) h in
    by_next (xs ++ ys) (from_not (x == 60) parts.0) ∙ ap (λ (zs : List ℕ). x ∷ zs) (front_past xs ys parts.1)
  where
    from_not : (z : Bool) → not z ≡ true → z ≡ false
    from_not true k = absurd (true≢false (sym k))
    from_not false k = refl

    by_next : (zs : List ℕ) → (x == 60) ≡ false → text_front (x ∷ zs) ≡ x ∷ text_front zs
    by_next [] e = refl
    by_next (z ∷ zs) e = rw e refl

markup_same : (cs : List ℕ) → begins_markup (60 ∷ encode_utf8_all cs) ≡ begins_markup (60 ∷ cs)
markup_same [] = refl
markup_same (c ∷ cs) = ap (λ (bytes : List ℕ). begins_markup (60 ∷ (bytes ++ encode_utf8_all cs))) (first c).is ∙ first_same opens_markup opens_low c

pub front_chars : (cs : List ℕ) → text_front (encode_utf8_all cs) ≡ encode_utf8_all (text_front cs)
unfolding encode
front_chars [] = refl
front_chars (c ∷ cs) = by_less (c == 60) refl (front_chars cs)
  where
    by_markup : (x : Bool) → begins_markup (60 ∷ cs) ≡ x → text_front (encode_utf8_all cs) ≡ encode_utf8_all (text_front cs) → text_front (encode_utf8_all (60 ∷ cs)) ≡ encode_utf8_all (text_front (60 ∷ cs))
    by_markup true e later = rw (markup_same cs ∙ e, e) refl
    by_markup false e later = rw (markup_same cs ∙ e, e) (ap (λ (zs : List ℕ). 60 ∷ zs) later)

    by_next : (ds : List ℕ) → (c == 60) ≡ false → text_front (c ∷ ds) ≡ c ∷ text_front ds
    by_next [] e = refl
    by_next (d ∷ ds) e = rw e refl

    by_less : (x : Bool) → (c == 60) ≡ x → text_front (encode_utf8_all cs) ≡ encode_utf8_all (text_front cs) → text_front (encode_utf8 c ++ encode_utf8_all cs) ≡ encode_utf8_all (text_front (c ∷ cs))
    by_less true e later =
        subst (λ d. text_front (encode_utf8_all (d ∷ cs)) ≡ encode_utf8_all (text_front (d ∷ cs))) (sym (eqb-true c 60 e)) (by_markup (begins_markup (60 ∷ cs)) refl later)
    by_less false e later =
        front_past (encode_utf8 c) (encode_utf8_all cs) (encode_lacks 60 c (omega arith) e) ∙ ap (λ (zs : List ℕ). encode_utf8 c ++ zs) later ∙ sym (ap encode_utf8_all (by_next cs e))

-- each character of such a text may stand in it
lone_next : (rest : List ℕ) → rest ≢ [] → begins_markup (60 ∷ rest) ≡ false → is_lone rest ≡ true
lone_next [] some h = absurd (some refl)
lone_next (c ∷ rest) some h =
    let a : (is_letter c || c == 47 || c == 33 ≡ false) × ((c == 63) ≡ false) = or_parts (is_letter c || c == 47 || c == 33) (c == 63) h in
    let b : (is_letter c || c == 47 ≡ false) × ((c == 33) ≡ false) = or_parts (is_letter c || c == 47) (c == 33) a.0 in
    let d : (is_letter c ≡ false) × ((c == 47) ≡ false) = or_parts (is_letter c) (c == 47) b.0 in
    rw (d.0, b.1, d.1, a.1) refl

joined_some : (xs ys : List ℕ) → ys ≢ [] → xs ++ ys ≢ []
joined_some [] ys some e = some e
joined_some (x ∷ xs) ys some e = cc

pub tested_text : (cs rest : List ℕ) → rest ≢ [] → text_front (cs ++ rest) ≡ cs → are_calm_chars (cs ++ rest) ≡ true → Tested is_text_at cs rest
tested_text [] rest some front calm = tt
tested_text (c ∷ cs) rest some front calm =
    let k : (is_calm_char c (cs ++ rest) ≡ true) × (are_calm_chars (cs ++ rest) ≡ true) = and_parts (is_calm_char c (cs ++ rest)) (are_calm_chars (cs ++ rest)) calm in
    by_markup (begins_markup (c ∷ (cs ++ rest))) refl front k.0 (λ e. tested_text cs rest some e k.1)
  where
    by_less : (x : Bool) → (60 == c) ≡ x → begins_markup (c ∷ (cs ++ rest)) ≡ false → not (0 == c || 13 == c) ≡ true → (if x then is_lone (cs ++ rest) else not (0 == c || 13 == c)) ≡ true
    by_less true e m k = lone_next (cs ++ rest) (joined_some cs rest some) (subst (λ d. begins_markup (d ∷ (cs ++ rest)) ≡ false) (sym (eqb-true 60 c e)) m)
    by_less false e m k = k

    here : begins_markup (c ∷ (cs ++ rest)) ≡ false → is_calm_char c (cs ++ rest) ≡ true → (38 == c) ≡ false → is_text_at c (cs ++ rest) ≡ true
    here m k e = rw e (by_less (60 == c) refl m (rw e at k))

    by_markup : (x : Bool) → begins_markup (c ∷ (cs ++ rest)) ≡ x → (if x then [] else c ∷ text_front (cs ++ rest)) ≡ c ∷ cs → is_calm_char c (cs ++ rest) ≡ true →
        (text_front (cs ++ rest) ≡ cs → Tested is_text_at cs rest) → ((38 == c) ≡ false → is_text_at c (cs ++ rest) ≡ true) × Tested is_text_at cs rest
    by_markup true m e k later = cc
    by_markup false m e k later = (here m k, later cc)
