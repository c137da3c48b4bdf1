-- Which characters trees hold, by the bytes of what is written of them.
use Rattle.std.specs.Prelude.{◌≡◌, ℕ, eqb, Bool, true, false, not, cond, ◌&&◌, ◌||◌, ◌==◌, ◌+◌, ◌<◌, ◌≤◌, nat_lt, List, [], ◌∷◌, ◌++◌, codes, encode_utf8, refl, if◌then◌else◌}
use Rattle.std.specs.Char.{to_ascii_lowercase}
use Rattle.std.specs.List.{flat_map, list_all}
use Rattle.std.specs.Str.{IsUtf8, chars, encode_utf8_all}
use Rattle.std.specs.Cmp.Derive.{both_true}
use Rattle.std.proofs.Common.{arith}
use Rattle.std.proofs.Math.Utf8.{encode}
use Rattle.std.proofs.lemmas.Bool.{and_parts, eqb-true, ltb-false, ltb-true, or_parts, true≢false}
use Rattle.std.proofs.lemmas.List.Folds.{list_all-append}
use Rattle.std.proofs.lemmas.Str.{encodes-chars}
use mathlib.Core.Path.{◌∙◌, sym, ap, subst}
use Rattle.dom_nodes.specs.Escaping.{value_char}
use Rattle.dom_markup.specs.Escaping.{escaped_text, text_char}
use Rattle.calm_pages.specs.Calm.{begins_close, has_close, is_calm_byte, is_calm_text}
use Rattle.standard_tokens.specs.Machine.{same_case_less}
use Rattle.standard_tokens.specs.PlainMarkup.{TextKind, Rcdata, Rawtext, Script, begins_with, contains_word, is_comment_text, is_raw_char, lacks_end}
use Rattle.standard_laws.specs.ReadableTrees.{IsKept}
use Rattle.dom_markup.specs.WrittenTrees.{ValueChar, safe_char}

-- ---- bytes

-- no null, and no carriage return
abbrev pub is_kept : ℕ → Bool
is_kept b = not (b == 0 || b == 13)

-- the bytes of a calm text
pub calm_kept : (text : List ℕ) → is_calm_text text ≡ true → list_all is_kept text ≡ true
calm_kept [] h = refl
calm_kept (b ∷ after) h =
    let parts : (is_calm_byte b after ≡ true) × (is_calm_text after ≡ true) = and_parts (is_calm_byte b after) (is_calm_text after) h in
    both_true (by_amp (b == 38) refl _ _ parts.0) (calm_kept after parts.1)
  where
    by_less : (x : Bool) → (b == 60) ≡ x → (rest : Bool) → (if x then rest else is_kept b) ≡ true → is_kept b ≡ true
    by_less true e rest k = ap is_kept (eqb-true b 60 e)
    by_less false e rest k = k

    by_amp : (x : Bool) → (b == 38) ≡ x → (first second : Bool) → (if x then first else (if b == 60 then second else is_kept b)) ≡ true → is_kept b ≡ true
    by_amp true e first second k = ap is_kept (eqb-true b 38 e)
    by_amp false e first second k = by_less (b == 60) refl second k

pub kept_parts : (xs ys : List ℕ) → list_all is_kept (xs ++ ys) ≡ true → (list_all is_kept xs ≡ true) × (list_all is_kept ys ≡ true)
kept_parts xs ys h = and_parts (list_all is_kept xs) (list_all is_kept ys) (sym (list_all-append is_kept xs ys) ∙ h)

-- ---- characters

-- a character does not stand in what is written without what is written of it
lacks_char : (k : ℕ) (test : ℕ → Bool) (by : ℕ → List ℕ) → list_all test (by k) ≡ false → (cs : List ℕ) → list_all test (flat_map by cs) ≡ true → list_all (λ c. not (k == c)) cs ≡ true
lacks_char k test by bad [] h = refl
lacks_char k test by bad (c ∷ cs) h =
    let parts : (list_all test (by c) ≡ true) × (list_all test (flat_map by cs) ≡ true) = and_parts (list_all test (by c)) (list_all test (flat_map by cs)) (sym (list_all-append test (by c) (flat_map by cs)) ∙ h) in
    both_true (by_test (k == c) refl parts.0) (lacks_char k test by bad cs parts.1)
  where
    by_test : (x : Bool) → (k == c) ≡ x → list_all test (by c) ≡ true → not x ≡ true
    by_test true e t = absurd (true≢false (sym t ∙ ap (λ d. list_all test (by d)) (sym (eqb-true k c e)) ∙ bad))
    by_test false e t = refl

neither : (x y : Bool) → not x ≡ true → not y ≡ true → not (x || y) ≡ true
neither true y h k = absurd (true≢false (sym h))
neither false y h k = k

raw_chars : (cs : List ℕ) → list_all (λ c. not (0 == c)) cs ≡ true → list_all (λ c. not (13 == c)) cs ≡ true → list_all is_raw_char cs ≡ true
raw_chars [] h k = refl
raw_chars (c ∷ cs) h k =
    let a : (not (0 == c) ≡ true) × (list_all (λ d. not (0 == d)) cs ≡ true) = and_parts (not (0 == c)) (list_all (λ d. not (0 == d)) cs) h in
    let b : (not (13 == c) ≡ true) × (list_all (λ d. not (13 == d)) cs ≡ true) = and_parts (not (13 == c)) (list_all (λ d. not (13 == d)) cs) k in
    both_true (neither (0 == c) (13 == c) a.0 b.0) (raw_chars cs a.1 b.1)

-- null and a carriage return are written as themselves
abbrev pub ShowsBoth : ValueChar → Type 0
ShowsBoth by = (list_all is_kept (by 0) ≡ false) × (list_all is_kept (by 13) ≡ false)

pub value_shows : ShowsBoth value_char
unfolding encode
value_shows = (refl, refl)

pub safe_shows : ShowsBoth safe_char
unfolding encode
safe_shows = (refl, refl)

text_shows : ShowsBoth text_char
unfolding encode
text_shows = (refl, refl)

bytes_show : ShowsBoth encode_utf8
unfolding encode
bytes_show = (refl, refl)

pub kept_by : (by : ValueChar) → ShowsBoth by → (cs : List ℕ) → list_all is_kept (flat_map by cs) ≡ true → list_all is_raw_char cs ≡ true
kept_by by shows cs h = raw_chars cs (lacks_char 0 is_kept by shows.0 cs h) (lacks_char 13 is_kept by shows.1 cs h)

each_encoded : (cs : List ℕ) → flat_map encode_utf8 cs ≡ encode_utf8_all cs
each_encoded [] = refl
each_encoded (c ∷ cs) = ap (λ bs. encode_utf8 c ++ bs) (each_encoded cs)

-- the bytes of a text, from its characters
spelled : (text : List ℕ) → IsUtf8 text → flat_map encode_utf8 (chars text) ≡ text
spelled text u = each_encoded (chars text) ∙ encodes-chars text u

kept_bytes : (text : List ℕ) → IsUtf8 text → list_all is_kept text ≡ true → IsKept text
kept_bytes text u h = kept_by encode_utf8 bytes_show (chars text) (ap (list_all is_kept) (spelled text u) ∙ h)

-- a text as it is written, escaped or not
pub kept_text : (raw : Bool) (text : List ℕ) → IsUtf8 text → list_all is_kept (if raw then text else escaped_text text) ≡ true → IsKept text
kept_text true text u h = kept_bytes text u h
kept_text false text u h = kept_by text_char text_shows (chars text) h

-- ---- comments

prefix_all : (test : ℕ → Bool) (word cs : List ℕ) → begins_with eqb word cs ≡ true → list_all test cs ≡ true → list_all test word ≡ true
prefix_all test [] cs h k = refl
prefix_all test (w ∷ word) [] h k = absurd (true≢false (sym h))
prefix_all test (w ∷ word) (c ∷ cs) h k =
    let a : (eqb w c ≡ true) × (begins_with eqb word cs ≡ true) = and_parts (eqb w c) (begins_with eqb word cs) h in
    let b : (test c ≡ true) × (list_all test cs ≡ true) = and_parts (test c) (list_all test cs) k in
    both_true (ap test (eqb-true w c a.0) ∙ b.0) (prefix_all test word cs a.1 b.1)

no_begin : (test : ℕ → Bool) (word cs : List ℕ) → list_all test word ≡ false → list_all test cs ≡ true → begins_with eqb word cs ≡ false
no_begin test word cs bad k = by_test (begins_with eqb word cs) refl
  where
    by_test : (x : Bool) → begins_with eqb word cs ≡ x → x ≡ false
    by_test true e = absurd (true≢false (sym (prefix_all test word cs e k) ∙ bad))
    by_test false e = refl

either : (x y : Bool) → x ≡ false → y ≡ false → (x || y) ≡ false
either true y h k = h
either false y h k = k

no_word : (test : ℕ → Bool) (word cs : List ℕ) → list_all test word ≡ false → list_all test cs ≡ true → contains_word eqb word cs ≡ false
no_word test word [] bad k = no_begin test word [] bad k
no_word test word (c ∷ cs) bad k =
    either (begins_with eqb word (c ∷ cs)) (contains_word eqb word cs) (no_begin test word (c ∷ cs) bad k)
    (no_word test word cs bad (and_parts (test c) (list_all test cs) k).1)

abbrev no_greater : ℕ → Bool
no_greater c = not (62 == c)

greater_shown : list_all (λ b. not (b == 62)) (encode_utf8 62) ≡ false
unfolding encode
greater_shown = refl

-- a text without `>` ends no comment
pub comment_kept : (text : List ℕ) → IsUtf8 text → list_all is_kept text ≡ true → list_all (λ b. not (b == 62)) text ≡ true → is_comment_text (chars text) ≡ true
comment_kept text u h k =
    let cs : List ℕ = chars text in
    let none : list_all no_greater cs ≡ true = lacks_char 62 (λ b. not (b == 62)) encode_utf8 greater_shown cs (ap (list_all (λ b. not (b == 62))) (spelled text u) ∙ k) in
    both_true (kept_bytes text u h) (ap not (
    either (begins_with eqb (codes ">") cs || begins_with eqb (codes "->") cs || contains_word eqb (codes "-->") cs) (contains_word eqb (codes "--!>") cs)
    (either (begins_with eqb (codes ">") cs || begins_with eqb (codes "->") cs) (contains_word eqb (codes "-->") cs)
    (either (begins_with eqb (codes ">") cs) (begins_with eqb (codes "->") cs) (no_begin no_greater (codes ">") cs refl none) (no_begin no_greater (codes "->") cs refl none))
    (no_word no_greater (codes "-->") cs refl none)) (no_word no_greater (codes "--!>") cs refl none)
    ))

-- ---- raw texts

close_behind : (xs ys : List ℕ) → has_close (xs ++ ys) ≡ false → has_close ys ≡ false
close_behind [] ys h = h
close_behind (x ∷ xs) ys h = close_behind xs ys (or_parts (x == 60 && begins_close (xs ++ ys)) (has_close (xs ++ ys)) h).1

close_next : (cs : List ℕ) → begins_close (encode_utf8_all cs) ≡ false → begins_close cs ≡ false
unfolding encode
close_next [] h = refl
close_next (d ∷ ds) h = either (d == 47) (d == 33) (by_slash (d == 47) refl) (by_mark (d == 33) refl)
  where
    by_slash : (x : Bool) → (d == 47) ≡ x → x ≡ false
    by_slash true e = absurd (true≢false (subst (λ c. begins_close (encode_utf8_all (c ∷ ds)) ≡ false) (eqb-true d 47 e) h))
    by_slash false e = refl

    by_mark : (x : Bool) → (d == 33) ≡ x → x ≡ false
    by_mark true e = absurd (true≢false (subst (λ c. begins_close (encode_utf8_all (c ∷ ds)) ≡ false) (eqb-true d 33 e) h))
    by_mark false e = refl

-- what the bytes do not contain the characters do not
close_chars : (cs : List ℕ) → has_close (encode_utf8_all cs) ≡ false → has_close cs ≡ false
unfolding encode
close_chars [] h = refl
close_chars (c ∷ cs) h = either (c == 60 && begins_close cs) (has_close cs) (by_less (c == 60) refl) (close_chars cs (close_behind (encode_utf8 c) (encode_utf8_all cs) h))
  where
    by_less : (x : Bool) → (c == 60) ≡ x → (x && begins_close cs) ≡ false
    by_less true e = close_next cs (or_parts (begins_close (encode_utf8_all cs)) (has_close (encode_utf8_all cs)) (subst (λ d. has_close (encode_utf8_all (d ∷ cs)) ≡ false) (eqb-true c 60 e) h)).0
    by_less false e = refl

-- a word that begins with `<` and `/` or `!`
word_lacks : (same : ℕ → ℕ → Bool) (m : ℕ) → ((c : ℕ) → same 60 c ≡ true → 60 ≡ c) → ((d : ℕ) → same m d ≡ true → m ≡ d) → ((rest : List ℕ) → begins_close (m ∷ rest) ≡ true) →
    (more cs : List ℕ) → has_close cs ≡ false → contains_word same (60 ∷ m ∷ more) cs ≡ false
word_lacks same m less next closes more [] h = refl
word_lacks same m less next closes more (c ∷ cs) h =
    let parts : ((c == 60 && begins_close cs) ≡ false) × (has_close cs ≡ false) = or_parts (c == 60 && begins_close cs) (has_close cs) h in
    either (begins_with same (60 ∷ m ∷ more) (c ∷ cs)) (contains_word same (60 ∷ m ∷ more) cs) (by_test (same 60 c && begins_with same (m ∷ more) cs) refl parts.0)
    (word_lacks same m less next closes more cs parts.1)
  where
    by_rest : (ds : List ℕ) → begins_with same (m ∷ more) ds ≡ true → (c == 60 && begins_close ds) ≡ false → c ≡ 60 → true ≡ false
    by_rest [] b k e = sym b
    by_rest (d ∷ ds) b k e =
        let is : m ≡ d = next d (and_parts (same m d) (begins_with same more ds) b).0 in
        sym (closes ds) ∙ ap (λ x. begins_close (x ∷ ds)) is ∙ subst (λ x. (x == 60 && begins_close (d ∷ ds)) ≡ false) e k

    by_test : (x : Bool) → (same 60 c && begins_with same (m ∷ more) cs) ≡ x → (c == 60 && begins_close cs) ≡ false → x ≡ false
    by_test true b k =
        let p : (same 60 c ≡ true) × (begins_with same (m ∷ more) cs ≡ true) = and_parts (same 60 c) (begins_with same (m ∷ more) cs) b in
        by_rest cs p.1 k (sym (less c p.0))
    by_test false b k = refl

-- only a character before the small letters has it as its small form
lower_is : (k c : ℕ) → k < 97 → eqb k (to_ascii_lowercase c) ≡ true → k ≡ c
lower_is k c low h = by_tests (nat_lt c 65) (nat_lt c 91) refl h
  where
    by_tests : (x y : Bool) → nat_lt c 65 ≡ x → eqb k (cond x c (cond y (c + 32) c)) ≡ true → k ≡ c
    by_tests true y e h = eqb-true k c h
    by_tests false true e h =
        let high : 65 ≤ c = ltb-false c 65 e in
        let is : k ≡ c + 32 = eqb-true k (c + 32) h in
        absurd (omega arith)
    by_tests false false e h = eqb-true k c h

-- a raw text without an end tag or a declaration
pub raw_lacks : (kind : TextKind) (name text : List ℕ) → IsUtf8 text → has_close text ≡ false → lacks_end kind name (chars text) ≡ true
raw_lacks kind name text u h = by_kind kind
  where
    cs : has_close (chars text) ≡ false
    cs = close_chars (chars text) (ap has_close (encodes-chars text u) ∙ h)

    ends : contains_word same_case_less (codes "</" ++ name) (chars text) ≡ false
    ends = word_lacks same_case_less 47 (λ c k. lower_is 60 c (ltb-true 60 97 refl) k) (λ d k. lower_is 47 d (ltb-true 47 97 refl) k) (λ rest. refl) name (chars text) cs

    by_kind : (k : TextKind) → lacks_end k name (chars text) ≡ true
    by_kind Script = ap not (either (contains_word same_case_less (codes "</" ++ name) (chars text)) (contains_word eqb (codes "<!--") (chars text)) ends
        (word_lacks eqb 33 (λ c k. eqb-true 60 c k) (λ d k. eqb-true 33 d k) (λ rest. refl) (45 ∷ 45 ∷ []) (chars text) cs))
    by_kind Rawtext = ap not ends
    by_kind Rcdata = ap not ends
