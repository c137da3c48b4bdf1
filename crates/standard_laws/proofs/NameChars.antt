-- The characters of names.
use Rattle.std.specs.Prelude.{◌≡◌, ◌≢◌, ◌<◌, ◌≤◌, ℕ, Bool, true, false, ◌==◌, ◌&&◌, nat_le, List, [], ◌∷◌, ◌++◌, bytes_eq, encode_utf8, refl}
use Rattle.std.proofs.Common.{inl, inr}
use Rattle.std.specs.Char.{is_ascii_lowercase, to_ascii_lowercase}
use Rattle.std.specs.List.{list_all}
use Rattle.std.specs.Str.{chars, encode_utf8_all, IsUtf8}
use Rattle.std.specs.Cmp.Derive.{both_true}
use Rattle.std.proofs.lemmas.Bool.{and_parts, cases_lt, ne_eqb, or_cases, true≢false}
use Rattle.std.proofs.lemmas.List.Folds.{list_all-append}
use Rattle.std.proofs.lemmas.Slice.Eq.{bytes_eq-Decides}
use Rattle.std.proofs.lemmas.Str.{chars_past_char, encode_ascii}
use mathlib.Core.Path.{◌∙◌, sym, ap, subst}
use native.Mathlib.Omega.{arith}
use Rattle.dom_nodes.specs.Words.{is_among}
use Rattle.dom_markup.specs.Bytes.{folded, is_letter, is_name_byte}
use Rattle.dom_markup.specs.Markup.{IsTagName}
use Rattle.standard_tokens.specs.PlainMarkup.{is_name, is_name_char, is_tag_name}
use Rattle.standard_laws.proofs.Encodings.{encodes_chars}

-- ---- bytes

lower_is_low : (b : ℕ) → to_ascii_lowercase b ≡ b → (nat_le 65 b && nat_le b 90) ≡ false
lower_is_low b h = grind arith

byte_is_char : (b : ℕ) → is_name_byte b ≡ true → to_ascii_lowercase b ≡ b → is_name_char b ≡ true
byte_is_char b h low = let no_upper : (nat_le 65 b && nat_le b 90) ≡ false = lower_is_low b low in grind arith

-- a byte that passes a test is none that does not
differs : (test : ℕ → Bool) (b k : ℕ) → test b ≡ true → test k ≡ false → (b == k) ≡ false
differs test b k passes fails = ne_eqb b k (λ e. true≢false (sym passes ∙ ap test e ∙ fails))

letter_is_byte : (b : ℕ) → is_letter b ≡ true → is_name_byte b ≡ true
letter_is_byte b h =
    rw (
      differs is_letter b 9 h refl,
      differs is_letter b 10 h refl,
      differs is_letter b 12 h refl,
      differs is_letter b 13 h refl,
      differs is_letter b 32 h refl,
      differs is_letter b 47 h refl,
      differs is_letter b 62 h refl,
      differs is_letter b 60 h refl,
      differs is_letter b 61 h refl,
      differs is_letter b 34 h refl,
      differs is_letter b 39 h refl,
      differs is_letter b 0 h refl,
    ) refl

letter_is_lower : (b : ℕ) → is_letter b ≡ true → to_ascii_lowercase b ≡ b → is_ascii_lowercase b ≡ true
letter_is_lower b h low = let no_upper : (nat_le 65 b && nat_le b 90) ≡ false = lower_is_low b low in grind arith

letter_is_ascii : (b : ℕ) → is_letter b ≡ true → b < 128
letter_is_ascii b h = grind arith

high_is_name_char : (c : ℕ) → 128 ≤ c → is_name_char c ≡ true
high_is_name_char c h = grind arith

-- all bytes are those of names, in lower case
bytes_are_chars : (name : List ℕ) → list_all is_name_byte name ≡ true → folded name ≡ name → list_all is_name_char name ≡ true
bytes_are_chars [] h low = refl
bytes_are_chars (b ∷ name) h low =
    let parts : (is_name_byte b ≡ true) × (list_all is_name_byte name ≡ true) = and_parts (is_name_byte b) (list_all is_name_byte name) h in
    let head : to_ascii_lowercase b ≡ b = cc in
    let tail : folded name ≡ name = cc in
    both_true (byte_is_char b parts.0 head) (bytes_are_chars name parts.1 tail)

-- ---- characters

one_char : (c : ℕ) → list_all is_name_char (encode_utf8 c) ≡ true → is_name_char c ≡ true
one_char c h =
    elim (cases_lt c 128) [
      | inl low ↦ (and_parts (is_name_char c) true (subst (λ bytes. list_all is_name_char bytes ≡ true) (encode_ascii c low) h)).0
      | inr high ↦ high_is_name_char c high
    ]

all_chars : (cs : List ℕ) → list_all is_name_char (encode_utf8_all cs) ≡ true → list_all is_name_char cs ≡ true
all_chars [] h = refl
all_chars (c ∷ cs) h =
    let parts : (list_all is_name_char (encode_utf8 c) ≡ true) × (list_all is_name_char (encode_utf8_all cs) ≡ true) =
    and_parts (list_all is_name_char (encode_utf8 c)) (list_all is_name_char (encode_utf8_all cs)) (sym (list_all-append is_name_char (encode_utf8 c) (encode_utf8_all cs)) ∙ h) in
    both_true (one_char c parts.0) (all_chars cs parts.1)

chars_of_name : (name : List ℕ) → IsUtf8 name → list_all is_name_byte name ≡ true → folded name ≡ name → list_all is_name_char (chars name) ≡ true
chars_of_name name utf8 h low =
    all_chars (chars name) (ap (list_all is_name_char) (encodes_chars name utf8).same ∙ bytes_are_chars name h low)

some_chars : (name cs : List ℕ) → encode_utf8_all cs ≡ name → name ≢ [] → list_all is_name_char cs ≡ true → is_name cs ≡ true
some_chars name [] same some h = absurd (some (sym same))
some_chars name (c ∷ cs) same some h = h

-- a name of an attribute or of a doctype
pub name_chars : (name : List ℕ) → IsUtf8 name → name ≢ [] → list_all is_name_byte name ≡ true → folded name ≡ name → is_name (chars name) ≡ true
name_chars name utf8 some h low = some_chars name (chars name) (encodes_chars name utf8).same some (chars_of_name name utf8 h low)

-- the name of a tag
pub tag_name_chars : (name : List ℕ) → IsUtf8 name → IsTagName name → folded name ≡ name → is_tag_name (chars name) ≡ true
tag_name_chars [] utf8 named low = absurd named
tag_name_chars (b ∷ name) utf8 named low =
    let head : to_ascii_lowercase b ≡ b = cc in
    let ascii : b ∷ name ≡ encode_utf8 b ++ name = ap (λ bytes. bytes ++ name) (sym (encode_ascii b (letter_is_ascii b named.0))) in
    let is : chars (b ∷ name) ≡ b ∷ chars name = chars_past_char (b ∷ name) name b utf8 ascii in
    let all : list_all is_name_char (b ∷ chars name) ≡ true = sym (ap (list_all is_name_char) is) ∙ chars_of_name (b ∷ name) utf8 (both_true (letter_is_byte b named.0) named.1) low in
    let parts : (is_name_char b ≡ true) × (list_all is_name_char (chars name) ≡ true) = and_parts (is_name_char b) (list_all is_name_char (chars name)) all in
    subst (λ cs. is_tag_name cs ≡ true) (sym is) (both_true (letter_is_lower b named.0 head) parts.1)

-- ---- lists of names

-- what is so of each name of a list is so of a name that is among them
pub of_each : (test : List ℕ → Bool) (name : List ℕ) (names : List (List ℕ)) → list_all test names ≡ true → is_among name names ≡ true → test name ≡ true
of_each test name [] h among = cc
of_each test name (one ∷ names) h among =
    let parts : (test one ≡ true) × (list_all test names ≡ true) = and_parts (test one) (list_all test names) h in
    elim (or_cases (bytes_eq one name) (is_among name names) among) [
      | inl same ↦ subst (λ n. test n ≡ true) ((bytes_eq-Decides one name).0 same) parts.0
      | inr later ↦ of_each test name names parts.1 later
    ]
