-- The bytes of texts, and their characters: where a text may be cut, and what is so of the characters if it is so of the bytes.
use Rattle.std.specs.Prelude.{◌≡◌, ◌<◌, ◌≤◌, ℕ, suc, Bool, true, false, nat_le, List, [], ◌∷◌, ◌++◌, length, get_or, map, encode_utf8, refl}
use Rattle.std.specs.Char.{to_ascii_lowercase}
use Rattle.std.specs.List.{list_all}
use Rattle.std.specs.Str.{IsUtf8, all_scalars, chars, encode_utf8_all}
use Rattle.std.specs.Cmp.Derive.{both_true}
use Rattle.std.proofs.Common.{arith, inl, inr}
use Rattle.std.proofs.Math.Utf8.{encode}
use Rattle.std.proofs.lemmas.Bool.{and_parts, cases_lt}
use Rattle.std.proofs.lemmas.List.{append-nil}
use Rattle.std.proofs.lemmas.List.Folds.{list_all-append}
use Rattle.std.proofs.lemmas.Str.{IsUtf8-nil, IsUtf8-past_char, chars-append, chars_past_char, encode_ascii, inside_one, len_utf8_bounds, length-encode}
use Rattle.std.proofs.lemmas.Str.Ascii.{lowercase_ascii, lowercase_is}
use mathlib.Core.Path.{◌∙◌, sym, ap, subst}
use lib.Utf8.{low_scalar, scalar}
use Rattle.dom_markup.specs.Bytes.{folded}
use Rattle.dom_markup.proofs.plain.PlainUtf8.{AsciiFirst}
use Rattle.standard_laws.specs.SpelledMarkup.{lowered}
use Rattle.standard_laws.proofs.Encodings.{Encodes, chars_are, encodes_both, encodes_chars, nothing}
use Rattle.standard_laws.proofs.Utf8Pieces.{utf8_before, utf8_behind}

-- ---- where a text may be cut

pub record Cut (front after : List ℕ) : Type 0 where
  pub own : IsUtf8 front
  pub rest : IsUtf8 after
  pub both : chars (front ++ after) ≡ chars front ++ chars after

pub cut : (front after : List ℕ) → IsUtf8 (front ++ after) → AsciiFirst after → Cut front after
cut front [] utf8 first =
    let own : IsUtf8 front = subst IsUtf8 (append-nil front) utf8 in
    record { own = own; rest = IsUtf8-nil; both = chars-append front [] own }
cut front (b ∷ bs) utf8 first =
    let own : IsUtf8 front = utf8_before front b bs first utf8 in
    record { own = own; rest = utf8_behind front (b ∷ bs) utf8 own; both = chars-append front (b ∷ bs) own }

-- behind an ASCII byte
pub record Past (b : ℕ) (rest : List ℕ) : Type 0 where
  pub chars : chars (b ∷ rest) ≡ b ∷ chars rest
  pub utf8 : IsUtf8 rest

pub past : (b : ℕ) (rest : List ℕ) → b < 128 → IsUtf8 (b ∷ rest) → Past b rest
past b rest low utf8 =
    let is : b ∷ rest ≡ encode b ++ rest = sym (ap (λ l. l ++ rest) (encode_ascii b low)) in
    record { chars = chars_past_char (b ∷ rest) rest b utf8 is; utf8 = IsUtf8-past_char (b ∷ rest) rest b utf8 is }

-- behind ASCII bytes
pub record PastAll (front rest : List ℕ) : Type 0 where
  pub chars : chars (front ++ rest) ≡ front ++ chars rest
  pub utf8 : IsUtf8 rest

pub past_all : (test : ℕ → Bool) → ((b : ℕ) → test b ≡ true → b < 128) → (front rest : List ℕ) → list_all test front ≡ true → IsUtf8 (front ++ rest) → PastAll front rest
past_all test low [] rest all utf8 = record { chars = refl; utf8 = utf8 }
past_all test low (b ∷ front) rest all utf8 =
    let parts : (test b ≡ true) × (list_all test front ≡ true) = and_parts (test b) (list_all test front) all in
    let p : Past b (front ++ rest) = past b (front ++ rest) (low b parts.0) utf8 in
    let q : PastAll front rest = past_all test low front rest parts.1 p.utf8 in
    record { chars = p.chars ∙ ap (λ cs. b ∷ cs) q.chars; utf8 = q.utf8 }

-- ---- the first byte of a character

pub record First (c : ℕ) : Type 0 where
  pub byte : ℕ
  pub more : List ℕ
  pub is : encode_utf8 c ≡ byte ∷ more
  pub low : c < 128 → byte ≡ c
  pub high : 128 ≤ c → 128 ≤ byte

-- each byte of a character past ASCII is past ASCII
byte_high : (c k : ℕ) → 128 ≤ c → k < length (encode_utf8 c) → 128 ≤ get_or (encode_utf8 c) k 0
byte_high c k high below = elim (cases_lt (get_or (encode_utf8 c) k 0) 128) [
  | inl small ↦
      (let same : c ≡ get_or (encode_utf8 c) k 0 = inside_one c [] (encode_utf8 c) k (sym (append-nil (encode_utf8 c))) below small in
      absurd (omega (arith, same)))
  | inr large ↦ large
]

from_get : (test : ℕ → Bool) (xs : List ℕ) → ((k : ℕ) → k < length xs → test (get_or xs k 0) ≡ true) → list_all test xs ≡ true
from_get test [] each = refl
from_get test (x ∷ xs) each = both_true (each 0 (omega arith)) (from_get test xs (λ k below. each (suc k) (omega arith)))

pub all_high : (test : ℕ → Bool) → ((b : ℕ) → 128 ≤ b → test b ≡ true) → (c : ℕ) → 128 ≤ c → list_all test (encode_utf8 c) ≡ true
all_high test passes c high = from_get test (encode_utf8 c) (λ k below. passes _ (byte_high c k high below))

first_of : (c : ℕ) (bytes : List ℕ) → encode_utf8 c ≡ bytes → First c
first_of c [] is = absurd (omega (arith, length-encode c, (len_utf8_bounds c).0, ap length is))
first_of c (b ∷ bs) is = record {
  byte = b;
  more = bs;
  is = is;
  low = λ small. (let e : b ∷ bs ≡ c ∷ [] = sym is ∙ encode_ascii c small in cc);
  high = λ large. subst (λ (xs : List ℕ). 128 ≤ get_or xs 0 0) is (byte_high c 0 large (subst (λ (xs : List ℕ). 0 < length xs) (sym is) (omega arith)));
}

pub first : (c : ℕ) → First c
first c = first_of c (encode_utf8 c) refl

-- a test that only ASCII passes says of the first byte what it says of the character
pub first_same : (test : ℕ → Bool) → ((b : ℕ) → 128 ≤ b → test b ≡ false) → (c : ℕ) → test (first c).byte ≡ test c
first_same test fails c = elim (cases_lt c 128) [
  | inl small ↦ ap test ((first c).low small)
  | inr large ↦ fails (first c).byte ((first c).high large) ∙ sym (fails c large)
]

-- ---- tests of all characters

-- what is so of all bytes of a text is so of its characters, if it is so of ASCII characters, and of all others in any case
pub all_by : (p q : ℕ → Bool) → ((c : ℕ) → c < 128 → p c ≡ true → q c ≡ true) → ((c : ℕ) → 128 ≤ c → q c ≡ true) → (cs : List ℕ) → list_all p (encode_utf8_all cs) ≡ true → list_all q cs ≡ true
all_by p q small large [] h = refl
all_by p q small large (c ∷ cs) h =
    let parts : (list_all p (encode_utf8 c) ≡ true) × (list_all p (encode_utf8_all cs) ≡ true) =
    and_parts (list_all p (encode_utf8 c)) (list_all p (encode_utf8_all cs)) (sym (list_all-append p (encode_utf8 c) (encode_utf8_all cs)) ∙ h) in
    both_true (one parts.0) (all_by p q small large cs parts.1)
  where
    one : list_all p (encode_utf8 c) ≡ true → q c ≡ true
    one k = elim (cases_lt c 128) [
      | inl low ↦ small c low (and_parts (p c) true (subst (λ (bytes : List ℕ). list_all p bytes ≡ true) (encode_ascii c low) k)).0
      | inr high ↦ large c high
    ]

pub all_chars_by : (p q : ℕ → Bool) → ((c : ℕ) → c < 128 → p c ≡ true → q c ≡ true) → ((c : ℕ) → 128 ≤ c → q c ≡ true) → (bytes : List ℕ) → IsUtf8 bytes → list_all p bytes ≡ true →
    list_all q (chars bytes) ≡ true
all_chars_by p q small large bytes utf8 h = all_by p q small large (chars bytes) (ap (list_all p) (encodes_chars bytes utf8).same ∙ h)

-- ---- letters in lower case

lower_high : (xs : List ℕ) → list_all (λ b. nat_le 128 b) xs ≡ true → map to_ascii_lowercase xs ≡ xs
lower_high [] h = refl
lower_high (x ∷ xs) h =
    let parts : (nat_le 128 x ≡ true) × (list_all (λ b. nat_le 128 b) xs ≡ true) = and_parts (nat_le 128 x) (list_all (λ b. nat_le 128 b) xs) h in
    ap (λ y. y ∷ map to_ascii_lowercase xs) ((lowercase_is x).2 (past_z x parts.0)) ∙ ap (λ ys. x ∷ ys) (lower_high xs parts.1)
  where
    past_z : (b : ℕ) → nat_le 128 b ≡ true → 90 < b
    past_z b k = grind arith

high_passes : (b : ℕ) → 128 ≤ b → nat_le 128 b ≡ true
high_passes b h = grind arith

lower_one : (c : ℕ) → scalar c ≡ true → Encodes (to_ascii_lowercase c ∷ []) (map to_ascii_lowercase (encode_utf8 c))
lower_one c h = elim (cases_lt c 128) [
  | inl small ↦
      (let low : to_ascii_lowercase c < 128 = lowercase_ascii c small in
      record {
        scalars = both_true (low_scalar (to_ascii_lowercase c) (omega (arith, low))) refl;
        same = append-nil (encode_utf8 (to_ascii_lowercase c)) ∙ encode_ascii (to_ascii_lowercase c) low ∙ sym (ap (map to_ascii_lowercase) (encode_ascii c small));
      })
  | inr large ↦
      (let stays : to_ascii_lowercase c ≡ c = (lowercase_is c).2 (omega (arith, large)) in
      record {
        scalars = both_true (ap scalar stays ∙ h) refl;
        same = append-nil (encode_utf8 (to_ascii_lowercase c)) ∙ ap encode_utf8 stays ∙ sym (lower_high (encode_utf8 c) (all_high (λ b. nat_le 128 b) high_passes c large));
      })
]

map_both : (xs ys : List ℕ) → map to_ascii_lowercase (xs ++ ys) ≡ map to_ascii_lowercase xs ++ map to_ascii_lowercase ys
map_both [] ys = refl
map_both (x ∷ xs) ys = ap (λ zs. to_ascii_lowercase x ∷ zs) (map_both xs ys)

lower_all : (cs : List ℕ) → all_scalars cs ≡ true → Encodes (lowered cs) (folded (encode_utf8_all cs))
lower_all [] h = nothing
lower_all (c ∷ cs) h =
    let parts : (scalar c ≡ true) × (all_scalars cs ≡ true) = and_parts (scalar c) (all_scalars cs) h in
    subst (Encodes (lowered (c ∷ cs))) (sym (map_both (encode_utf8 c) (encode_utf8_all cs))) (encodes_both (lower_one c parts.0) (lower_all cs parts.1))

-- a name in lower case
pub lowered_encodes : (bytes : List ℕ) → IsUtf8 bytes → Encodes (lowered (chars bytes)) (folded bytes)
lowered_encodes bytes utf8 =
    let e : Encodes (chars bytes) bytes = encodes_chars bytes utf8 in
    subst (λ (bs : List ℕ). Encodes (lowered (chars bytes)) (folded bs)) e.same (lower_all (chars bytes) e.scalars)

pub lowered_chars : (bytes : List ℕ) → IsUtf8 bytes → chars (folded bytes) ≡ lowered (chars bytes)
lowered_chars bytes utf8 = chars_are (lowered_encodes bytes utf8)
