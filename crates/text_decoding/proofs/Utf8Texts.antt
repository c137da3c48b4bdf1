-- Texts in UTF-8, as the decoder reads them.
use Rattle.std.proofs.Common.{◌≡◌, ℕ, ◌<◌, ◌≤◌, ◌+◌, ◌-◌, ◌*◌, ◌/◌, ◌%◌, List, [], ◌∷◌, ◌++◌, Bool, true, false, cond, ◌==◌, nat_lt, map, ◌⊎◌, inl, inr, eqb-true, refl, sym, ap, ◌∙◌, append_assoc, arith, Some, None, if◌then◌else◌}
use Rattle.std.proofs.lemmas.Bool.Decides.{nat_tests}
use Rattle.std.proofs.lemmas.Bool.{and_parts, cases_lt}
use Rattle.std.proofs.lemmas.Str.{chars-encodes, encode_ascii}
use Rattle.std.specs.Str.{IsUtf8, chars, encode_utf8_all}
use lib.Utf8.{encode, scalar, scalars, scalar_cases}
use Rattle.text_decoding.specs.declared.utf8.Utf8State.{Utf8State}
use Rattle.text_decoding.specs.Utf8.{alone, at_first, begun, begun_by, behind_byte, character, characters, code_with, fresh, is_between, or_alone}

inside : (least greatest byte : ℕ) → least ≤ byte → byte ≤ greatest → is_between least greatest byte ≡ true
inside least greatest byte h k = grind (arith, nat_tests)

above : (least greatest byte : ℕ) → greatest < byte → is_between least greatest byte ≡ false
above least greatest byte h = grind (arith, nat_tests)

below : (least greatest byte : ℕ) → byte < least → is_between least greatest byte ≡ false
below least greatest byte h = grind (arith, nat_tests)

is_character : (code c : ℕ) → code ≡ c → scalar c ≡ true → character code ≡ Some c
unfolding character
is_character code c is h = ap (λ n. cond (scalar n) (Some n) None) is ∙ ap (λ t. cond t (Some c) None) h

at_start : (byte : ℕ) (rest : List ℕ) → characters fresh (byte ∷ rest) ≡ at_first byte (λ after. characters after rest)
unfolding characters
at_start byte rest = refl

-- a byte that may come next, of which one or more follow, and the last one
pub more : (state : Utf8State) (byte : ℕ) (rest : List ℕ) → (state.needed == 0) ≡ false → (state.needed == 1) ≡ false → is_between state.lower state.upper byte ≡ true →
    characters state (byte ∷ rest) ≡ characters (behind_byte state byte) rest
unfolding characters
more state byte rest h k l = rw (h, l, k) refl

pub last : (state : Utf8State) (byte : ℕ) (rest : List ℕ) → (state.needed == 0) ≡ false → (state.needed == 1) ≡ true → is_between state.lower state.upper byte ≡ true →
    characters state (byte ∷ rest) ≡ character (code_with state byte) ∷ characters fresh rest
unfolding characters
last state byte rest h k l = rw (h, l, k) refl

ascii : (c : ℕ) (rest : List ℕ) → c < 128 → characters fresh (encode c ++ rest) ≡ Some c ∷ characters fresh rest
ascii c rest h =
    let none : begun_by c ≡ None = rw (below 0xC2 0xDF c (omega arith), below 0xE0 0xEF c (omega arith), below 0xF0 0xF4 c (omega arith)) refl in
    let itself : alone c ≡ Some c = grind (arith, nat_tests) in
    ap (λ e. characters fresh (e ++ rest)) (encode_ascii c h) ∙ at_start c rest
    ∙ ap (λ t. or_alone t c (λ after. characters after rest)) none ∙ ap (λ t. t ∷ characters fresh rest) itself

encode_two : (c : ℕ) → 128 ≤ c → c < 2048 → encode c ≡ (192 + c / 64) ∷ (128 + c % 64) ∷ []
unfolding encode
encode_two c h k = let a : nat_lt c 128 ≡ false = grind (arith, nat_tests) in let b : nat_lt c 2048 ≡ true = grind (arith, nat_tests) in rw (a, b) refl

two : (c : ℕ) (rest : List ℕ) → 128 ≤ c → c < 2048 → scalar c ≡ true → characters fresh (encode c ++ rest) ≡ Some c ∷ characters fresh rest
two c rest h k s =
    let found : begun_by (192 + c / 64) ≡ Some (begun 1 (192 + c / 64 - 192) 0x80 0xBF) = rw (inside 0xC2 0xDF (192 + c / 64) (omega arith) (omega arith)) refl in
    ap (λ e. characters fresh (e ++ rest)) (encode_two c h k) ∙ at_start (192 + c / 64) ((128 + c % 64) ∷ rest)
    ∙ ap (λ t. or_alone t (192 + c / 64) (λ after. characters after ((128 + c % 64) ∷ rest))) found
    ∙ last (begun 1 (192 + c / 64 - 192) 0x80 0xBF) (128 + c % 64) rest refl refl (inside 0x80 0xBF (128 + c % 64) (omega arith) (omega arith))
    ∙ ap (λ t. t ∷ characters fresh rest) (is_character ((192 + c / 64 - 192) % 0x8000 * 64 + (128 + c % 64 - 128)) c (omega arith) s)

encode_three : (c : ℕ) → 2048 ≤ c → c < 65536 → encode c ≡ (224 + c / 4096) ∷ (128 + c / 64 % 64) ∷ (128 + c % 64) ∷ []
unfolding encode
encode_three c h k =
    let a : nat_lt c 128 ≡ false = grind (arith, nat_tests) in let b : nat_lt c 2048 ≡ false = grind (arith, nat_tests) in
    let d : nat_lt c 65536 ≡ true = grind (arith, nat_tests) in rw (a, b, d) refl

-- the bounds of the second byte
chosen : (t : Bool) (x y b : ℕ) → (t ≡ true → x ≤ b) → y ≤ b → (if t then x else y) ≤ b
chosen true x y b h k = h refl
chosen false x y b h k = k

chosen_upper : (t : Bool) (x y b : ℕ) → (t ≡ true → b ≤ x) → b ≤ y → b ≤ (if t then x else y)
chosen_upper true x y b h k = h refl
chosen_upper false x y b h k = k

three : (c : ℕ) (rest : List ℕ) → 2048 ≤ c → c < 65536 → (c < 55296) ⊎ (57344 ≤ c) → scalar c ≡ true → characters fresh (encode c ++ rest) ≡ Some c ∷ characters fresh rest
three c rest h k r s =
    let found : begun_by (224 + c / 4096) ≡ Some (begun 2 (224 + c / 4096 - 224) (if (224 + c / 4096) == 0xE0 then 0xA0 else 0x80) (if (224 + c / 4096) == 0xED then 0x9F else 0xBF)) =
    rw (above 0xC2 0xDF (224 + c / 4096) (omega arith), inside 0xE0 0xEF (224 + c / 4096) (omega arith) (omega arith)) refl in
    let low : (if (224 + c / 4096) == 0xE0 then 0xA0 else 0x80) ≤ 128 + c / 64 % 64 =
    chosen ((224 + c / 4096) == 0xE0) 0xA0 0x80 (128 + c / 64 % 64) (λ e. let f = eqb-true (224 + c / 4096) 0xE0 e in omega arith) (omega arith) in
    let high : 128 + c / 64 % 64 ≤ (if (224 + c / 4096) == 0xED then 0x9F else 0xBF) =
    chosen_upper ((224 + c / 4096) == 0xED) 0x9F 0xBF (128 + c / 64 % 64)
    (λ e. let f = eqb-true (224 + c / 4096) 0xED e in elim r [ inl a ↦ omega arith | inr b ↦ omega arith ]) (omega arith) in
    ap (λ e. characters fresh (e ++ rest)) (encode_three c h k) ∙ at_start (224 + c / 4096) ((128 + c / 64 % 64) ∷ (128 + c % 64) ∷ rest)
    ∙ ap (λ t. or_alone t (224 + c / 4096) (λ after. characters after ((128 + c / 64 % 64) ∷ (128 + c % 64) ∷ rest))) found
    ∙ more (begun 2 (224 + c / 4096 - 224) (if (224 + c / 4096) == 0xE0 then 0xA0 else 0x80) (if (224 + c / 4096) == 0xED then 0x9F else 0xBF)) (128 + c / 64 % 64)
    ((128 + c % 64) ∷ rest) refl refl (inside _ _ (128 + c / 64 % 64) low high)
    ∙ last (begun 1 ((224 + c / 4096 - 224) % 0x8000 * 64 + (128 + c / 64 % 64 - 128)) 0x80 0xBF) (128 + c % 64) rest refl refl (inside 0x80 0xBF (128 + c % 64) (omega arith) (omega arith))
    ∙ ap (λ t. t ∷ characters fresh rest)
    (is_character (((224 + c / 4096 - 224) % 0x8000 * 64 + (128 + c / 64 % 64 - 128)) % 0x8000 * 64 + (128 + c % 64 - 128)) c (omega arith) s)

encode_four : (c : ℕ) → 65536 ≤ c → encode c ≡ (240 + c / 262144) ∷ (128 + c / 4096 % 64) ∷ (128 + c / 64 % 64) ∷ (128 + c % 64) ∷ []
unfolding encode
encode_four c h =
    let a : nat_lt c 128 ≡ false = grind (arith, nat_tests) in let b : nat_lt c 2048 ≡ false = grind (arith, nat_tests) in
    let d : nat_lt c 65536 ≡ false = grind (arith, nat_tests) in rw (a, b, d) refl

four : (c : ℕ) (rest : List ℕ) → 65536 ≤ c → c < 1114112 → scalar c ≡ true → characters fresh (encode c ++ rest) ≡ Some c ∷ characters fresh rest
four c rest h k s =
    let found : begun_by (240 + c / 262144) ≡ Some (begun 3 (240 + c / 262144 - 240) (if (240 + c / 262144) == 0xF0 then 0x90 else 0x80) (if (240 + c / 262144) == 0xF4 then 0x8F else 0xBF)) =
    rw (above 0xC2 0xDF (240 + c / 262144) (omega arith), above 0xE0 0xEF (240 + c / 262144) (omega arith), inside 0xF0 0xF4 (240 + c / 262144) (omega arith) (omega arith)) refl in
    let low : (if (240 + c / 262144) == 0xF0 then 0x90 else 0x80) ≤ 128 + c / 4096 % 64 =
    chosen ((240 + c / 262144) == 0xF0) 0x90 0x80 (128 + c / 4096 % 64) (λ e. let f = eqb-true (240 + c / 262144) 0xF0 e in omega arith) (omega arith) in
    let high : 128 + c / 4096 % 64 ≤ (if (240 + c / 262144) == 0xF4 then 0x8F else 0xBF) =
    chosen_upper ((240 + c / 262144) == 0xF4) 0x8F 0xBF (128 + c / 4096 % 64) (λ e. let f = eqb-true (240 + c / 262144) 0xF4 e in omega arith) (omega arith) in
    ap (λ e. characters fresh (e ++ rest)) (encode_four c h) ∙ at_start (240 + c / 262144) ((128 + c / 4096 % 64) ∷ (128 + c / 64 % 64) ∷ (128 + c % 64) ∷ rest)
    ∙ ap (λ t. or_alone t (240 + c / 262144) (λ after. characters after ((128 + c / 4096 % 64) ∷ (128 + c / 64 % 64) ∷ (128 + c % 64) ∷ rest))) found
    ∙ more (begun 3 (240 + c / 262144 - 240) (if (240 + c / 262144) == 0xF0 then 0x90 else 0x80) (if (240 + c / 262144) == 0xF4 then 0x8F else 0xBF)) (128 + c / 4096 % 64)
    ((128 + c / 64 % 64) ∷ (128 + c % 64) ∷ rest) refl refl (inside _ _ (128 + c / 4096 % 64) low high)
    ∙ more (begun 2 ((240 + c / 262144 - 240) % 0x8000 * 64 + (128 + c / 4096 % 64 - 128)) 0x80 0xBF) (128 + c / 64 % 64) ((128 + c % 64) ∷ rest) refl refl
    (inside 0x80 0xBF (128 + c / 64 % 64) (omega arith) (omega arith))
    ∙ last (begun 1 (((240 + c / 262144 - 240) % 0x8000 * 64 + (128 + c / 4096 % 64 - 128)) % 0x8000 * 64 + (128 + c / 64 % 64 - 128)) 0x80 0xBF) (128 + c % 64) rest refl refl
    (inside 0x80 0xBF (128 + c % 64) (omega arith) (omega arith))
    ∙ ap (λ t. t ∷ characters fresh rest)
    (is_character ((((240 + c / 262144 - 240) % 0x8000 * 64 + (128 + c / 4096 % 64 - 128)) % 0x8000 * 64 + (128 + c / 64 % 64 - 128)) % 0x8000 * 64 + (128 + c % 64 - 128)) c (omega arith) s)

low_or_high : (c : ℕ) → (c < 55296) ⊎ ((57344 ≤ c) × (c < 1114112)) → (c < 55296) ⊎ (57344 ≤ c)
low_or_high c (inl h) = inl h
low_or_high c (inr h) = inr h.0

below_end : (c : ℕ) → (c < 55296) ⊎ ((57344 ≤ c) × (c < 1114112)) → c < 1114112
below_end c (inl h) = omega arith
below_end c (inr h) = h.1

one : (c : ℕ) (rest : List ℕ) → scalar c ≡ true → characters fresh (encode c ++ rest) ≡ Some c ∷ characters fresh rest
one c rest s =
    elim (cases_lt c 128) [
      | inl a ↦ ascii c rest a
      | inr a ↦ elim (cases_lt c 2048) [
        | inl b ↦ two c rest a b s
        | inr b ↦ elim (cases_lt c 65536) [
          | inl d ↦ three c rest b d (low_or_high c (scalar_cases c s)) s
          | inr d ↦ four c rest d (below_end c (scalar_cases c s)) s
        ]
      ]
    ]

all : (cs rest : List ℕ) → scalars cs ≡ true → characters fresh (encode_utf8_all cs ++ rest) ≡ map Some cs ++ characters fresh rest
all [] rest s = refl
all (c ∷ cs) rest s =
    ap (characters fresh) (append_assoc (encode c) (encode_utf8_all cs) rest) ∙ one c (encode_utf8_all cs ++ rest) (and_parts (scalar c) (scalars cs) s).0
    ∙ ap (λ r. Some c ∷ r) (all cs rest (and_parts (scalar c) (scalars cs) s).1)

-- a text gives its characters, whatever follows
pub text : (bs rest : List ℕ) → IsUtf8 bs → characters fresh (bs ++ rest) ≡ map Some (chars bs) ++ characters fresh rest
text bs rest (cs, (s, is)) =
    ap (λ b. characters fresh (b ++ rest)) (sym is) ∙ all cs rest s
    ∙ ap (λ r. map Some r ++ characters fresh rest) (sym (chars-encodes cs s) ∙ ap chars is)
