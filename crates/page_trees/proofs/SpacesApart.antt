-- White space at the beginning of a text, and nulls in it, by its characters and by their bytes.
use Rattle.std.proofs.Common.{◌≡◌, ◌≤◌, ◌<◌, ◌+◌, ◌/◌, ◌%◌, ℕ, zero, suc, Bool, true, false, cond, nat_lt, ◌&&◌, ◌||◌, not, List, [], ◌∷◌, ◌++◌, length, drop, take, refl, sym, ap, ◌∙◌, true≢false, arith, inl, inr, if◌then◌else◌}
use Rattle.std.specs.List.{list_all, list_any}
use Rattle.std.specs.Prelude.{encode_utf8_all, get_or, ◌==◌}
use Rattle.std.specs.Str.{IsCharBoundary, IsUtf8}
use lib.Utf8.{encode, scalars}
use Rattle.std.proofs.lemmas.Bool.{cases_Bool, cases_lt, ne_eqb}
use Rattle.std.proofs.lemmas.Str.{IsCharBoundary-at_seam, encode_ascii}
use Rattle.standard_trees.specs.Building.{is_empty, is_space}
use Rattle.page_trees.specs.CharacterSteps.{has_no_null, is_null}
use Rattle.page_trees.specs.CharacterTexts.{front_spaces, past_spaces, unskipped}
use Rattle.page_trees.proofs.DoctypeTexts.{high_begins, not_low}
use Rattle.page_trees.proofs.NamesAgree.{both}

-- ---- the two parts

pub joined : (cs : List ℕ) → front_spaces cs ++ past_spaces cs ≡ cs
joined [] = refl
joined (c ∷ cs) = by (is_space c) (joined cs)
  where
    by : (s : Bool) → front_spaces cs ++ past_spaces cs ≡ cs → (if s then c ∷ front_spaces cs else []) ++ (if s then past_spaces cs else c ∷ cs) ≡ c ∷ cs
    by true e = ap (λ (xs : List ℕ). c ∷ xs) e
    by false e = refl

pub front_taken : (cs : List ℕ) → take (length (front_spaces cs)) cs ≡ front_spaces cs
front_taken [] = refl
front_taken (c ∷ cs) = by (is_space c) (front_taken cs)
  where
    by : (s : Bool) → take (length (front_spaces cs)) cs ≡ front_spaces cs → take (length (if s then c ∷ front_spaces cs else [])) (c ∷ cs) ≡ (if s then c ∷ front_spaces cs else [])
    by true e = ap (λ (xs : List ℕ). c ∷ xs) e
    by false e = refl

pub past_dropped : (cs : List ℕ) → drop (length (front_spaces cs)) cs ≡ past_spaces cs
past_dropped [] = refl
past_dropped (c ∷ cs) = by (is_space c) (past_dropped cs)
  where
    by : (s : Bool) → drop (length (front_spaces cs)) cs ≡ past_spaces cs → drop (length (if s then c ∷ front_spaces cs else [])) (c ∷ cs) ≡ (if s then past_spaces cs else c ∷ cs)
    by true e = e
    by false e = refl

pub front_within : (cs : List ℕ) → length (front_spaces cs) ≤ length cs
front_within [] = omega arith
front_within (c ∷ cs) = by (is_space c) (front_within cs)
  where
    by : (s : Bool) → length (front_spaces cs) ≤ length cs → length (if s then c ∷ front_spaces cs else []) ≤ length (c ∷ cs)
    by true e = omega (arith, e)
    by false e = omega arith

pub all_front : (cs : List ℕ) → list_all is_space (front_spaces cs) ≡ true
all_front [] = refl
all_front (c ∷ cs) = elim (cases_Bool (is_space c)) [
  | inl t ↦ ap (λ (s : Bool). list_all is_space (if s then c ∷ front_spaces cs else [])) t ∙ ap (λ (s : Bool). s && list_all is_space (front_spaces cs)) t ∙ all_front cs
  | inr f ↦ ap (λ (s : Bool). list_all is_space (if s then c ∷ front_spaces cs else [])) f
]

pub all_past : (cs : List ℕ) → list_all is_space cs ≡ is_empty (past_spaces cs)
all_past [] = refl
all_past (c ∷ cs) = by (is_space c) (all_past cs)
  where
    by : (s : Bool) → list_all is_space cs ≡ is_empty (past_spaces cs) → (s && list_all is_space cs) ≡ is_empty (if s then past_spaces cs else c ∷ cs)
    by true e = e
    by false e = refl

first_of : (c d : ℕ) (cs ds : List ℕ) → c ∷ cs ≡ d ∷ ds → c ≡ d
first_of c d cs ds e = ap (λ (xs : List ℕ). get_or xs 0 0) e

pub past_first : (cs : List ℕ) (d : ℕ) (ds : List ℕ) → past_spaces cs ≡ d ∷ ds → is_space d ≡ false
past_first [] d ds e = absurd (true≢false (ap (λ (xs : List ℕ). is_empty xs) e))
past_first (c ∷ cs) d ds e = elim (cases_Bool (is_space c)) [
  | inl t ↦ past_first cs d ds (sym (ap (λ (s : Bool). if s then past_spaces cs else c ∷ cs) t) ∙ e)
  | inr f ↦ sym (ap is_space (first_of c d cs ds (sym (ap (λ (s : Bool). if s then past_spaces cs else c ∷ cs) f) ∙ e))) ∙ f
]

-- ---- bytes

not_one : (c f : ℕ) → 128 ≤ c → f < 128 → (c == f) ≡ false
not_one c f high low = ne_eqb c f (λ e. absurd (omega (arith, high, low, e)))

pub not_space : (c : ℕ) → 128 ≤ c → is_space c ≡ false
not_space c high =
    all (c == 9) (c == 10) (c == 12) (c == 13) (c == 32) (not_one c 9 high (omega arith)) (not_one c 10 high (omega arith)) (not_one c 12 high (omega arith))
    (not_one c 13 high (omega arith)) (not_one c 32 high (omega arith))
  where
    all : (x y z v w : Bool) → x ≡ false → y ≡ false → z ≡ false → v ≡ false → w ≡ false → (x || y || z || v || w) ≡ false
    all false false false false false p q r s t = refl
    all true y z v w p q r s t = absurd (true≢false p)
    all false true z v w p q r s t = absurd (true≢false q)
    all false false true v w p q r s t = absurd (true≢false r)
    all false false false true w p q r s t = absurd (true≢false s)
    all false false false false true p q r s t = absurd (true≢false t)

past_high : (c : ℕ) (cs : List ℕ) → 128 ≤ c → past_spaces (c ∷ cs) ≡ c ∷ cs
past_high c cs high = ap (λ (s : Bool). if s then past_spaces cs else c ∷ cs) (not_space c high)

pub past_encoded : (cs : List ℕ) → past_spaces (encode_utf8_all cs) ≡ encode_utf8_all (past_spaces cs)
past_encoded [] = refl
past_encoded (c ∷ cs) = elim (cases_lt c 128) [
  | inl low ↦ ap (λ bytes. past_spaces (bytes ++ encode_utf8_all cs)) (encode_ascii c low) ∙ by (is_space c) (ap (λ bytes. bytes ++ encode_utf8_all cs) (sym (encode_ascii c low))) (past_encoded cs)
  | inr high ↦ (let begins = high_begins c high in
      ap (λ bytes. past_spaces (bytes ++ encode_utf8_all cs)) begins.is ∙ past_high begins.first (begins.others ++ encode_utf8_all cs) begins.high
      ∙ sym (ap (λ bytes. bytes ++ encode_utf8_all cs) begins.is) ∙ sym (ap encode_utf8_all (past_high c cs high)))
]
  where
    by : (s : Bool) → c ∷ encode_utf8_all cs ≡ encode_utf8_all (c ∷ cs) → past_spaces (encode_utf8_all cs) ≡ encode_utf8_all (past_spaces cs) →
        (if s then past_spaces (encode_utf8_all cs) else c ∷ encode_utf8_all cs) ≡ encode_utf8_all (if s then past_spaces cs else c ∷ cs)
    by true e f = f
    by false e f = e

front_high : (c : ℕ) (cs : List ℕ) → 128 ≤ c → front_spaces (c ∷ cs) ≡ []
front_high c cs high = ap (λ (s : Bool). if s then c ∷ front_spaces cs else []) (not_space c high)

pub front_encoded : (cs : List ℕ) → front_spaces (encode_utf8_all cs) ≡ encode_utf8_all (front_spaces cs)
front_encoded [] = refl
front_encoded (c ∷ cs) = elim (cases_lt c 128) [
  | inl low ↦ ap (λ bytes. front_spaces (bytes ++ encode_utf8_all cs)) (encode_ascii c low)
      ∙ by (is_space c) (ap (λ bytes. bytes ++ encode_utf8_all (front_spaces cs)) (sym (encode_ascii c low))) (front_encoded cs)
  | inr high ↦ (let begins = high_begins c high in
      ap (λ bytes. front_spaces (bytes ++ encode_utf8_all cs)) begins.is ∙ front_high begins.first (begins.others ++ encode_utf8_all cs) begins.high
      ∙ sym (ap encode_utf8_all (front_high c cs high)))
]
  where
    by : (s : Bool) → c ∷ encode_utf8_all (front_spaces cs) ≡ encode_utf8_all (c ∷ front_spaces cs) → front_spaces (encode_utf8_all cs) ≡ encode_utf8_all (front_spaces cs) →
        (if s then c ∷ front_spaces (encode_utf8_all cs) else []) ≡ encode_utf8_all (if s then c ∷ front_spaces cs else [])
    by true e f = ap (λ (bytes : List ℕ). c ∷ bytes) f ∙ e
    by false e f = refl

-- a text without characters
pub none_encoded : (cs : List ℕ) → encode_utf8_all cs ≡ [] → cs ≡ []
none_encoded [] e = refl
none_encoded (c ∷ cs) e = elim (cases_lt c 128) [
  | inl low ↦ absurd (true≢false (sym (ap (λ (xs : List ℕ). is_empty xs) (sym (ap (λ bytes. bytes ++ encode_utf8_all cs) (encode_ascii c low)) ∙ e))))
  | inr high ↦ absurd (true≢false (sym (ap (λ (xs : List ℕ). is_empty xs) (sym (ap (λ bytes. bytes ++ encode_utf8_all cs) (high_begins c high).is) ∙ e))))
]

-- ---- a text may be cut behind its white space

scalars_past : (cs : List ℕ) → scalars cs ≡ true → scalars (past_spaces cs) ≡ true
scalars_past [] e = refl
scalars_past (c ∷ cs) e = by (is_space c) (scalars_past cs (both _ (scalars cs) e).1)
  where
    by : (s : Bool) → scalars (past_spaces cs) ≡ true → scalars (if s then past_spaces cs else c ∷ cs) ≡ true
    by true f = f
    by false f = e

pub cut_behind : (bytes : List ℕ) → IsUtf8 bytes → IsCharBoundary bytes (length (front_spaces bytes))
cut_behind bytes utf8 =
    IsCharBoundary-at_seam bytes (front_spaces bytes) (past_spaces bytes) (sym (joined bytes))
    (past_spaces utf8.0, (scalars_past utf8.0 utf8.1.0, sym (past_encoded utf8.0) ∙ ap past_spaces utf8.1.1))

-- ---- a step over one byte of white space

pub front_step : (bytes : List ℕ) (n : ℕ) → n < length bytes → is_space (get_or bytes n 0) ≡ true → length (front_spaces (drop n bytes)) ≡ suc (length (front_spaces (drop (suc n) bytes)))
front_step [] n low e = absurd (omega (arith, low))
front_step (c ∷ cs) zero low e = ap (λ (s : Bool). length (if s then c ∷ front_spaces cs else [])) e
front_step (c ∷ cs) (suc n) low e = front_step cs n (omega (arith, low)) e

pub front_ends : (bytes : List ℕ) (n : ℕ) → is_space (get_or bytes n 0) ≡ false → length (front_spaces (drop n bytes)) ≡ 0
front_ends [] zero e = refl
front_ends [] (suc n) e = refl
front_ends (c ∷ cs) zero e = ap (λ (s : Bool). length (if s then c ∷ front_spaces cs else [])) e
front_ends (c ∷ cs) (suc n) e = front_ends cs n e

pub front_over : (bytes : List ℕ) (n : ℕ) → length bytes ≤ n → length (front_spaces (drop n bytes)) ≡ 0
front_over [] zero e = refl
front_over [] (suc n) e = refl
front_over (c ∷ cs) zero e = absurd (omega (arith, e))
front_over (c ∷ cs) (suc n) e = front_over cs n (omega (arith, e))

-- ---- nulls

all_apart : (xs ys : List ℕ) → has_no_null (xs ++ ys) ≡ (has_no_null xs && has_no_null ys)
all_apart [] ys = refl
all_apart (x ∷ xs) ys = ap (λ (y : Bool). not (is_null x) && y) (all_apart xs ys) ∙ by (not (is_null x)) (has_no_null xs) (has_no_null ys)
  where
    by : (x y z : Bool) → (x && (y && z)) ≡ ((x && y) && z)
    by true y z = refl
    by false y z = refl

no_null : (n : ℕ) → 1 ≤ n → not (is_null n) ≡ true
no_null n low = ap not (ne_eqb n 0 (λ e. absurd (omega (arith, low, e))))

pub high_no_null : (c : ℕ) → 128 ≤ c → has_no_null (encode c) ≡ true
unfolding encode
high_no_null c h = rw (not_low c h) (each (nat_lt c 2048) (nat_lt c 65536))
  where
    all : (x y z v : ℕ) → 1 ≤ x → 1 ≤ y → 1 ≤ z → 1 ≤ v → has_no_null (x ∷ y ∷ z ∷ v ∷ []) ≡ true
    all x y z v p q r s =
        ap (λ (t : Bool). t && (not (is_null y) && (not (is_null z) && (not (is_null v) && true)))) (no_null x p)
        ∙ ap (λ (t : Bool). t && (not (is_null z) && (not (is_null v) && true))) (no_null y q) ∙ ap (λ (t : Bool). t && (not (is_null v) && true)) (no_null z r)
        ∙ ap (λ (t : Bool). t && true) (no_null v s)

    three : (x y z : ℕ) → 1 ≤ x → 1 ≤ y → 1 ≤ z → has_no_null (x ∷ y ∷ z ∷ []) ≡ true
    three x y z p q r =
        ap (λ (t : Bool). t && (not (is_null y) && (not (is_null z) && true))) (no_null x p)
        ∙ ap (λ (t : Bool). t && (not (is_null z) && true)) (no_null y q) ∙ ap (λ (t : Bool). t && true) (no_null z r)

    two : (x y : ℕ) → 1 ≤ x → 1 ≤ y → has_no_null (x ∷ y ∷ []) ≡ true
    two x y p q = ap (λ (t : Bool). t && (not (is_null y) && true)) (no_null x p) ∙ ap (λ (t : Bool). t && true) (no_null y q)

    each : (x y : Bool) → has_no_null (cond x ((192 + c / 64) ∷ (128 + c % 64) ∷ []) (cond y ((224 + c / 4096) ∷ (128 + (c / 64) % 64) ∷ (128 + c % 64) ∷ [])
        ((240 + c / 262144) ∷ (128 + (c / 4096) % 64) ∷ (128 + (c / 64) % 64) ∷ (128 + c % 64) ∷ []))) ≡ true
    each true y = two (192 + c / 64) (128 + c % 64) (omega arith) (omega arith)
    each false true = three (224 + c / 4096) (128 + (c / 64) % 64) (128 + c % 64) (omega arith) (omega arith) (omega arith)
    each false false = all (240 + c / 262144) (128 + (c / 4096) % 64) (128 + (c / 64) % 64) (128 + c % 64) (omega arith) (omega arith) (omega arith) (omega arith)

pub some_null : (cs : List ℕ) → list_any is_null cs ≡ true → has_no_null cs ≡ false
some_null [] e = absurd (true≢false (sym e))
some_null (c ∷ cs) e = elim (cases_Bool (is_null c)) [
  | inl t ↦ ap (λ (x : Bool). not x && has_no_null cs) t
  | inr f ↦ ap (λ (x : Bool). not x && has_no_null cs) f ∙ some_null cs (sym (ap (λ (x : Bool). x || list_any is_null cs) f) ∙ e)
]

pub nulls_encoded : (cs : List ℕ) → has_no_null (encode_utf8_all cs) ≡ has_no_null cs
nulls_encoded [] = refl
nulls_encoded (c ∷ cs) =
    all_apart (encode c) (encode_utf8_all cs) ∙ ap (λ (x : Bool). has_no_null (encode c) && x) (nulls_encoded cs) ∙ ap (λ (x : Bool). x && has_no_null cs) first
  where
    one : (x : Bool) → (x && true) ≡ x
    one true = refl
    one false = refl

    first : has_no_null (encode c) ≡ not (is_null c)
    first = elim (cases_lt c 128) [
      | inl low ↦ ap (λ bytes. has_no_null bytes) (encode_ascii c low) ∙ one (not (is_null c))
      | inr high ↦ high_no_null c high ∙ sym (no_null c (omega (arith, high)))
    ]

-- ---- a line feed at the beginning

pub unskipped_encoded : (skip : Bool) (cs : List ℕ) → unskipped skip (encode_utf8_all cs) ≡ encode_utf8_all (unskipped skip cs)
unskipped_encoded false cs = refl
unskipped_encoded true [] = refl
unskipped_encoded true (c ∷ cs) = elim (cases_lt c 128) [
  | inl low ↦ ap (λ bytes. unskipped true (bytes ++ encode_utf8_all cs)) (encode_ascii c low) ∙ by (c == 10) (ap (λ bytes. bytes ++ encode_utf8_all cs) (sym (encode_ascii c low)))
  | inr high ↦ (let begins = high_begins c high in
      ap (λ bytes. unskipped true (bytes ++ encode_utf8_all cs)) begins.is
      ∙ ap (λ (x : Bool). if x then begins.others ++ encode_utf8_all cs else begins.first ∷ begins.others ++ encode_utf8_all cs) (not_one begins.first 10 begins.high (omega arith))
      ∙ sym (ap (λ bytes. bytes ++ encode_utf8_all cs) begins.is)
      ∙ sym (ap (λ (x : Bool). encode_utf8_all (if x then cs else c ∷ cs)) (not_one c 10 high (omega arith))))
]
  where
    by : (s : Bool) → c ∷ encode_utf8_all cs ≡ encode_utf8_all (c ∷ cs) → (if s then encode_utf8_all cs else c ∷ encode_utf8_all cs) ≡ encode_utf8_all (if s then cs else c ∷ cs)
    by true e = refl
    by false e = e

pub unskipped_feed : (skip : Bool) (bytes : List ℕ) → skip ≡ true → 1 ≤ length bytes → get_or bytes 0 0 ≡ 10 → drop 1 bytes ≡ unskipped skip bytes
unskipped_feed skip [] e low f = absurd (omega (arith, low))
unskipped_feed skip (c ∷ cs) e low f =
    sym (ap (λ (x : Bool). unskipped x (c ∷ cs)) e ∙ ap (λ (d : ℕ). if d == 10 then cs else c ∷ cs) f)

pub unskipped_other : (skip : Bool) (bytes : List ℕ) → (1 ≤ length bytes → get_or bytes 0 0 ≡ 10 → ⊥) → unskipped skip bytes ≡ bytes
unskipped_other false bytes f = refl
unskipped_other true [] f = refl
unskipped_other true (c ∷ cs) f = ap (λ (x : Bool). if x then cs else c ∷ cs) (ne_eqb c 10 (f (omega arith)))

pub without_feed : (bytes rest : List ℕ) → bytes ≡ 10 ∷ rest → rest ≡ unskipped true bytes
without_feed bytes rest e = sym (ap (λ (xs : List ℕ). unskipped true xs) e)

pub without_other : (bytes : List ℕ) → ((rest : List ℕ) → bytes ≡ 10 ∷ rest → ⊥) → bytes ≡ unskipped true bytes
without_other [] other = refl
without_other (c ∷ cs) other = sym (ap (λ (x : Bool). if x then cs else c ∷ cs) (ne_eqb c 10 (λ e. other cs (ap (λ (d : ℕ). d ∷ cs) e))))
