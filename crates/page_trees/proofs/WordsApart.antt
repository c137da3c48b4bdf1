-- A text as the characters up to its first white space or its first null, and what comes after them: in bytes as in characters.
use Rattle.std.proofs.Common.{◌≡◌, ◌≤◌, ◌<◌, ◌+◌, ◌-◌, ◌/◌, ◌%◌, nat_lt, cond, ℕ, zero, suc, Bool, true, false, ◌&&◌, not, List, [], ◌∷◌, ◌++◌, length, drop, take, refl, sym, ap, ◌∙◌, true≢false, arith, inl, inr, if◌then◌else◌}
use Rattle.std.specs.List.{list_all}
use Rattle.std.specs.Prelude.{encode_utf8_all, get_or}
use Rattle.std.specs.Str.{IsCharBoundary, IsUtf8}
use lib.Utf8.{encode, scalars}
use Rattle.std.proofs.lemmas.Bool.{cases_Bool, cases_lt, eqb-true, ne_eqb}
use Rattle.std.proofs.lemmas.Str.{IsCharBoundary-at_seam, encode_ascii}
use Rattle.standard_trees.specs.Building.{is_empty, is_space}
use Rattle.page_trees.specs.CharacterSteps.{has_no_null, is_null}
use Rattle.page_trees.specs.CharacterTexts.{front_word, past_spaces, past_word}
use Rattle.page_trees.proofs.DoctypeTexts.{not_low}
use Rattle.page_trees.proofs.NamesAgree.{both}
use Rattle.page_trees.proofs.SpacesApart.{high_no_null, not_space}

-- ---- words

pub word_joined : (cs : List ℕ) → front_word cs ++ past_word cs ≡ cs
word_joined [] = refl
word_joined (c ∷ cs) = by (is_space c) (word_joined cs)
  where
    by : (s : Bool) → front_word cs ++ past_word cs ≡ cs → (if s then [] else c ∷ front_word cs) ++ (if s then c ∷ cs else past_word cs) ≡ c ∷ cs
    by true e = refl
    by false e = ap (λ (xs : List ℕ). c ∷ xs) e

pub word_taken : (cs : List ℕ) → take (length (front_word cs)) cs ≡ front_word cs
word_taken [] = refl
word_taken (c ∷ cs) = by (is_space c) (word_taken cs)
  where
    by : (s : Bool) → take (length (front_word cs)) cs ≡ front_word cs → take (length (if s then [] else c ∷ front_word cs)) (c ∷ cs) ≡ (if s then [] else c ∷ front_word cs)
    by true e = refl
    by false e = ap (λ (xs : List ℕ). c ∷ xs) e

pub word_dropped : (cs : List ℕ) → drop (length (front_word cs)) cs ≡ past_word cs
word_dropped [] = refl
word_dropped (c ∷ cs) = by (is_space c) (word_dropped cs)
  where
    by : (s : Bool) → drop (length (front_word cs)) cs ≡ past_word cs → drop (length (if s then [] else c ∷ front_word cs)) (c ∷ cs) ≡ (if s then c ∷ cs else past_word cs)
    by true e = refl
    by false e = e

pub word_within : (cs : List ℕ) → length (front_word cs) ≤ length cs
word_within [] = omega arith
word_within (c ∷ cs) = by (is_space c) (word_within cs)
  where
    by : (s : Bool) → length (front_word cs) ≤ length cs → length (if s then [] else c ∷ front_word cs) ≤ length (c ∷ cs)
    by true e = omega arith
    by false e = omega (arith, e)

pub word_letters : (cs : List ℕ) → list_all (λ c. not (is_space c)) (front_word cs) ≡ true
word_letters [] = refl
word_letters (c ∷ cs) = elim (cases_Bool (is_space c)) [
  | inl t ↦ ap (λ (s : Bool). list_all (λ c. not (is_space c)) (if s then [] else c ∷ front_word cs)) t
  | inr f ↦ ap (λ (s : Bool). list_all (λ c. not (is_space c)) (if s then [] else c ∷ front_word cs)) f
      ∙ ap (λ (s : Bool). not s && list_all (λ c. not (is_space c)) (front_word cs)) f ∙ word_letters cs
]

-- none of these is a null, if none of all is
pub word_plain : (cs : List ℕ) → has_no_null cs ≡ true → has_no_null (front_word cs) ≡ true
word_plain [] all = refl
word_plain (c ∷ cs) all = by (is_space c) (both (not (is_null c)) (has_no_null cs) all).0 (word_plain cs (both (not (is_null c)) (has_no_null cs) all).1)
  where
    by : (s : Bool) → not (is_null c) ≡ true → has_no_null (front_word cs) ≡ true → has_no_null (if s then [] else c ∷ front_word cs) ≡ true
    by true e f = refl
    by false e f = ap (λ (x : Bool). x && has_no_null (front_word cs)) e ∙ f

pub rest_plain : (cs : List ℕ) → has_no_null cs ≡ true → has_no_null (past_word cs) ≡ true
rest_plain [] all = refl
rest_plain (c ∷ cs) all = by (is_space c) (rest_plain cs (both (not (is_null c)) (has_no_null cs) all).1)
  where
    by : (s : Bool) → has_no_null (past_word cs) ≡ true → has_no_null (if s then c ∷ cs else past_word cs) ≡ true
    by true e = all
    by false e = e

pub past_plain : (cs : List ℕ) → has_no_null cs ≡ true → has_no_null (past_spaces cs) ≡ true
past_plain [] all = refl
past_plain (c ∷ cs) all = by (is_space c) (past_plain cs (both (not (is_null c)) (has_no_null cs) all).1)
  where
    by : (s : Bool) → has_no_null (past_spaces cs) ≡ true → has_no_null (if s then past_spaces cs else c ∷ cs) ≡ true
    by true e = e
    by false e = all

-- ---- what is left is shorter

past_within : (cs : List ℕ) → length (past_spaces cs) ≤ length cs
past_within [] = omega arith
past_within (c ∷ cs) = by (is_space c) (past_within cs)
  where
    by : (s : Bool) → length (past_spaces cs) ≤ length cs → length (if s then past_spaces cs else c ∷ cs) ≤ length (c ∷ cs)
    by true e = omega (arith, e)
    by false e = omega arith

rest_within : (cs : List ℕ) → length (past_word cs) ≤ length cs
rest_within [] = omega arith
rest_within (c ∷ cs) = by (is_space c) (rest_within cs)
  where
    by : (s : Bool) → length (past_word cs) ≤ length cs → length (if s then c ∷ cs else past_word cs) ≤ length (c ∷ cs)
    by true e = omega arith
    by false e = omega (arith, e)

pub word_less : (cs : List ℕ) → length (past_spaces (past_word cs)) ≤ length cs - 1
word_less [] = omega arith
word_less (c ∷ cs) = elim (cases_Bool (is_space c)) [
  | inl t ↦ (let short = past_within cs in
      let is : past_spaces (past_word (c ∷ cs)) ≡ past_spaces cs =
      ap (λ (s : Bool). past_spaces (if s then c ∷ cs else past_word cs)) t ∙ ap (λ (s : Bool). if s then past_spaces cs else c ∷ cs) t in
      omega (arith, short, ap (λ (xs : List ℕ). length xs) is))
  | inr f ↦ (let short = past_within (past_word cs) in
      let rest = rest_within cs in
      let is : past_spaces (past_word (c ∷ cs)) ≡ past_spaces (past_word cs) = ap (λ (s : Bool). past_spaces (if s then c ∷ cs else past_word cs)) f in
      omega (arith, short, rest, ap (λ (xs : List ℕ). length xs) is))
]

-- ---- bytes

high_no_space : (c : ℕ) → 128 ≤ c → list_all (λ c. not (is_space c)) (encode c) ≡ true
unfolding encode
high_no_space c h = rw (not_low c h) (each (nat_lt c 2048) (nat_lt c 65536))
  where
    one : (n : ℕ) → 128 ≤ n → not (is_space n) ≡ true
    one n low = ap not (not_space n low)

    more : (x : ℕ) (xs : List ℕ) → 128 ≤ x → list_all (λ c. not (is_space c)) xs ≡ true → list_all (λ c. not (is_space c)) (x ∷ xs) ≡ true
    more x xs low all = ap (λ (t : Bool). t && list_all (λ c. not (is_space c)) xs) (one x low) ∙ all

    each : (x y : Bool) → list_all (λ c. not (is_space c)) (cond x ((192 + c / 64) ∷ (128 + c % 64) ∷ []) (cond y ((224 + c / 4096) ∷ (128 + (c / 64) % 64) ∷ (128 + c % 64) ∷ [])
        ((240 + c / 262144) ∷ (128 + (c / 4096) % 64) ∷ (128 + (c / 64) % 64) ∷ (128 + c % 64) ∷ []))) ≡ true
    each true y = more (192 + c / 64) ((128 + c % 64) ∷ []) (omega arith) (more (128 + c % 64) [] (omega arith) refl)
    each false true =
        more (224 + c / 4096) ((128 + (c / 64) % 64) ∷ (128 + c % 64) ∷ []) (omega arith)
        (more (128 + (c / 64) % 64) ((128 + c % 64) ∷ []) (omega arith) (more (128 + c % 64) [] (omega arith) refl))
    each false false =
        more (240 + c / 262144) ((128 + (c / 4096) % 64) ∷ (128 + (c / 64) % 64) ∷ (128 + c % 64) ∷ []) (omega arith)
        (more (128 + (c / 4096) % 64) ((128 + (c / 64) % 64) ∷ (128 + c % 64) ∷ []) (omega arith)
        (more (128 + (c / 64) % 64) ((128 + c % 64) ∷ []) (omega arith) (more (128 + c % 64) [] (omega arith) refl)))

front_over_letters : (bs rest : List ℕ) → list_all (λ c. not (is_space c)) bs ≡ true → front_word (bs ++ rest) ≡ bs ++ front_word rest
front_over_letters [] rest all = refl
front_over_letters (b ∷ bs) rest all = by (is_space b) (both (not (is_space b)) (list_all (λ c. not (is_space c)) bs) all).0 (front_over_letters bs rest (both (not (is_space b)) (list_all (λ c. not (is_space c)) bs) all).1)
  where
    by : (s : Bool) → not s ≡ true → front_word (bs ++ rest) ≡ bs ++ front_word rest → (if s then [] else b ∷ front_word (bs ++ rest)) ≡ b ∷ bs ++ front_word rest
    by true e f = absurd (true≢false (sym e))
    by false e f = ap (λ (xs : List ℕ). b ∷ xs) f

past_over_letters : (bs rest : List ℕ) → list_all (λ c. not (is_space c)) bs ≡ true → past_word (bs ++ rest) ≡ past_word rest
past_over_letters [] rest all = refl
past_over_letters (b ∷ bs) rest all = by (is_space b) (both (not (is_space b)) (list_all (λ c. not (is_space c)) bs) all).0 (past_over_letters bs rest (both (not (is_space b)) (list_all (λ c. not (is_space c)) bs) all).1)
  where
    by : (s : Bool) → not s ≡ true → past_word (bs ++ rest) ≡ past_word rest → (if s then b ∷ bs ++ rest else past_word (bs ++ rest)) ≡ past_word rest
    by true e f = absurd (true≢false (sym e))
    by false e f = f

pub word_encoded : (cs : List ℕ) → front_word (encode_utf8_all cs) ≡ encode_utf8_all (front_word cs)
word_encoded [] = refl
word_encoded (c ∷ cs) = elim (cases_lt c 128) [
  | inl low ↦ ap (λ bytes. front_word (bytes ++ encode_utf8_all cs)) (encode_ascii c low)
      ∙ by (is_space c) (ap (λ bytes. bytes ++ encode_utf8_all (front_word cs)) (sym (encode_ascii c low))) (word_encoded cs)
  | inr high ↦ front_over_letters (encode c) (encode_utf8_all cs) (high_no_space c high) ∙ ap (λ bytes. encode c ++ bytes) (word_encoded cs)
      ∙ sym (ap (λ (s : Bool). encode_utf8_all (if s then [] else c ∷ front_word cs)) (not_space c high))
]
  where
    by : (s : Bool) → c ∷ encode_utf8_all (front_word cs) ≡ encode_utf8_all (c ∷ front_word cs) → front_word (encode_utf8_all cs) ≡ encode_utf8_all (front_word cs) →
        (if s then [] else c ∷ front_word (encode_utf8_all cs)) ≡ encode_utf8_all (if s then [] else c ∷ front_word cs)
    by true e f = refl
    by false e f = ap (λ (bytes : List ℕ). c ∷ bytes) f ∙ e

pub rest_encoded : (cs : List ℕ) → past_word (encode_utf8_all cs) ≡ encode_utf8_all (past_word cs)
rest_encoded [] = refl
rest_encoded (c ∷ cs) = elim (cases_lt c 128) [
  | inl low ↦ ap (λ bytes. past_word (bytes ++ encode_utf8_all cs)) (encode_ascii c low)
      ∙ by (is_space c) (ap (λ bytes. bytes ++ encode_utf8_all cs) (sym (encode_ascii c low))) (rest_encoded cs)
  | inr high ↦ past_over_letters (encode c) (encode_utf8_all cs) (high_no_space c high) ∙ rest_encoded cs
      ∙ sym (ap (λ (s : Bool). encode_utf8_all (if s then c ∷ cs else past_word cs)) (not_space c high))
]
  where
    by : (s : Bool) → c ∷ encode_utf8_all cs ≡ encode_utf8_all (c ∷ cs) → past_word (encode_utf8_all cs) ≡ encode_utf8_all (past_word cs) →
        (if s then c ∷ encode_utf8_all cs else past_word (encode_utf8_all cs)) ≡ encode_utf8_all (if s then c ∷ cs else past_word cs)
    by true e f = e
    by false e f = f

-- ---- a text may be cut behind a word

scalars_past_word : (cs : List ℕ) → scalars cs ≡ true → scalars (past_word cs) ≡ true
scalars_past_word [] e = refl
scalars_past_word (c ∷ cs) e = by (is_space c) (scalars_past_word cs (both _ (scalars cs) e).1)
  where
    by : (s : Bool) → scalars (past_word cs) ≡ true → scalars (if s then c ∷ cs else past_word cs) ≡ true
    by true f = e
    by false f = f

pub cut_behind_word : (bytes : List ℕ) → IsUtf8 bytes → IsCharBoundary bytes (length (front_word bytes))
cut_behind_word bytes utf8 =
    IsCharBoundary-at_seam bytes (front_word bytes) (past_word bytes) (sym (word_joined bytes))
    (past_word utf8.0, (scalars_past_word utf8.0 utf8.1.0, sym (rest_encoded utf8.0) ∙ ap past_word utf8.1.1))

-- ---- a step over one byte of a word

pub word_step : (bytes : List ℕ) (n : ℕ) → n < length bytes → is_space (get_or bytes n 0) ≡ false → length (front_word (drop n bytes)) ≡ suc (length (front_word (drop (suc n) bytes)))
word_step [] n low e = absurd (omega (arith, low))
word_step (c ∷ cs) zero low e = ap (λ (s : Bool). length (if s then [] else c ∷ front_word cs)) e
word_step (c ∷ cs) (suc n) low e = word_step cs n (omega (arith, low)) e

pub word_ends : (bytes : List ℕ) (n : ℕ) → is_space (get_or bytes n 0) ≡ true → length (front_word (drop n bytes)) ≡ 0
word_ends [] zero e = refl
word_ends [] (suc n) e = refl
word_ends (c ∷ cs) zero e = ap (λ (s : Bool). length (if s then [] else c ∷ front_word cs)) e
word_ends (c ∷ cs) (suc n) e = word_ends cs n e

pub word_over : (bytes : List ℕ) (n : ℕ) → length bytes ≤ n → length (front_word (drop n bytes)) ≡ 0
word_over [] zero e = refl
word_over [] (suc n) e = refl
word_over (c ∷ cs) zero e = absurd (omega (arith, e))
word_over (c ∷ cs) (suc n) e = word_over cs n (omega (arith, e))

-- ---- nulls

-- a text whose bytes are cut at a null is cut there in characters
pub record IsCut (cs front after : List ℕ) : Type 0 where
  pub xs : List ℕ
  pub ys : List ℕ
  pub is : cs ≡ xs ++ 0 ∷ ys
  pub front_is : front ≡ encode_utf8_all xs
  pub after_is : after ≡ encode_utf8_all ys
  pub plain : has_no_null xs ≡ true

record HasFront (bs rest front after : List ℕ) : Type 0 where
  pub more : List ℕ
  pub front_is : front ≡ bs ++ more
  pub rest_is : rest ≡ more ++ 0 ∷ after

no_zero : (b : ℕ) → not (is_null b) ≡ true → b ≡ 0 → ⊥
no_zero b e f = true≢false (sym e ∙ ap (λ (n : ℕ). not (is_null n)) f)

same_head : (x y : ℕ) (xs ys : List ℕ) → x ∷ xs ≡ y ∷ ys → x ≡ y
same_head x y xs ys e = ap (λ (l : List ℕ). get_or l 0 0) e

same_tail : (x y : ℕ) (xs ys : List ℕ) → x ∷ xs ≡ y ∷ ys → xs ≡ ys
same_tail x y xs ys e = ap (λ (l : List ℕ). drop 1 l) e

-- characters that are no nulls stand before the cut
front_of : (bs rest front after : List ℕ) → has_no_null bs ≡ true → bs ++ rest ≡ front ++ 0 ∷ after → HasFront bs rest front after
front_of [] rest front after plain e = record { more = front; front_is = refl; rest_is = e }
front_of (b ∷ bs) rest [] after plain e = absurd (no_zero b (both (not (is_null b)) (has_no_null bs) plain).0 (same_head b 0 (bs ++ rest) after e))
front_of (b ∷ bs) rest (f ∷ fs) after plain e =
    let inner = front_of bs rest fs after (both (not (is_null b)) (has_no_null bs) plain).1 (same_tail b f (bs ++ rest) (fs ++ 0 ∷ after) e) in
    record {
      more = inner.more;
      front_is = ap (λ (xs : List ℕ). f ∷ xs) inner.front_is ∙ ap (λ (n : ℕ). n ∷ bs ++ inner.more) (sym (same_head b f (bs ++ rest) (fs ++ 0 ∷ after) e));
      rest_is = inner.rest_is;
    }

plain_bytes : (c : ℕ) → is_null c ≡ false → has_no_null (encode c) ≡ true
plain_bytes c other = elim (cases_lt c 128) [
  | inl low ↦ ap (λ bytes. has_no_null bytes) (encode_ascii c low) ∙ ap (λ (x : Bool). not x && true) other
  | inr high ↦ high_no_null c high
]

not_empty : (front after : List ℕ) → [] ≡ front ++ 0 ∷ after → ⊥
not_empty [] after e = true≢false (ap (λ (xs : List ℕ). is_empty xs) e)
not_empty (f ∷ fs) after e = true≢false (ap (λ (xs : List ℕ). is_empty xs) e)

rest_of_plain : (bs more : List ℕ) → has_no_null (bs ++ more) ≡ true → has_no_null more ≡ true
rest_of_plain [] more all = all
rest_of_plain (b ∷ bs) more all = rest_of_plain bs more (both (not (is_null b)) (has_no_null (bs ++ more)) all).1

pub cut_at_null : (cs front after : List ℕ) → encode_utf8_all cs ≡ front ++ 0 ∷ after → has_no_null front ≡ true → IsCut cs front after
cut_at_null [] front after e plain = absurd (not_empty front after e)
cut_at_null (c ∷ cs) front after e plain = elim (cases_Bool (is_null c)) [
  | inl null ↦ at_once front plain (sym (ap (λ (n : ℕ). encode n ++ encode_utf8_all cs) (eqb-true c 0 null) ∙ ap (λ bytes. bytes ++ encode_utf8_all cs) (encode_ascii 0 (omega arith))) ∙ e) (eqb-true c 0 null)
  | inr other ↦ (let has = front_of (encode c) (encode_utf8_all cs) front after (plain_bytes c other) e in
      later has other (cut_at_null cs has.more after has.rest_is (rest_of_plain (encode c) has.more (sym (ap (λ bytes. has_no_null bytes) has.front_is) ∙ plain))))
]
  where
    at_once : (front : List ℕ) → has_no_null front ≡ true → 0 ∷ encode_utf8_all cs ≡ front ++ 0 ∷ after → c ≡ 0 → IsCut (c ∷ cs) front after
    at_once [] plain f is = record {
      xs = [];
      ys = cs;
      is = ap (λ (n : ℕ). n ∷ cs) is;
      front_is = refl;
      after_is = sym (same_tail 0 0 (encode_utf8_all cs) after f);
      plain = refl;
    }
    at_once (d ∷ ds) plain f is =
        absurd (no_zero d (both (not (is_null d)) (has_no_null ds) plain).0 (sym (same_head 0 d (encode_utf8_all cs) (ds ++ 0 ∷ after) f)))

    later : (has : HasFront (encode c) (encode_utf8_all cs) front after) → is_null c ≡ false → IsCut cs has.more after → IsCut (c ∷ cs) front after
    later has other inner =
        record {
          xs = c ∷ inner.xs;
          ys = inner.ys;
          is = ap (λ (xs : List ℕ). c ∷ xs) inner.is;
          front_is = has.front_is ∙ ap (λ bytes. encode c ++ bytes) inner.front_is;
          after_is = inner.after_is;
          plain = ap (λ (x : Bool). not x && has_no_null inner.xs) other ∙ inner.plain;
        }

-- bytes none of which is a null
pub nowhere_null : (bytes : List ℕ) → ((i : ℕ) → i < length bytes → get_or bytes i 0 ≡ 0 → ⊥) → has_no_null bytes ≡ true
nowhere_null [] none = refl
nowhere_null (b ∷ bs) none =
    ap (λ (x : Bool). not x && has_no_null bs) (ne_eqb b 0 (none 0 (omega arith)))
    ∙ nowhere_null bs (λ i low. none (suc i) (omega (arith, low)))
