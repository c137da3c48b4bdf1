-- A line with a backslash begins no block.
use Rattle.std.proofs.Common.{◌≡◌, ℕ, zero, suc, ◌+◌, ◌<◌, ◌≤◌, Bool, true, false, List, [], ◌∷◌, ◌++◌, length, take, drop, get_or, refl, sym, ◌∙◌, ap, arith, inl, inr, append_assoc}
use Rattle.std.specs.Prelude.{◌==◌, ◌||◌, not, nat_lt, slice_index_or, if◌then◌else◌}
use Rattle.std.specs.Char.{is_ascii_digit, is_ascii_punctuation}
use Rattle.std.proofs.lemmas.Bool.{cases_Bool, cases_lt, eqb-true, ltb-true}
use Rattle.std.proofs.lemmas.List.{get_or_past}
use Rattle.dom_nodes.specs.Ascii.{asterisk, backslash, backtick, colon, dot, equals_sign, greater_than, hyphen, left_bracket, less_than, number_sign, plus_sign, right_parenthesis, space, tab, tilde, underscore, vertical_bar}
use Rattle.dom_commonmark.specs.Inline.{first_of}
use Rattle.dom_commonmark.specs.Lines.{IsLineMark, IsWrittenLine, begins_block, begins_mark, begins_number, begins_sign, is_stop, leading, marked_at}
use Rattle.dom_commonmark.proofs.MarkLemmas.{differ}

never : true ≡ false → (A : Type 0) → A
never h A = absurd (cc)

negated : (a : Bool) → a ≡ true → not a ≡ false
negated true h = refl
negated false h = absurd (cc)

-- the test passes for each sign
record SignsPass (Q : ℕ → Bool) : Type 0 where
  s1 : Q greater_than ≡ true
  s2 : Q number_sign ≡ true
  s3 : Q hyphen ≡ true
  s4 : Q plus_sign ≡ true
  s5 : Q colon ≡ true
  s6 : Q vertical_bar ≡ true
  s7 : Q equals_sign ≡ true

no_sign : (Q : ℕ → Bool) → SignsPass Q → (b : ℕ) (line : List ℕ) → Q b ≡ false → begins_sign (b ∷ line) ≡ false
no_sign Q s b line f =
    rw (differ Q b greater_than f s.s1, differ Q b number_sign f s.s2, differ Q b hyphen f s.s3, differ Q b plus_sign f s.s4, differ Q b colon f s.s5, differ Q b vertical_bar f s.s6, differ Q b equals_sign f s.s7) refl

sign_passes : (Q : ℕ → Bool) → SignsPass Q → (b : ℕ) (line : List ℕ) → begins_sign (b ∷ line) ≡ true → Q b ≡ true
sign_passes Q s b line h = elim (cases_Bool (Q b)) [
  | inl t ↦ t
  | inr f ↦ never (sym h ∙ no_sign Q s b line f) _
]

pub sign_mark : (line : List ℕ) → begins_sign line ≡ true → IsLineMark line 0
sign_mark [] h = never (sym h) _
sign_mark (b ∷ line) h = record {
  within = omega arith;
  sign = sign_passes is_ascii_punctuation (record { s1 = refl; s2 = refl; s3 = refl; s4 = refl; s5 = refl; s6 = refl; s7 = refl }) b line h;
  ascii = ltb-true b 128 (sign_passes (λ x. nat_lt x 128) (record { s1 = refl; s2 = refl; s3 = refl; s4 = refl; s5 = refl; s6 = refl; s7 = refl }) b line h);
  begins = refl;
}

-- ---- the number of an item

-- a backslash behind the bytes that pass
lead_marked : (test : ℕ → Bool) → test backslash ≡ false → (line : List ℕ) → leading test (marked_at line (leading test line)) ≡ leading test line
lead_marked test b [] = rw b refl
lead_marked test b (c ∷ line) = elim (cases_Bool (test c)) as (λ t. leading test (marked_at (c ∷ line) (leading test (c ∷ line))) ≡ leading test (c ∷ line)) [
  | inl t ↦ rw t (rw t (ap suc (lead_marked test b line)))
  | inr f ↦ rw f (rw b refl)
]

index_marked : (test : ℕ → Bool) (line : List ℕ) → get_or (marked_at line (leading test line)) (leading test line) 0 ≡ backslash
index_marked test [] = refl
index_marked test (c ∷ line) = elim (cases_Bool (test c)) as (λ t. get_or (marked_at (c ∷ line) (leading test (c ∷ line))) (leading test (c ∷ line)) 0 ≡ backslash) [
  | inl t ↦ rw t (index_marked test line)
  | inr f ↦ rw f refl
]

quiet : (z m : Bool) → (if z then false else if m then false else false) ≡ false
quiet true m = refl
quiet false true = refl
quiet false false = refl

no_number : (line : List ℕ) → slice_index_or line (leading is_ascii_digit line) 0 ≡ backslash → begins_number line ≡ false
no_number line e = rw e (quiet (leading is_ascii_digit line == 0) (nat_lt 9 (leading is_ascii_digit line)))

number_parts : (z m s g : Bool) → (if z then false else if m then false else if s then g else false) ≡ true → (z ≡ false) × (s ≡ true)
number_parts true m s g h = never (sym h) _
number_parts false true s g h = never (sym h) _
number_parts false false true g h = (refl, refl)
number_parts false false false g h = never (sym h) _

-- a byte that passes the test of a stop
stop_passes : (Q : ℕ → Bool) → Q dot ≡ true → Q right_parenthesis ≡ true → (b : ℕ) → is_stop b ≡ true → Q b ≡ true
stop_passes Q d r b h = elim (cases_Bool (Q b)) [
  | inl t ↦ t
  | inr f ↦ (let no : is_stop b ≡ false = rw (differ Q b dot f d, differ Q b right_parenthesis f r) refl in never (sym h ∙ no) _)
]

stop_within : (line : List ℕ) (at : ℕ) → is_stop (get_or line at 0) ≡ true → at < length line
stop_within line at h = elim (cases_lt at (length line)) [
  | inl t ↦ t
  | inr f ↦ never (sym h ∙ ap is_stop (get_or_past line at 0 f)) _
]

no_digit : (b : ℕ) (line : List ℕ) → is_ascii_digit b ≡ true → (begins_sign (b ∷ line) ≡ false) × (begins_mark (b ∷ line) ≡ false)
no_digit b line d =
    let Q = λ (x : ℕ). not (is_ascii_digit x) in
    let f : not (is_ascii_digit b) ≡ false = negated (is_ascii_digit b) d in (
      no_sign Q (record { s1 = refl; s2 = refl; s3 = refl; s4 = refl; s5 = refl; s6 = refl; s7 = refl }) b line f,
      rw (differ Q b asterisk f refl, differ Q b underscore f refl, differ Q b backtick f refl, differ Q b tilde f refl, differ Q b left_bracket f refl, differ Q b less_than f refl) refl,
    )

-- behind the digits a backslash
digits_begin : (line : List ℕ) → (leading is_ascii_digit line == 0) ≡ false →
    (begins_sign (marked_at line (leading is_ascii_digit line)) ≡ false) × (begins_mark (marked_at line (leading is_ascii_digit line)) ≡ false)
digits_begin [] h = never h _
digits_begin (b ∷ line) h = elim (cases_Bool (is_ascii_digit b)) as (λ t. (begins_sign (marked_at (b ∷ line) (leading is_ascii_digit (b ∷ line))) ≡ false) × (begins_mark (marked_at (b ∷ line) (leading is_ascii_digit (b ∷ line))) ≡ false)) [
  | inl t ↦ (let n = no_digit b (marked_at line (leading is_ascii_digit line)) t in rw t (n.0, n.1))
  | inr f ↦ (let z : (leading is_ascii_digit (b ∷ line) == 0) ≡ true = rw f refl in never (sym z ∙ h) _)
]

block_none : (line : List ℕ) → begins_number line ≡ false → begins_sign line ≡ false → begins_mark line ≡ false → begins_block line ≡ false
block_none line n s m = rw (n, s) m

pub number_mark : (line : List ℕ) → begins_number line ≡ true → IsLineMark line (leading is_ascii_digit line)
number_mark line h =
    let count = leading is_ascii_digit line in
    let p = number_parts (leading is_ascii_digit line == 0) (nat_lt 9 (leading is_ascii_digit line)) (is_stop (slice_index_or line (leading is_ascii_digit line) 0)) _ h in
    let stop = slice_index_or line (leading is_ascii_digit line) 0 in
    let d = digits_begin line p.0 in
    let marked = marked_at line (leading is_ascii_digit line) in
    let at : slice_index_or marked (leading is_ascii_digit marked) 0 ≡ backslash =
    ap (λ (k : ℕ). get_or marked k 0) (lead_marked is_ascii_digit refl line) ∙ index_marked is_ascii_digit line in record {
      within = stop_within line count p.1;
      sign = stop_passes is_ascii_punctuation refl refl stop p.1;
      ascii = ltb-true stop 128 (stop_passes (λ x. nat_lt x 128) refl refl stop p.1);
      begins = block_none marked (no_number marked at) d.0 d.1;
    }

-- ---- what is written

pub joined : (old front back : List ℕ) → ((old ++ front) ++ backslash ∷ []) ++ back ≡ old ++ (front ++ backslash ∷ back)
joined old front back = append_assoc (old ++ front) (backslash ∷ []) back ∙ append_assoc old front (backslash ∷ back)

pub written_marked : (line : List ℕ) (at : ℕ) → IsLineMark line at → IsWrittenLine line (marked_at line at)
written_marked line at mark = record { same = inr (at, mark, refl); begins = λ _. mark.begins }

pub written_same : (line : List ℕ) → begins_block line ≡ begins_mark line → IsWrittenLine line line
written_same line e = record { same = inl refl; begins = λ h. e ∙ h }
