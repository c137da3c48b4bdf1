-- Marks, and what a chunk with backslashes resolves to.
use Rattle.std.proofs.Common.{◌≡◌, ℕ, ◌+◌, ◌-◌, ◌<◌, ◌≤◌, Bool, true, false, List, [], ◌∷◌, ◌++◌, length, take, drop, get_or, refl, sym, ◌∙◌, ap, subst, arith, append_assoc, append-nil, take_all, inl, inr, ◌⊎◌, Option, Some, None, length-drop}
use Rattle.std.specs.Prelude.{◌==◌, ◌&&◌, ◌||◌}
use Rattle.std.specs.List.{slice_range}
use Rattle.std.specs.Str.{IsCharBoundary, IsUtf8}
use Rattle.std.proofs.lemmas.Bool.{cases_Bool, eqb-true}
use Rattle.std.proofs.lemmas.List.{at_drop_more, at_drop_all, take_more, take-append-drop}
use Rattle.std.proofs.lemmas.Str.{IsCharBoundary-after_ascii}
use Rattle.dom_nodes.specs.Ascii.{asterisk, backslash, backtick, dot, equals_sign, exclamation_mark, greater_than, hyphen, left_bracket, less_than, number_sign, plus_sign, right_bracket, right_parenthesis, tilde, underscore, vertical_bar}
use Rattle.dom_md.specs.Chunks.{begins_block, escaped, is_list_marker, is_mark, is_marked, is_stop, is_underline, line_mark, with_marks, with_marks_at}
use Rattle.dom_md.specs.Marks.{Cuts, IsFirstMark}
use Rattle.dom_md.specs.Resolved.{is_punctuation, resolved, resolved_on}

-- one of the marks
mark_is : (b : ℕ) → is_mark b ≡ true → (P : ℕ → Type 0) → P backslash → P backtick → P asterisk → P underscore → P left_bracket → P right_bracket → P less_than → P vertical_bar → P tilde → P b
mark_is b mark P p1 p2 p3 p4 p5 p6 p7 p8 p9 =
    one (b == backslash) (b == backtick) (b == asterisk) (b == underscore) (b == left_bracket) (b == right_bracket) (b == less_than) (b == vertical_bar) (b == tilde) refl refl refl refl refl refl refl refl refl mark
  where
    at : (n : ℕ) → (b == n) ≡ true → P n → P b
    at n same p = subst P (sym (eqb-true b n same)) p

    one : (x1 x2 x3 x4 x5 x6 x7 x8 x9 : Bool) → (b == backslash) ≡ x1 → (b == backtick) ≡ x2 → (b == asterisk) ≡ x3 → (b == underscore) ≡ x4 → (b == left_bracket) ≡ x5 → (b == right_bracket) ≡ x6 → (b == less_than) ≡ x7 → (b == vertical_bar) ≡ x8 → (b == tilde) ≡ x9 → (x1 || x2 || x3 || x4 || x5 || x6 || x7 || x8 || x9) ≡ true → P b
    one true _ _ _ _ _ _ _ _ e _ _ _ _ _ _ _ _ h = at backslash e p1
    one false true _ _ _ _ _ _ _ _ e _ _ _ _ _ _ _ h = at backtick e p2
    one false false true _ _ _ _ _ _ _ _ e _ _ _ _ _ _ h = at asterisk e p3
    one false false false true _ _ _ _ _ _ _ _ e _ _ _ _ _ h = at underscore e p4
    one false false false false true _ _ _ _ _ _ _ _ e _ _ _ _ h = at left_bracket e p5
    one false false false false false true _ _ _ _ _ _ _ _ e _ _ _ h = at right_bracket e p6
    one false false false false false false true _ _ _ _ _ _ _ _ e _ _ h = at less_than e p7
    one false false false false false false false true _ _ _ _ _ _ _ _ e _ h = at vertical_bar e p8
    one false false false false false false false false true _ _ _ _ _ _ _ _ e h = at tilde e p9
    one false false false false false false false false false _ _ _ _ _ _ _ _ _ h = absurd (cc)

or_cases : (a b : Bool) → (a || b) ≡ true → (a ≡ true) ⊎ (b ≡ true)
or_cases true b h = inl refl
or_cases false b h = inr h

and_left : (a b : Bool) → (a && b) ≡ true → a ≡ true
and_left true b h = refl
and_left false b h = h

-- a byte before which a backslash stands is a mark or `!`
marked_is : (b : ℕ) (text : List ℕ) → is_marked b text ≡ true → (P : ℕ → Type 0) → (is_mark b ≡ true → P b) → P exclamation_mark → P b
marked_is b [] marked P mark bang = mark marked
marked_is b (next ∷ text) marked P mark bang = elim (or_cases (is_mark b) (b == exclamation_mark && next == left_bracket) marked) [
  | inl m ↦ mark m
  | inr both ↦ subst P (sym (eqb-true b exclamation_mark (and_left _ _ both))) bang
]

pub marked_ascii : (b : ℕ) (text : List ℕ) → is_marked b text ≡ true → b < 128
marked_ascii b text marked = marked_is b text marked (λ (n : ℕ). n < 128)
    (λ m. mark_is b m (λ (n : ℕ). n < 128) (omega arith) (omega arith) (omega arith) (omega arith) (omega arith) (omega arith) (omega arith) (omega arith) (omega arith)) (omega arith)

pub marked_punctuation : (b : ℕ) (text : List ℕ) → is_marked b text ≡ true → is_punctuation b ≡ true
marked_punctuation b text marked = marked_is b text marked (λ (n : ℕ). is_punctuation n ≡ true)
    (λ m. mark_is b m (λ (n : ℕ). is_punctuation n ≡ true) refl refl refl refl refl refl refl refl refl) refl

pub unmarked_plain : (b : ℕ) (text : List ℕ) → is_marked b text ≡ false → (b == backslash) ≡ false
unmarked_plain b [] h = elim (cases_Bool (b == backslash)) [ inl t ↦ (let no = rw t at h in absurd (cc)) | inr f ↦ f ]
unmarked_plain b (next ∷ text) h = elim (cases_Bool (b == backslash)) [ inl t ↦ (let no = rw t at h in absurd (cc)) | inr f ↦ f ]

-- ---- what the marks resolve to

pub resolved-marks : (text more : List ℕ) → resolved_on false (with_marks text ++ more) ≡ text ++ resolved_on false more
resolved-marks [] more = refl
resolved-marks (b ∷ text) more = elim (cases_Bool (is_marked b text)) as (λ t. resolved_on false (with_marks (b ∷ text) ++ more) ≡ (b ∷ text) ++ resolved_on false more) [
  | inl t ↦ rw (t, marked_punctuation b text t) (ap (λ r. b ∷ r) (resolved-marks text more))
  | inr f ↦ rw (f, unmarked_plain b text f) (ap (λ r. b ∷ r) (resolved-marks text more))
]

-- ---- the search for the first mark

-- up to a place nothing is changed
abbrev pub IsPlainTo : List ℕ → ℕ → Type 0
IsPlainTo text at = with_marks text ≡ take at text ++ with_marks (drop at text)

pub marked_here : (text : List ℕ) (at : ℕ) → at < length text → IsPlainTo text at → is_marked (get_or text at 0) (drop (at + 1) text) ≡ true →
    with_marks text ≡ take at text ++ backslash ∷ get_or text at 0 ∷ with_marks (drop (at + 1) text)
marked_here text at within plain marked = plain ∙ ap (λ t. take at text ++ t) (at_drop_more with_marks text at 0 within ∙ rw marked refl)

pub plain_more : (text : List ℕ) (at : ℕ) → at < length text → IsPlainTo text at → is_marked (get_or text at 0) (drop (at + 1) text) ≡ false → IsPlainTo text (at + 1)
plain_more text at within plain unmarked =
    let b = get_or text at 0 in
    let rest = with_marks (drop (at + 1) text) in
    let here : with_marks (drop at text) ≡ b ∷ rest = at_drop_more with_marks text at 0 within ∙ rw unmarked refl in
    let more : take (at + 1) text ≡ take at text ++ b ∷ [] = take_more text at 0 within in
    plain ∙ ap (λ t. take at text ++ t) here ∙ sym (append_assoc (take at text) (b ∷ []) rest) ∙ ap (λ t. t ++ rest) (sym more)

pub plain_all : (text : List ℕ) (at : ℕ) → length text ≤ at → IsPlainTo text at → with_marks text ≡ text
plain_all text at past plain = plain ∙ (ap (λ t. take at text ++ t) (at_drop_all with_marks text at past) ∙ (append-nil (take at text) ∙ take_all at text past))

pub after_mark : (text : List ℕ) (at : ℕ) → IsUtf8 text → IsFirstMark text at → IsCharBoundary text (at + 1)
after_mark text at utf8 found = IsCharBoundary-after_ascii text at utf8 found.within found.ascii

pub cut_parts : (text before mark after : List ℕ) (at : ℕ) → IsFirstMark text at → before ≡ slice_range text 0 at → mark ≡ slice_range text at (at + 1) → after ≡ drop (at + 1) text → Cuts text before mark after
cut_parts text before mark after at found p q r =
    let all : at - 0 ≡ at = omega arith in
    let one : at + 1 - at ≡ 1 = omega arith in
    let front : before ≡ take at text = p ∙ ap (λ n. take n text) all in
    let middle : mark ≡ get_or text at 0 ∷ [] = q ∙ (ap (λ n. take n (drop at text)) one ∙ at_drop_more (take 1) text at 0 found.within) in
    record {
      whole = rw (front, middle, r) found.whole;
      shorter = rw r (let within = found.within in omega (arith, length-drop (at + 1) text));
    }

-- ---- the place of a mark at a line start

-- punctuation that is a mark only there
pub record IsPlain (b : ℕ) : Type 0 where
  pub ascii : b < 128
  pub punctuation : is_punctuation b ≡ true
  pub unmarked : (text : List ℕ) → is_marked b text ≡ false

unmarked_by : (b : ℕ) → is_mark b ≡ false → (b == exclamation_mark) ≡ false → (text : List ℕ) → is_marked b text ≡ false
unmarked_by b mark bang [] = mark
unmarked_by b mark bang (next ∷ text) = rw (mark, bang) refl

plain_at : (b n : ℕ) → (b == n) ≡ true → n < 128 → is_punctuation n ≡ true → is_mark n ≡ false → (n == exclamation_mark) ≡ false → IsPlain b
plain_at b n same low p m e = subst IsPlain (sym (eqb-true b n same)) (record { ascii = low; punctuation = p; unmarked = unmarked_by n m e })

and_right : (a b : Bool) → (a && b) ≡ true → b ≡ true
and_right true b h = h
and_right false b h = absurd (cc)

plain_first : (b : ℕ) (text : List ℕ) → begins_block (b ∷ text) ≡ true → IsPlain b
plain_first b text h = one (b == number_sign) (b == greater_than) (b == hyphen) (b == plus_sign) refl refl refl refl h
  where
    one : (x1 x2 x3 x4 : Bool) → (b == number_sign) ≡ x1 → (b == greater_than) ≡ x2 → (b == hyphen) ≡ x3 → (b == plus_sign) ≡ x4 → (x1 || x2 || x3 || x4) ≡ true → IsPlain b
    one true _ _ _ e _ _ _ h = plain_at b number_sign e (omega arith) refl refl refl
    one false true _ _ _ e _ _ h = plain_at b greater_than e (omega arith) refl refl refl
    one false false true _ _ _ e _ h = plain_at b hyphen e (omega arith) refl refl refl
    one false false false true _ _ _ e h = plain_at b plus_sign e (omega arith) refl refl refl
    one false false false false _ _ _ _ h = absurd (cc)

plain_stop : (b : ℕ) → is_stop b ≡ true → IsPlain b
plain_stop b h = elim (or_cases (b == dot) (b == right_parenthesis) h) [
  | inl e ↦ plain_at b dot e (omega arith) refl refl refl
  | inr e ↦ plain_at b right_parenthesis e (omega arith) refl refl refl
]

pub record IsPlace (chunk : List ℕ) (at : ℕ) : Type 0 where
  pub within : at < length chunk
  pub plain : IsPlain (get_or chunk at 0)

place_first : (chunk : List ℕ) → (begins_block chunk || is_underline chunk) ≡ true → IsPlace chunk 0
place_first [] h = absurd (cc)
place_first (b ∷ text) h = record {
  within = omega arith;
  plain = elim (or_cases (begins_block (b ∷ text)) (is_underline (b ∷ text)) h) [
    | inl block ↦ plain_first b text block
    | inr under ↦ plain_at b equals_sign (and_left _ _ under) (omega arith) refl refl refl
  ];
}

place_last : (chunk : List ℕ) → is_list_marker chunk ≡ true → IsPlace chunk (length chunk - 1)
place_last [] h = absurd (cc)
place_last (b ∷ text) h = record { within = omega arith; plain = plain_stop _ (and_right _ _ h) }

pub line_place : (chunk : List ℕ) (at : ℕ) → line_mark chunk ≡ Some at → IsPlace chunk at
line_place chunk at is = elim (cases_Bool (begins_block chunk || is_underline chunk)) [
  | inl t ↦ (let h : Some 0 ≡ Some at = rw t at is in let zero_is : 0 ≡ at = cc in subst (IsPlace chunk) zero_is (place_first chunk t))
  | inr f ↦ elim (cases_Bool (is_list_marker chunk)) [
    | inl t ↦ (let h : Some (length chunk - 1) ≡ Some at = rw (f, t) at is in let last_is : length chunk - 1 ≡ at = cc in subst (IsPlace chunk) last_is (place_last chunk t))
    | inr g ↦ (let h : None ≡ Some at = rw (f, g) at is in absurd (cc))
  ]
]

resolved-place : (chunk : List ℕ) (at : ℕ) (more : List ℕ) → IsPlace chunk at → resolved (with_marks_at (Some at) chunk ++ more) ≡ chunk ++ resolved more
resolved-place chunk at more place =
    let b = get_or chunk at 0 in
    let rest = drop (at + 1) chunk in
    let behind : resolved_on true (with_marks (drop at chunk) ++ more) ≡ (b ∷ rest) ++ resolved more =
    at_drop_more (λ t. resolved_on true (with_marks t ++ more)) chunk at 0 place.within ∙ rw (place.plain.unmarked rest, place.plain.punctuation) (ap (λ t. b ∷ t) (resolved-marks rest more)) in
    let whole : b ∷ rest ≡ drop at chunk = sym (at_drop_more (λ t. t) chunk at 0 place.within) in
    ap resolved (append_assoc (with_marks (take at chunk)) (backslash ∷ with_marks (drop at chunk)) more)
    ∙ resolved-marks (take at chunk) (backslash ∷ (with_marks (drop at chunk) ++ more))
    ∙ ap (λ t. take at chunk ++ t) (behind ∙ ap (λ t. t ++ resolved more) whole)
    ∙ sym (append_assoc (take at chunk) (drop at chunk) (resolved more))
    ∙ ap (λ t. t ++ resolved more) (take-append-drop at chunk)

-- what a chunk with backslashes resolves to, whatever stands behind it
pub resolved-chunk : (line_start : Bool) (chunk more : List ℕ) → resolved (escaped line_start chunk ++ more) ≡ chunk ++ resolved more
resolved-chunk false chunk more = resolved-marks chunk more
resolved-chunk true chunk more = by_place (line_mark chunk) refl
  where
    by_place : (o : Option ℕ) → line_mark chunk ≡ o → resolved (with_marks_at (line_mark chunk) chunk ++ more) ≡ chunk ++ resolved more
    by_place None is = rw is (resolved-marks chunk more)
    by_place (Some at) is = rw is (resolved-place chunk at more (line_place chunk at is))

pub resolved-escaped : (line_start : Bool) (chunk : List ℕ) → resolved (escaped line_start chunk) ≡ chunk
resolved-escaped line_start chunk = ap resolved (sym (append-nil (escaped line_start chunk))) ∙ (resolved-chunk line_start chunk [] ∙ append-nil chunk)
