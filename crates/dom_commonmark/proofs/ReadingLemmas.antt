-- An escaped text is read as the text.
use Rattle.std.proofs.Common.{◌≡◌, ℕ, Bool, true, false, List, [], ◌∷◌, ◌++◌, refl, sym, ◌∙◌, ap, inl, inr, ◌⊎◌, Some}
use Rattle.std.specs.Prelude.{◌==◌, ◌&&◌, ◌||◌, not, slice_index_or, if◌then◌else◌}
use Rattle.std.specs.Char.{is_ascii_alphanumeric}
use Rattle.std.proofs.lemmas.Bool.{cases_Bool, eqb-true}
use Rattle.dom_nodes.specs.Ascii.{ampersand, asterisk, at_sign, backslash, backtick, colon, dot, exclamation_mark, left_bracket, less_than, number_sign, right_bracket, semicolon, slash, space, tilde, underscore, vertical_bar}
use Rattle.dom_commonmark.specs.Escaping.{escaped, escaped_on, is_marked}
use Rattle.dom_commonmark.specs.Inline.{begins_address, begins_mail, begins_tag, can_begin, first_of, is_in_mail, is_in_spaces, is_in_word, is_reference, is_www}
use Rattle.dom_commonmark.specs.Reading.{IsBack, IsFront, Reads, behind, read_as_text}
use Rattle.dom_commonmark.specs.declared.escaping.Place.{Place}
use Rattle.dom_commonmark.specs.Lines.{begins_mark, is_nil}
use Rattle.dom_commonmark.proofs.MarkLemmas.{MarksPass, differ, marked_punctuation, unmarked}

and_left : (a b : Bool) → (a && b) ≡ true → a ≡ true
and_left true b h = refl
and_left false b h = h

and_more : (a r s : Bool) → (a && r) ≡ true → (r ≡ true → s ≡ true) → (a && s) ≡ true
and_more true r s h k = k h
and_more false r s h k = h

and_less : (a r s : Bool) → (a && r) ≡ false → (r ≡ false → s ≡ false) → (a && s) ≡ false
and_less true r s h k = k h
and_less false r s h k = h

both : (a b : Bool) → not (a && b) ≡ false → (a ≡ true) × (b ≡ true)
both true true h = (refl, refl)
both true false h = absurd (cc)
both false b h = absurd (cc)

joined : (a b : Bool) → a ≡ true → b ≡ true → not (a && b) ≡ false
joined a b p q = rw (p, q) refl

never : true ≡ false → (A : Type 0) → A
never h A = absurd (cc)

-- ---- what stands before a byte in the text, and in what was written

pub record Follows (text made : List ℕ) : Type 0 where
  pub same : (Q : ℕ → Bool) → Q 0 ≡ false → Q (first_of text) ≡ true → Q (first_of made) ≡ true
  pub one : (slice_index_or made 0 0 == 119) ≡ true → (slice_index_or text 0 0 == 119) ≡ true
  pub two : (slice_index_or made 0 0 == 119 && slice_index_or made 1 0 == 119) ≡ true → (slice_index_or text 0 0 == 119 && slice_index_or text 1 0 == 119) ≡ true
  pub www : is_www made ≡ true → is_www text ≡ true

no_w : (before : List ℕ) → IsFront before → (first_of before == 119) ≡ true → true ≡ false
no_w before front t = sym (ap is_ascii_alphanumeric (eqb-true (first_of before) 119 t)) ∙ front

follows_start : (before : List ℕ) → IsFront before → Follows [] before
follows_start before front = record {
  same = λ Q zero_fails h. never (sym h ∙ zero_fails) _;
  one = λ h. never (no_w before front h) _;
  two = λ h. never (no_w before front (and_left _ _ h)) _;
  www = λ h. never (no_w before front (and_left _ _ h)) _;
}

follows_plain : (text made : List ℕ) (b : ℕ) → Follows text made → Follows (b ∷ text) (b ∷ made)
follows_plain text made b f = record {
  same = λ Q zero_fails h. h;
  one = λ h. h;
  two = λ h. and_more (b == 119) (slice_index_or made 0 0 == 119) (slice_index_or text 0 0 == 119) h f.one;
  www = λ h. and_more (b == 119) (slice_index_or made 0 0 == 119 && slice_index_or made 1 0 == 119) (slice_index_or text 0 0 == 119 && slice_index_or text 1 0 == 119) h f.two;
}

follows_marked : (text made : List ℕ) (b : ℕ) → Follows (b ∷ text) (b ∷ backslash ∷ made)
follows_marked text made b = record {
  same = λ Q zero_fails h. h;
  one = λ h. h;
  two = λ h. and_more (b == 119) false (slice_index_or text 0 0 == 119) h (λ h2. never (sym h2) _);
  www = λ h. and_more (b == 119) false (slice_index_or text 0 0 == 119 && slice_index_or text 1 0 == 119) h (λ h2. never (sym h2) _);
}

-- ---- what stands behind it

head_end : (Q : ℕ → Bool) → Q backslash ≡ false → (place : Place) (before text after : List ℕ) → Q (first_of after) ≡ false → Q (first_of text) ≡ false → Q (first_of (escaped_on place before text ++ after)) ≡ false
head_end Q q place before [] after last h = last
head_end Q q place before (c ∷ text) after last h = elim (cases_Bool (is_marked place before c text)) as (λ t. Q (first_of (escaped_on place before (c ∷ text) ++ after)) ≡ false) [
  | inl t ↦ rw t q
  | inr f ↦ rw f h
]

head_some : (Q : ℕ → Bool) → Q backslash ≡ false → (place : Place) (before text after : List ℕ) → is_nil text ≡ false → Q (first_of text) ≡ false → Q (first_of (escaped_on place before text ++ after)) ≡ false
head_some Q q place before [] after some h = never some _
head_some Q q place before (c ∷ text) after some h = elim (cases_Bool (is_marked place before c text)) as (λ t. Q (first_of (escaped_on place before (c ∷ text) ++ after)) ≡ false) [
  | inl t ↦ rw t q
  | inr f ↦ rw f h
]

head_keeps : (Q : ℕ → Bool) → MarksPass (λ x. not (Q x)) → Q 0 ≡ false → (place : Place) (before text after : List ℕ) → Q (first_of text) ≡ true → Q (first_of (escaped_on place before text ++ after)) ≡ true
head_keeps Q m none place before [] after h = never (sym h ∙ none) _
head_keeps Q m none place before (c ∷ text) after h = rw (unmarked (λ x. not (Q x)) m place before c text (ap not h)) h

or_left : (a b : Bool) → (a || b) ≡ false → a ≡ false
or_left true b h = h
or_left false b h = refl

none_of : (a b : Bool) → a ≡ false → b ≡ false → (a || b) ≡ false
none_of a b p q = rw (p, q) refl

no_reference : (place : Place) (after : List ℕ) → IsBack place after → is_reference after ≡ false
no_reference place [] back = refl
no_reference place (c ∷ after) back = rw (back.no_semicolon, back.no_word, back.no_number_sign) refl

ref_step : (s w r p : Bool) → (if s then true else if w then r else false) ≡ false → (r ≡ false → p ≡ false) → (if s then true else if w then p else false) ≡ false
ref_step true w r p h k = h
ref_step false true r p h k = k h
ref_step false false r p h k = refl

reference : (place : Place) (before text after : List ℕ) → IsBack place after → is_reference text ≡ false → is_reference (escaped_on place before text ++ after) ≡ false
reference place before [] after back h = no_reference place after back
reference place before (c ∷ text) after back h = elim (cases_Bool (is_marked place before c text)) as (λ t. is_reference (escaped_on place before (c ∷ text) ++ after) ≡ false) [
  | inl t ↦ rw t refl
  | inr f ↦ rw f (ref_step (c == semicolon) (is_ascii_alphanumeric c || c == number_sign) (is_reference text) (is_reference (escaped_on place (c ∷ before) text ++ after)) h (λ r. reference place (c ∷ before) text after back r))
]

mail : (place : Place) (before text after : List ℕ) → begins_mail true text ≡ false → begins_mail false (escaped_on place before text ++ after) ≡ false
mail place before [] after h = never h _
mail place before (c ∷ text) after h = elim (cases_Bool (is_marked place before c text)) as (λ t. begins_mail false (escaped_on place before (c ∷ text) ++ after) ≡ false) [
  | inl t ↦ rw t refl
  | inr f ↦ rw f (ref_step (c == at_sign) (is_in_mail c) (begins_mail true text) (begins_mail false (escaped_on place (c ∷ before) text ++ after)) h (λ r. mail place (c ∷ before) text after r))
]

-- neither a tag nor an address of mail begins
tag : (place : Place) (before text after : List ℕ) → begins_mail true text ≡ false → (begins_tag (first_of text) || begins_mail false text) ≡ false →
    (begins_tag (first_of (escaped_on place before text ++ after)) || begins_mail false (escaped_on place before text ++ after)) ≡ false
tag place before [] after h p = never h _
tag place before (c ∷ text) after h p =
    none_of (begins_tag (first_of (escaped_on place before (c ∷ text) ++ after))) (begins_mail false (escaped_on place before (c ∷ text) ++ after))
    (head_some begins_tag refl place before (c ∷ text) after refl (or_left (begins_tag c) (begins_mail false (c ∷ text)) p)) (mail place before (c ∷ text) after h)

address : (place : Place) (before text after : List ℕ) → IsBack place after → begins_address text ≡ false → begins_address (escaped_on place before text ++ after) ≡ false
address place before [] after back h = rw back.no_slash refl
address place before (c ∷ text) after back h = elim (cases_Bool (is_marked place before c text)) as (λ t. begins_address (escaped_on place before (c ∷ text) ++ after) ≡ false) [
  | inl t ↦ rw t refl
  | inr f ↦ rw f (and_less (c == slash) (first_of text == slash) (first_of (escaped_on place (c ∷ before) text ++ after) == slash) h (λ r. head_end (λ x. x == slash) refl place (c ∷ before) text after back.no_slash r))
]

-- ---- a byte without a backslash

parts : (x y z l r : Bool) → (if x then true else if y then true else if z then l else r) ≡ false → (x ≡ false) × (y ≡ false) × (((z ≡ true) × (l ≡ false)) ⊎ ((z ≡ false) × (r ≡ false)))
parts true y z l r h = never h _
parts false true z l r h = never h _
parts false false true l r h = (refl, refl, inl (refl, h))
parts false false false l r h = (refl, refl, inr (refl, h))

chain : (c1 c2 c3 c4 c5 c6 c7 c8 p2 p3 p4 p5 p6 p7 p8 last q2 q3 q4 q5 q6 q7 q8 : Bool) →
    (if c1 then true else if c2 then p2 else if c3 then p3 else if c4 then p4 else if c5 then p5 else if c6 then p6 else if c7 then p7 else if c8 then p8 else last) ≡ false →
    (p2 ≡ false → q2 ≡ false) → (p3 ≡ false → q3 ≡ false) → (c4 ≡ true → p4 ≡ false → q4 ≡ false) → (p5 ≡ false → q5 ≡ false) → (c6 ≡ true → p6 ≡ false → q6 ≡ false) → (p7 ≡ false → q7 ≡ false) → (p8 ≡ false → q8 ≡ false) →
    (if c1 then true else if c2 then q2 else if c3 then q3 else if c4 then q4 else if c5 then q5 else if c6 then q6 else if c7 then q7 else if c8 then q8 else last) ≡ false
chain true c2 c3 c4 c5 c6 c7 c8 p2 p3 p4 p5 p6 p7 p8 last q2 q3 q4 q5 q6 q7 q8 h k2 k3 k4 k5 k6 k7 k8 = h
chain false true c3 c4 c5 c6 c7 c8 p2 p3 p4 p5 p6 p7 p8 last q2 q3 q4 q5 q6 q7 q8 h k2 k3 k4 k5 k6 k7 k8 = k2 h
chain false false true c4 c5 c6 c7 c8 p2 p3 p4 p5 p6 p7 p8 last q2 q3 q4 q5 q6 q7 q8 h k2 k3 k4 k5 k6 k7 k8 = k3 h
chain false false false true c5 c6 c7 c8 p2 p3 p4 p5 p6 p7 p8 last q2 q3 q4 q5 q6 q7 q8 h k2 k3 k4 k5 k6 k7 k8 = k4 refl h
chain false false false false true c6 c7 c8 p2 p3 p4 p5 p6 p7 p8 last q2 q3 q4 q5 q6 q7 q8 h k2 k3 k4 k5 k6 k7 k8 = k5 h
chain false false false false false true c7 c8 p2 p3 p4 p5 p6 p7 p8 last q2 q3 q4 q5 q6 q7 q8 h k2 k3 k4 k5 k6 k7 k8 = k6 refl h
chain false false false false false false true c8 p2 p3 p4 p5 p6 p7 p8 last q2 q3 q4 q5 q6 q7 q8 h k2 k3 k4 k5 k6 k7 k8 = k7 h
chain false false false false false false false true p2 p3 p4 p5 p6 p7 p8 last q2 q3 q4 q5 q6 q7 q8 h k2 k3 k4 k5 k6 k7 k8 = k8 h
chain false false false false false false false false p2 p3 p4 p5 p6 p7 p8 last q2 q3 q4 q5 q6 q7 q8 h k2 k3 k4 k5 k6 k7 k8 = h

some_behind : (a n : Bool) → (a && n) ≡ false → a ≡ true → n ≡ false
some_behind true n h t = h
some_behind false n h t = never (sym t) _

spaces : MarksPass (λ x. not (x == space))
spaces = record { m1 = refl; m2 = refl; m3 = refl; m4 = refl; m5 = refl; m6 = refl; m7 = refl; m8 = refl; m9 = refl; m10 = refl; m11 = refl; m12 = refl; m13 = refl }

letters : MarksPass (λ x. not (is_ascii_alphanumeric x))
letters = record { m1 = refl; m2 = refl; m3 = refl; m4 = refl; m5 = refl; m6 = refl; m7 = refl; m8 = refl; m9 = refl; m10 = refl; m11 = refl; m12 = refl; m13 = refl }

www_stays : (text made : List ℕ) → Follows text made → is_www text ≡ false → is_www made ≡ false
www_stays text made f h = elim (cases_Bool (is_www made)) [
  | inl t ↦ never (sym (f.www t) ∙ h) _
  | inr n ↦ n
]

in_the_middle : (place : Place) (before made : List ℕ) (b : ℕ) (text after : List ℕ) → Follows before made → IsBack place after →
    (b == less_than && begins_mail true text) ≡ false → (b == exclamation_mark && is_nil text) ≡ false → can_begin place.cell before b text ≡ false →
    can_begin place.cell made b (escaped_on place (b ∷ before) text ++ after) ≡ false
in_the_middle place before made b text after f back lt bang h =
    let more = escaped_on place (b ∷ before) text ++ after in
    chain (b == backtick || b == left_bracket || b == right_bracket) (b == asterisk || b == tilde) (b == underscore) (b == less_than) (b == ampersand) (b == exclamation_mark) (b == colon) (b == dot)
    (not (is_in_spaces before text)) (not (is_in_word before text)) (begins_tag (first_of text) || begins_mail false text) (is_reference text) (first_of text == left_bracket) (begins_address text) (is_www before) (b == vertical_bar && place.cell)
    (not (is_in_spaces made more)) (not (is_in_word made more)) (begins_tag (first_of more) || begins_mail false more) (is_reference more) (first_of more == left_bracket) (begins_address more) (is_www made) h
    (λ p. let two = both (first_of before == space) (first_of text == space) p in
    joined (first_of made == space) (first_of more == space) (f.same (λ x. x == space) refl two.0) (head_keeps (λ x. x == space) spaces refl place (b ∷ before) text after two.1))
    (λ p. let two = both (is_ascii_alphanumeric (first_of before)) (is_ascii_alphanumeric (first_of text)) p in
    joined (is_ascii_alphanumeric (first_of made)) (is_ascii_alphanumeric (first_of more)) (f.same is_ascii_alphanumeric refl two.0) (head_keeps is_ascii_alphanumeric letters refl place (b ∷ before) text after two.1))
    (λ c p. tag place (b ∷ before) text after (some_behind (b == less_than) (begins_mail true text) lt c) p)
    (λ p. reference place (b ∷ before) text after back p)
    (λ c p. head_some (λ x. x == left_bracket) refl place (b ∷ before) text after (some_behind (b == exclamation_mark) (is_nil text) bang c) p)
    (λ p. address place (b ∷ before) text after back p)
    (λ p. www_stays before made f p)

no_link : (place : Place) (after : List ℕ) → IsBack place after → place.before_link ≡ false → (first_of after == left_bracket) ≡ false
no_link place after back l = elim (cases_Bool (first_of after == left_bracket)) [
  | inl t ↦ never (sym (back.only_links t) ∙ l) _
  | inr n ↦ n
]

-- a `!` at the end
at_the_end : (place : Place) (before made : List ℕ) (b : ℕ) (text after : List ℕ) → IsBack place after → (b == exclamation_mark && is_nil text) ≡ true → place.before_link ≡ false →
    can_begin place.cell made b (escaped_on place (b ∷ before) text ++ after) ≡ false
at_the_end place before made b [] after back t l = rw (eqb-true b exclamation_mark (and_left _ _ t)) (no_link place after back l)
at_the_end place before made b (c ∷ text) after back t l = never (sym (not_both (b == exclamation_mark) t)) _
  where
    not_both : (a : Bool) → (a && false) ≡ true → false ≡ true
    not_both true h = h
    not_both false h = h

cannot_begin : (place : Place) (before made : List ℕ) (b : ℕ) (text after : List ℕ) → Follows before made → IsBack place after → is_marked place before b text ≡ false →
    ((b == backslash) ≡ false) × (can_begin place.cell made b (escaped_on place (b ∷ before) text ++ after) ≡ false)
cannot_begin place before made b text after f back h =
    let p = parts (b == backslash) (b == less_than && begins_mail true text) (b == exclamation_mark && is_nil text) place.before_link (can_begin place.cell before b text) h in (
      p.0,
      elim p.2 [
        | inl e ↦ at_the_end place before made b text after back e.0 e.1
        | inr m ↦ in_the_middle place before made b text after f back p.1 m.0 m.1
      ],
    )

pub reads_on : (place : Place) (before made text after : List ℕ) → Follows before made → IsBack place after → read_as_text false place.cell made (escaped_on place before text) after ≡ Some text
reads_on place before made [] after f back = refl
reads_on place before made (b ∷ text) after f back = elim (cases_Bool (is_marked place before b text)) as (λ t. read_as_text false place.cell made (escaped_on place before (b ∷ text)) after ≡ Some (b ∷ text)) [
  | inl t ↦ rw (t, marked_punctuation place before b text t) (ap (behind b) (reads_on place (b ∷ before) (b ∷ backslash ∷ made) text after (follows_marked before made b) back))
  | inr n ↦ (let c = cannot_begin place before made b text after f back n in
      rw (n, c.0, c.1) (ap (behind b) (reads_on place (b ∷ before) (b ∷ made) text after (follows_plain before made b f) back)))
]

-- ---- at the beginning of a line

less_parts : (m t l : Bool) → (if m then true else t || l) ≡ false → (m ≡ false) × (t ≡ false)
less_parts true t l h = never h _
less_parts false true l h = never h _
less_parts false false l h = (refl, refl)

some_text : (text : List ℕ) → begins_mail true text ≡ false → is_nil text ≡ false
some_text [] h = never h _
some_text (b ∷ text) h = refl

less_than_alone : (place : Place) (text : List ℕ) → is_marked place [] less_than text ≡ false → (begins_mail true text ≡ false) × (begins_tag (first_of text) ≡ false)
less_than_alone place text f = less_parts (begins_mail true text) (begins_tag (first_of text)) (begins_mail false text) f

no_tag : (place : Place) (b : ℕ) (text after : List ℕ) → is_marked place [] b text ≡ false → (b == less_than && begins_tag (first_of (escaped_on place (b ∷ []) text ++ after))) ≡ false
no_tag place b text after f = elim (cases_Bool (b == less_than)) as (λ t. (b == less_than && begins_tag (first_of (escaped_on place (b ∷ []) text ++ after))) ≡ false) [
  | inl t ↦ (let p = less_than_alone place text (sym (ap (λ x. is_marked place [] x text) (eqb-true b less_than t)) ∙ f) in
      rw t (head_some begins_tag refl place (b ∷ []) text after (some_text text p.0) p.1))
  | inr n ↦ rw n refl
]

starts_as_text : (place : Place) (text after : List ℕ) → is_nil text ≡ false → begins_mark (escaped place text ++ after) ≡ false
starts_as_text place [] after some = never some _
starts_as_text place (b ∷ text) after some = elim (cases_Bool (is_marked place [] b text)) as (λ t. begins_mark (escaped place (b ∷ text) ++ after) ≡ false) [
  | inl t ↦ rw t refl
  | inr f ↦ (let Q = λ (x : ℕ). is_marked place [] x text in
      rw (f, differ Q b asterisk f refl, differ Q b underscore f refl, differ Q b backtick f refl, differ Q b tilde f refl, differ Q b left_bracket f refl) (no_tag place b text after f))
]

pub reads-escaped : (place : Place) (old new text : List ℕ) → new ≡ old ++ escaped place text → Reads place old new text
reads-escaped place old new text is = record {
  piece = escaped place text;
  is = is;
  reads = λ before after front back. reads_on place [] before text after (follows_start before front) back;
  starts = λ some after. starts_as_text place text after some;
}
