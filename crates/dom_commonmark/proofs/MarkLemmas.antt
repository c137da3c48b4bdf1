-- Which bytes get a backslash: only thirteen, all of them punctuation.
use Rattle.std.proofs.Common.{◌≡◌, ℕ, ◌<◌, Bool, true, false, List, refl, sym, ◌∙◌, ap, inl, inr}
use Rattle.std.specs.Prelude.{◌==◌, not, nat_lt}
use Rattle.std.specs.Char.{is_ascii_punctuation}
use Rattle.std.proofs.lemmas.Bool.{cases_Bool, eqb-true, ltb-true}
use Rattle.dom_nodes.specs.Ascii.{ampersand, asterisk, backslash, backtick, colon, dot, exclamation_mark, left_bracket, less_than, right_bracket, tilde, underscore, vertical_bar}
use Rattle.dom_commonmark.specs.Escaping.{is_marked}
use Rattle.dom_commonmark.specs.Inline.{is_plain}
use Rattle.dom_commonmark.specs.declared.escaping.Place.{Place}

-- the test passes for each of them
pub record MarksPass (Q : ℕ → Bool) : Type 0 where
  pub m1 : Q backslash ≡ true
  pub m2 : Q less_than ≡ true
  pub m3 : Q exclamation_mark ≡ true
  pub m4 : Q backtick ≡ true
  pub m5 : Q left_bracket ≡ true
  pub m6 : Q right_bracket ≡ true
  pub m7 : Q asterisk ≡ true
  pub m8 : Q tilde ≡ true
  pub m9 : Q underscore ≡ true
  pub m10 : Q ampersand ≡ true
  pub m11 : Q colon ≡ true
  pub m12 : Q dot ≡ true
  pub m13 : Q vertical_bar ≡ true

pub differ : (Q : ℕ → Bool) (b x : ℕ) → Q b ≡ false → Q x ≡ true → (b == x) ≡ false
differ Q b x fails passes = elim (cases_Bool (b == x)) [
  | inl t ↦ (let h : true ≡ false = sym (ap Q (eqb-true b x t) ∙ passes) ∙ fails in absurd (cc))
  | inr f ↦ f
]

pub unmarked : (Q : ℕ → Bool) → MarksPass Q → (place : Place) (before : List ℕ) (b : ℕ) (after : List ℕ) → Q b ≡ false → is_marked place before b after ≡ false
unmarked Q m place before b after fails =
    rw (differ Q b backslash fails m.m1, differ Q b less_than fails m.m2, differ Q b exclamation_mark fails m.m3, differ Q b backtick fails m.m4, differ Q b left_bracket fails m.m5, differ Q b right_bracket fails m.m6, differ Q b asterisk fails m.m7, differ Q b tilde fails m.m8, differ Q b underscore fails m.m9, differ Q b ampersand fails m.m10, differ Q b colon fails m.m11, differ Q b dot fails m.m12, differ Q b vertical_bar fails m.m13) refl

pub marked_pass : (Q : ℕ → Bool) → MarksPass Q → (place : Place) (before : List ℕ) (b : ℕ) (after : List ℕ) → is_marked place before b after ≡ true → Q b ≡ true
marked_pass Q m place before b after marked = elim (cases_Bool (Q b)) [
  | inl t ↦ t
  | inr f ↦ (let h : true ≡ false = sym marked ∙ unmarked Q m place before b after f in absurd (cc))
]

pub marked_punctuation : (place : Place) (before : List ℕ) (b : ℕ) (after : List ℕ) → is_marked place before b after ≡ true → is_ascii_punctuation b ≡ true
marked_punctuation place before b after marked =
    marked_pass is_ascii_punctuation (record { m1 = refl; m2 = refl; m3 = refl; m4 = refl; m5 = refl; m6 = refl; m7 = refl; m8 = refl; m9 = refl; m10 = refl; m11 = refl; m12 = refl; m13 = refl }) place before b after marked

pub marked_ascii : (place : Place) (before : List ℕ) (b : ℕ) (after : List ℕ) → is_marked place before b after ≡ true → b < 128
marked_ascii place before b after marked =
    let low : nat_lt b 128 ≡ true = marked_pass (λ x. nat_lt x 128) (record { m1 = refl; m2 = refl; m3 = refl; m4 = refl; m5 = refl; m6 = refl; m7 = refl; m8 = refl; m9 = refl; m10 = refl; m11 = refl; m12 = refl; m13 = refl }) place before b after marked in
    ltb-true b 128 low

negated : (a : Bool) → a ≡ true → not a ≡ false
negated true h = refl
negated false h = absurd (cc)

pub plain_unmarked : (place : Place) (before : List ℕ) (b : ℕ) (after : List ℕ) → is_plain b ≡ true → is_marked place before b after ≡ false
plain_unmarked place before b after plain =
    unmarked (λ x. not (is_plain x)) (record { m1 = refl; m2 = refl; m3 = refl; m4 = refl; m5 = refl; m6 = refl; m7 = refl; m8 = refl; m9 = refl; m10 = refl; m11 = refl; m12 = refl; m13 = refl }) place before b after (negated (is_plain b) plain)
