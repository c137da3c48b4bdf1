-- The characters of texts: what is so of the bytes is so of them.
use Rattle.std.specs.Prelude.{◌≡◌, ◌≢◌, ℕ, Bool, true, false, not, ◌==◌, List, [], ◌∷◌, refl}
use Rattle.std.specs.List.{list_all}
use Rattle.std.specs.Str.{IsUtf8, chars}
use Rattle.std.proofs.Math.Utf8.{encode, encodes}
use Rattle.std.proofs.lemmas.Bool.{and_parts, eqb-true}
use Rattle.std.proofs.lemmas.Str.{IsUtf8-past_char, chars-nil, chars_past_char, encodes-chars}
use Rattle.std.specs.Cmp.Derive.{both_true}
use mathlib.Core.Path.{◌∙◌, sym, ap}
use Rattle.dom_markup.specs.Bytes.{is_whitespace}
use Rattle.calm_pages.specs.Calm.{begins_line}
use Rattle.standard_rules.specs.Building.{is_space}
use Rattle.standard_rules.specs.PlainTrees.{is_text}
use Rattle.standard_rules.proofs.TreeLists.{each_space}

-- the characters of a text that is not empty are a text
pub text_chars : (bs : List ℕ) → IsUtf8 bs → bs ≢ [] → list_all (λ c. not (c == 0)) (chars bs) ≡ true → is_text (chars bs) ≡ true
text_chars bs u some h = by_chars (chars bs) (encodes-chars bs u) h
  where
    by_chars : (cs : List ℕ) → encodes cs ≡ bs → list_all (λ c. not (c == 0)) cs ≡ true → is_text cs ≡ true
    by_chars [] e k = absurd (some (sym e))
    by_chars (c ∷ cs) e k = k

-- a text that begins with no line feed has another first character
pub feed_chars : (bs : List ℕ) → IsUtf8 bs → begins_line bs ≡ false → (c : ℕ) (cs : List ℕ) → chars bs ≡ c ∷ cs → (c == 10) ≡ false
unfolding encode
feed_chars bs u h c cs e = by_test (c == 10) refl
  where
    by_test : (x : Bool) → (c == 10) ≡ x → x ≡ false
    by_test false k = refl
    by_test true k =
        let whole : encodes (10 ∷ cs) ≡ bs = ap (λ d. encodes (d ∷ cs)) (sym (eqb-true c 10 k)) ∙ ap encodes (sym e) ∙ encodes-chars bs u in
        ap begins_line whole ∙ h

-- white space
record Spaced (b : ℕ) : Type 0 where
  cut : (rest : List ℕ) → IsUtf8 (b ∷ rest) → (chars (b ∷ rest) ≡ b ∷ chars rest) × IsUtf8 rest
  is : is_space b ≡ true

spaced : (b : ℕ) → is_space b ≡ true → Spaced b
unfolding encode
spaced = each_space Spaced
    (record { cut = λ rest u. (chars_past_char (9 ∷ rest) rest 9 u refl, IsUtf8-past_char (9 ∷ rest) rest 9 u refl); is = refl })
    (record { cut = λ rest u. (chars_past_char (10 ∷ rest) rest 10 u refl, IsUtf8-past_char (10 ∷ rest) rest 10 u refl); is = refl })
    (record { cut = λ rest u. (chars_past_char (12 ∷ rest) rest 12 u refl, IsUtf8-past_char (12 ∷ rest) rest 12 u refl); is = refl })
    (record { cut = λ rest u. (chars_past_char (13 ∷ rest) rest 13 u refl, IsUtf8-past_char (13 ∷ rest) rest 13 u refl); is = refl })
    (record { cut = λ rest u. (chars_past_char (32 ∷ rest) rest 32 u refl, IsUtf8-past_char (32 ∷ rest) rest 32 u refl); is = refl })

pub space_chars : (bs : List ℕ) → IsUtf8 bs → list_all is_whitespace bs ≡ true → list_all is_space (chars bs) ≡ true
space_chars [] u h = ap (list_all is_space) chars-nil
space_chars (b ∷ bs) u h =
    let parts : (is_space b ≡ true) × (list_all is_whitespace bs ≡ true) = and_parts (is_whitespace b) (list_all is_whitespace bs) h in
    let s : Spaced b = spaced b parts.0 in
    let cut : (chars (b ∷ bs) ≡ b ∷ chars bs) × IsUtf8 bs = s.cut bs u in
    ap (list_all is_space) cut.0 ∙ both_true s.is (space_chars bs cut.1 parts.1)
