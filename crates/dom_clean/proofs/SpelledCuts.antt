-- Where a text has a character that no page can have.
use Rattle.std.proofs.Common.{◌≡◌, ℕ, ◌<◌, ◌+◌, ◌-◌, ◌==◌, Bool, true, false, cond, List, [], ◌∷◌, ◌++◌, refl, ap, ◌∙◌, length, take, drop, get_or, arith, length-drop}
use Rattle.std.specs.Prelude.{◌||◌, encode_utf8}
use Rattle.std.specs.List.{flat_map, slice_range}
use Rattle.std.specs.Str.{IsCharBoundary, IsUtf8, chars, encode_utf8_all}
use Rattle.std.proofs.Math.Utf8.{scalar, scalars}
use Rattle.std.proofs.lemmas.Bool.{and_parts, eqb-true}
use Rattle.std.proofs.lemmas.Str.{IsUtf8-take, encodes-chars, scalars-chars, IsCharBoundary-before_ascii, IsCharBoundary-after_ascii}
use Rattle.memchr.specs.Find.{NoneBefore, Nowhere, Passes, is_byte2}
use Rattle.dom_markup.proofs.html.EscapeLemmas.{DifferAt, first_passes, none_passes}
use Rattle.dom_clean.specs.Cuts.{SpellsAfter}
use Rattle.dom_clean.specs.Fates.{spellable, spelled_char}

-- a character that stays, whichever it is
abbrev pub plain_char : ℕ → List ℕ
plain_char c = cond (scalar c) (encode_utf8 c) []

plain_all : (cs : List ℕ) → scalars cs ≡ true → flat_map plain_char cs ≡ encode_utf8_all cs
plain_all [] all = refl
plain_all (c ∷ cs) all =
    let h = and_parts (scalar c) (scalars cs) all in
    ap (λ b. cond b (encode_utf8 c) [] ++ flat_map plain_char cs) h.0 ∙ ap (λ (l : List ℕ). encode_utf8 c ++ l) (plain_all cs h.1)

plain_text : (text : List ℕ) → IsUtf8 text → flat_map plain_char (chars text) ≡ text
plain_text text utf8 = plain_all (chars text) (scalars-chars text utf8) ∙ encodes-chars text utf8

unspelled_ascii : (c : ℕ) (x y : Bool) → (c == 0) ≡ x → (c == 13) ≡ y → (x || y) ≡ true → c < 128
unspelled_ascii c true y p q h = let is : c ≡ 0 = eqb-true c 0 p in omega arith
unspelled_ascii c false true p q h = let is : c ≡ 13 = eqb-true c 13 q in omega arith
unspelled_ascii c false false p q h = absurd (cc)

spelled_same : (c : ℕ) (x y : Bool) → (c == 0) ≡ x → (c == 13) ≡ y → (x || y) ≡ false → spelled_char c ≡ plain_char c
spelled_same c true y p q h = absurd (cc)
spelled_same c false true p q h = absurd (cc)
spelled_same c false false p q h = rw (p, q) refl

spelled_gone : (c : ℕ) (x y : Bool) → (c == 0) ≡ x → (c == 13) ≡ y → (x || y) ≡ true → spelled_char c ≡ []
spelled_gone c true y p q h = rw p refl
spelled_gone c false true p q h = rw (p, q) refl
spelled_gone c false false p q h = absurd (cc)

pub spelled_differs : DifferAt (is_byte2 0 13) spelled_char plain_char
spelled_differs = record {
  ascii = λ c. unspelled_ascii c (c == 0) (c == 13) refl refl;
  same = λ c. spelled_same c (c == 0) (c == 13) refl refl;
}

-- the text has none, and is left whole
pub spells_all : (text : List ℕ) → IsUtf8 text → Nowhere (Passes (is_byte2 0 13) text) 0 (length text) → spellable text ≡ text
spells_all text utf8 none = none_passes (is_byte2 0 13) spelled_char plain_char spelled_differs text utf8 none ∙ plain_text text utf8

-- the text has one at that place, and none before it
pub spells_cut : (text : List ℕ) (at : ℕ) → IsUtf8 text → NoneBefore (Passes (is_byte2 0 13) text) 0 (length text) at × Passes (is_byte2 0 13) text at → SpellsAfter text (take at text) (drop (at + 1) text)
spells_cut text at utf8 found =
    let c = get_or text at 0 in
    let ascii : c < 128 = spelled_differs.ascii c found.1 in
    let boundary : IsCharBoundary text at = IsCharBoundary-before_ascii text at found.0.high ascii in
    record {
      whole = first_passes (is_byte2 0 13) spelled_char plain_char spelled_differs text at utf8 found.0 found.1
          ∙ ap (λ t. t ++ (spelled_char c ++ spellable (drop (at + 1) text))) (plain_text (take at text) (IsUtf8-take text at utf8 boundary))
          ∙ ap (λ t. take at text ++ (t ++ spellable (drop (at + 1) text))) (spelled_gone c (c == 0) (c == 13) refl refl found.1);
      shorter = omega (arith, length-drop (at + 1) text, found.0.high);
    }

-- so the text may be cut on both sides of it
pub cut_before : (text : List ℕ) (at : ℕ) → NoneBefore (Passes (is_byte2 0 13) text) 0 (length text) at × Passes (is_byte2 0 13) text at → IsCharBoundary text at
cut_before text at found = IsCharBoundary-before_ascii text at found.0.high (spelled_differs.ascii (get_or text at 0) found.1)

pub cut_after : (text : List ℕ) (at : ℕ) → IsUtf8 text → NoneBefore (Passes (is_byte2 0 13) text) 0 (length text) at × Passes (is_byte2 0 13) text at → IsCharBoundary text (at + 1)
cut_after text at utf8 found = IsCharBoundary-after_ascii text at utf8 found.0.high (spelled_differs.ascii (get_or text at 0) found.1)

pub front_is : (text : List ℕ) (at : ℕ) → slice_range text 0 at ≡ take at text
front_is text at =
    let all : at - 0 ≡ at = omega arith in
    ap (λ n. take n text) all
