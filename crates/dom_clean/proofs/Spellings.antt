-- Texts without the characters that no page can have.
use Rattle.std.proofs.Common.{ℕ, ◌≡◌, ◌==◌, ◌||◌, true, not, List, [], ◌∷◌, ◌++◌, filter, refl, sym, ap, ◌∙◌, subst, inl, inr}
use Rattle.std.specs.Prelude.{encode_utf8}
use Rattle.std.specs.List.{flat_map}
use Rattle.std.specs.Str.{IsUtf8, chars, encode_utf8_all}
use Rattle.std.proofs.Math.Utf8.{scalar, scalars}
use Rattle.std.proofs.lemmas.Bool.{and_from, and_parts, cases_Bool, not-true, or_parts}
use Rattle.std.proofs.lemmas.Str.{chars-encodes}
use Rattle.dom_clean.specs.Fates.{is_spelled, spellable, spelled_char}
use Rattle.dom_clean.specs.Spelled.{AreSpelled}

kept_chars : (cs : List ℕ) → flat_map spelled_char cs ≡ encode_utf8_all (filter is_spelled cs)
kept_chars [] = refl
kept_chars (c ∷ cs) = elim (cases_Bool (is_spelled c)) as (λ t. flat_map spelled_char (c ∷ cs) ≡ encode_utf8_all (filter is_spelled (c ∷ cs))) [
  | inl t ↦ rw t (ap (λ (l : List ℕ). encode_utf8 c ++ l) (kept_chars cs))
  | inr f ↦ rw f (kept_chars cs)
]

kept_scalars : (cs : List ℕ) → scalars (filter is_spelled cs) ≡ true
kept_scalars [] = refl
kept_scalars (c ∷ cs) = elim (cases_Bool (is_spelled c)) as (λ t. scalars (filter is_spelled (c ∷ cs)) ≡ true) [
  | inl t ↦ rw t (and_from (scalar c) (scalars (filter is_spelled cs)) (and_parts (not (c == 0 || c == 13)) (scalar c) t).1 (kept_scalars cs))
  | inr f ↦ rw f (kept_scalars cs)
]

kept_spelled : (cs : List ℕ) → AreSpelled (filter is_spelled cs)
kept_spelled [] = tt
kept_spelled (c ∷ cs) = elim (cases_Bool (is_spelled c)) as (λ t. AreSpelled (filter is_spelled (c ∷ cs))) [
  | inl t ↦ rw t (or_parts (c == 0) (c == 13) (not-true (c == 0 || c == 13) (and_parts (not (c == 0 || c == 13)) (scalar c) t).0), kept_spelled cs)
  | inr f ↦ rw f (kept_spelled cs)
]

pub spellable_utf8 : (text : List ℕ) → IsUtf8 (spellable text)
spellable_utf8 text = (filter is_spelled (chars text), (kept_scalars (chars text), sym (kept_chars (chars text))))

pub spellable_chars : (text : List ℕ) → chars (spellable text) ≡ filter is_spelled (chars text)
spellable_chars text = ap chars (kept_chars (chars text)) ∙ chars-encodes (filter is_spelled (chars text)) (kept_scalars (chars text))

pub spellable_spelled : (text : List ℕ) → AreSpelled (chars (spellable text))
spellable_spelled text = subst AreSpelled (sym (spellable_chars text)) (kept_spelled (chars text))
