-- Texts of characters, and the bytes that they are in UTF-8.
use Rattle.std.specs.Prelude.{◌≡◌, ℕ, true, List, [], ◌∷◌, ◌++◌, encode_utf8, refl}
use Rattle.std.specs.List.{flat_map}
use Rattle.std.specs.Str.{chars, encode_utf8_all, all_scalars, IsUtf8}
use Rattle.std.specs.Cmp.Derive.{both_true}
use Rattle.std.proofs.lemmas.Bool.{and_parts}
use Rattle.std.proofs.lemmas.List.{append-nil}
use Rattle.std.proofs.lemmas.Str.{chars-encodes, chars_from_encodes, encodes-chars, encodes-append}
use lib.Utf8.{encode, scalar}
use mathlib.Core.Path.{◌∙◌, sym, ap, subst}

-- the bytes are these characters
pub record Encodes (cs bytes : List ℕ) : Type 0 where
  pub scalars : all_scalars cs ≡ true
  pub same : encode_utf8_all cs ≡ bytes

pub nothing : Encodes [] []
nothing = record { scalars = refl; same = refl }

scalars-append : (cs ds : List ℕ) → all_scalars cs ≡ true → all_scalars ds ≡ true → all_scalars (cs ++ ds) ≡ true
scalars-append [] ds h k = k
scalars-append (c ∷ cs) ds h k =
    let parts : (scalar c ≡ true) × (all_scalars cs ≡ true) = and_parts (scalar c) (all_scalars cs) h in
    both_true parts.0 (scalars-append cs ds parts.1 k)

pub encodes_both : {cs ds bs es : List ℕ} → Encodes cs bs → Encodes ds es → Encodes (cs ++ ds) (bs ++ es)
encodes_both {cs} {ds} {bs} {es} a b = record {
  scalars = scalars-append cs ds a.scalars b.scalars;
  same = encodes-append cs ds ∙ ap (λ x. x ++ encode_utf8_all ds) a.same ∙ ap (λ y. bs ++ y) b.same;
}

-- the characters of a text in UTF-8
pub encodes_chars : (bytes : List ℕ) → IsUtf8 bytes → Encodes (chars bytes) bytes
encodes_chars bytes utf8 = record {
  scalars = subst (λ cs. all_scalars cs ≡ true) (chars_from_encodes utf8.0 bytes utf8 utf8.1.1) utf8.1.0;
  same = encodes-chars bytes utf8;
}

-- so the characters of the bytes are these
pub chars_are : {cs bytes : List ℕ} → Encodes cs bytes → chars bytes ≡ cs
chars_are {cs} {bytes} e = ap chars (sym e.same) ∙ chars-encodes cs e.scalars

-- a character alone
pub encodes_one : (c : ℕ) → scalar c ≡ true → Encodes (c ∷ []) (encode_utf8 c)
encodes_one c h = record { scalars = both_true h refl; same = append-nil (encode_utf8 c) }

-- characters, one after the other, each written in a way of its own
pub encodes_each : (front : ℕ → List ℕ) (back : ℕ → List ℕ) → ((c : ℕ) → scalar c ≡ true → Encodes (front c) (back c)) → (cs : List ℕ) → all_scalars cs ≡ true →
    Encodes (flat_map front cs) (flat_map back cs)
encodes_each front back each [] h = nothing
encodes_each front back each (c ∷ cs) h =
    let parts : (scalar c ≡ true) × (all_scalars cs ≡ true) = and_parts (scalar c) (all_scalars cs) h in
    encodes_both (each c parts.0) (encodes_each front back each cs parts.1)
