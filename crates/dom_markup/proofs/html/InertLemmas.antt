-- Bytes that don't stand in an escaped text.
use Rattle.std.proofs.Common.{◌≡◌, ℕ, suc, ◌==◌, ◌<◌, Bool, true, false, not, List, [], ◌∷◌, length, get_or, refl, sym, ◌∙◌, arith, append-nil}
use Rattle.std.specs.Prelude.{codes}
use Rattle.std.specs.Char.{encode_utf8}
use Rattle.std.specs.List.{flat_map}
use Rattle.std.specs.Str.{chars}
use Rattle.std.proofs.lemmas.Bool.{not_from_false, and_from, ne_eqb, eqb-false}
use Rattle.std.proofs.lemmas.List.Folds.{list_all-append}
use Rattle.std.proofs.lemmas.Str.{inside_one}
use Rattle.dom_nodes.specs.Escaping.{value_char, spaced_char, escaped_value}
use Rattle.dom_markup.specs.Escaping.{text_char, escaped_text, lacks}

pub lacks_from : (byte : ℕ) (xs : List ℕ) → ((k : ℕ) → k < length xs → get_or xs k 0 ≡ byte → ⊥) → lacks byte xs ≡ true
lacks_from byte [] none = refl
lacks_from byte (x ∷ xs) none =
    let here : (x == byte) ≡ false = ne_eqb x byte (none 0 (omega arith)) in
    and_from (not (x == byte)) (lacks byte xs) (not_from_false (x == byte) here) (lacks_from byte xs (λ k below is. none (suc k) (omega arith) is))

-- a character's bytes hold no other ASCII character
pub encode_lacks : (byte c : ℕ) → byte < 128 → (c == byte) ≡ false → lacks byte (encode_utf8 c) ≡ true
encode_lacks byte c ascii other = lacks_from byte (encode_utf8 c) (λ k below is. eqb-false c byte other (inside_one c [] (encode_utf8 c) k (sym (append-nil (encode_utf8 c))) below (omega arith) ∙ is))

flat_map_lacks : (byte : ℕ) (f : ℕ → List ℕ) → ((c : ℕ) → lacks byte (f c) ≡ true) → (cs : List ℕ) → lacks byte (flat_map f cs) ≡ true
flat_map_lacks byte f each [] = refl
flat_map_lacks byte f each (c ∷ cs) = list_all-append (λ b. not (b == byte)) (f c) (flat_map f cs) ∙ and_from (lacks byte (f c)) (lacks byte (flat_map f cs)) (each c) (flat_map_lacks byte f each cs)

spaced_lacks : (byte c : ℕ) → byte < 128 → (c == byte) ≡ false → lacks byte (codes "&nbsp;") ≡ true → (s : Bool) → (c == 160) ≡ s → lacks byte (spaced_char c) ≡ true
spaced_lacks byte c ascii other name true p = rw p name
spaced_lacks byte c ascii other name false p = rw p (encode_lacks byte c ascii other)

less_lacks : (c : ℕ) (x y z : Bool) → (c == 38) ≡ x → (c == 60) ≡ y → (c == 62) ≡ z → lacks 60 (text_char c) ≡ true
less_lacks c true y z p q r = rw p refl
less_lacks c false true z p q r = rw (p, q) refl
less_lacks c false false true p q r = rw (p, q, r) refl
less_lacks c false false false p q r = rw (p, q, r) (spaced_lacks 60 c (omega arith) q refl (c == 160) refl)

greater_lacks : (c : ℕ) (x y z : Bool) → (c == 38) ≡ x → (c == 60) ≡ y → (c == 62) ≡ z → lacks 62 (text_char c) ≡ true
greater_lacks c true y z p q r = rw p refl
greater_lacks c false true z p q r = rw (p, q) refl
greater_lacks c false false true p q r = rw (p, q, r) refl
greater_lacks c false false false p q r = rw (p, q, r) (spaced_lacks 62 c (omega arith) r refl (c == 160) refl)

quote_lacks : (c : ℕ) (x y : Bool) → (c == 38) ≡ x → (c == 34) ≡ y → lacks 34 (value_char c) ≡ true
quote_lacks c true y p q = rw p refl
quote_lacks c false true p q = rw (p, q) refl
quote_lacks c false false p q = rw (p, q) (spaced_lacks 34 c (omega arith) q refl (c == 160) refl)

pub no_less : (text : List ℕ) → lacks 60 (escaped_text text) ≡ true
no_less text = flat_map_lacks 60 text_char (λ c. less_lacks c (c == 38) (c == 60) (c == 62) refl refl refl) (chars text)

pub no_greater : (text : List ℕ) → lacks 62 (escaped_text text) ≡ true
no_greater text = flat_map_lacks 62 text_char (λ c. greater_lacks c (c == 38) (c == 60) (c == 62) refl refl refl) (chars text)

pub no_quote : (text : List ℕ) → lacks 34 (escaped_value text) ≡ true
no_quote text = flat_map_lacks 34 value_char (λ c. quote_lacks c (c == 38) (c == 34) refl refl) (chars text)
