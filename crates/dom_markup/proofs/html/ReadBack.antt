-- Escaped texts, with their references read.
use Rattle.std.proofs.Common.{◌≡◌, ℕ, ◌==◌, Bool, true, false, List, [], ◌∷◌, ◌++◌, refl, ◌∙◌, ap, arith}
use Rattle.std.specs.Prelude.{codes}
use Rattle.std.specs.Char.{encode_utf8}
use Rattle.std.specs.List.{flat_map}
use Rattle.std.specs.Str.{chars, encode_utf8_all, IsUtf8}
use Rattle.std.proofs.lemmas.Bool.{eqb-true}
use Rattle.std.proofs.lemmas.Str.{encodes-chars}
use Rattle.dom_nodes.specs.Escaping.{value_char, spaced_char, escaped_value}
use Rattle.dom_markup.specs.Escaping.{text_char, escaped_text}
use Rattle.dom_markup.specs.References.{decoded}
use Rattle.dom_markup.proofs.html.InertLemmas.{encode_lacks}
use Rattle.dom_markup.proofs.grammar.ReferenceLemmas.{decoded-plain}

pub decoded-char : (c : ℕ) (more : List ℕ) → (c == 38) ≡ false → decoded (encode_utf8 c ++ more) ≡ encode_utf8 c ++ decoded more
decoded-char c more other = decoded-plain (encode_utf8 c) more (encode_lacks 38 c (omega arith) other)

-- each name is read as its character
decoded-amp : (more : List ℕ) → decoded (codes "&amp;" ++ more) ≡ encode_utf8 38 ++ decoded more
decoded-amp more = refl

decoded-lt : (more : List ℕ) → decoded (codes "&lt;" ++ more) ≡ encode_utf8 60 ++ decoded more
decoded-lt more = refl

decoded-gt : (more : List ℕ) → decoded (codes "&gt;" ++ more) ≡ encode_utf8 62 ++ decoded more
decoded-gt more = refl

decoded-quot : (more : List ℕ) → decoded (codes "&quot;" ++ more) ≡ encode_utf8 34 ++ decoded more
decoded-quot more = refl

decoded-nbsp : (more : List ℕ) → decoded (codes "&nbsp;" ++ more) ≡ encode_utf8 160 ++ decoded more
decoded-nbsp more = refl

-- ---- what is written of a character

spaced_back : (c : ℕ) (more : List ℕ) → (c == 38) ≡ false → (s : Bool) → (c == 160) ≡ s → decoded (spaced_char c ++ more) ≡ encode_utf8 c ++ decoded more
spaced_back c more other true p = let is : c ≡ 160 = eqb-true c 160 p in rw is (decoded-nbsp more)
spaced_back c more other false p = rw p (decoded-char c more other)

text_back : (c : ℕ) (more : List ℕ) (x y z : Bool) → (c == 38) ≡ x → (c == 60) ≡ y → (c == 62) ≡ z → decoded (text_char c ++ more) ≡ encode_utf8 c ++ decoded more
text_back c more true y z p q r = let is : c ≡ 38 = eqb-true c 38 p in rw is (decoded-amp more)
text_back c more false true z p q r = let is : c ≡ 60 = eqb-true c 60 q in rw is (decoded-lt more)
text_back c more false false true p q r = let is : c ≡ 62 = eqb-true c 62 r in rw is (decoded-gt more)
text_back c more false false false p q r = rw (p, q, r) (spaced_back c more p (c == 160) refl)

value_back : (c : ℕ) (more : List ℕ) (x y : Bool) → (c == 38) ≡ x → (c == 34) ≡ y → decoded (value_char c ++ more) ≡ encode_utf8 c ++ decoded more
value_back c more true y p q = let is : c ≡ 38 = eqb-true c 38 p in rw is (decoded-amp more)
value_back c more false true p q = let is : c ≡ 34 = eqb-true c 34 q in rw is (decoded-quot more)
value_back c more false false p q = rw (p, q) (spaced_back c more p (c == 160) refl)

reads_back : (f : ℕ → List ℕ) → ((c : ℕ) (more : List ℕ) → decoded (f c ++ more) ≡ encode_utf8 c ++ decoded more) → (cs : List ℕ) → decoded (flat_map f cs) ≡ encode_utf8_all cs
reads_back f each [] = refl
reads_back f each (c ∷ cs) = each c (flat_map f cs) ∙ ap (λ t. encode_utf8 c ++ t) (reads_back f each cs)

pub text_reads_back : (text : List ℕ) → IsUtf8 text → decoded (escaped_text text) ≡ text
text_reads_back text utf8 = reads_back text_char (λ c more. text_back c more (c == 38) (c == 60) (c == 62) refl refl refl) (chars text) ∙ encodes-chars text utf8

pub value_reads_back : (text : List ℕ) → IsUtf8 text → decoded (escaped_value text) ≡ text
value_reads_back text utf8 = reads_back value_char (λ c more. value_back c more (c == 38) (c == 34) refl refl) (chars text) ∙ encodes-chars text utf8
