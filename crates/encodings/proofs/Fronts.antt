-- What the first bytes declare.
use Rattle.std.proofs.Common.{◌≡◌, ℕ, List, [], ◌∷◌, Bool, true, false, cond, refl, sym, ap, ◌∙◌, Option, Some, None}
use Rattle.std.specs.List.{list_any}
use Rattle.std.specs.Option.{option_map}
use Rattle.encodings.specs.declared.encoding.Encoding.{Encoding}
use Rattle.encodings.specs.declared.encoding.Encoding.TheVariants.{Utf16Be, Utf16Le}
use Rattle.encodings.specs.Bytes.{is_blank}
use Rattle.encodings.specs.Labels.{encoding_of, of_xml_markup}
use Rattle.encodings.specs.Prescan.{begins_with, declared_in, of_xml_label, or_xml, prescan, xml_encoding}

if_true : (test : Bool) (one other : Option Encoding) → test ≡ true → cond test one other ≡ one
if_true true one other is = refl
if_true false one other is = cc

if_false : (test : Bool) (one other : Option Encoding) → test ≡ false → cond test one other ≡ other
if_false true one other is = cc
if_false false one other is = refl

abbrev pub little : List ℕ
little = 0x3C ∷ 0 ∷ 0x3F ∷ 0 ∷ 0x78 ∷ 0 ∷ []

abbrev pub big : List ℕ
big = 0 ∷ 0x3C ∷ 0 ∷ 0x3F ∷ 0 ∷ 0x78 ∷ []

pub in_little : (bytes : List ℕ) → begins_with little bytes ≡ true → Some Utf16Le ≡ declared_in bytes
unfolding declared_in
in_little bytes first = sym (if_true (begins_with little bytes) (Some Utf16Le) _ first)

pub in_big : (bytes : List ℕ) → begins_with little bytes ≡ false → begins_with big bytes ≡ true → Some Utf16Be ≡ declared_in bytes
unfolding declared_in
in_big bytes first second = sym (if_false (begins_with little bytes) (Some Utf16Le) _ first ∙ if_true (begins_with big bytes) (Some Utf16Be) _ second)

in_others : (bytes : List ℕ) → begins_with little bytes ≡ false → begins_with big bytes ≡ false → declared_in bytes ≡ or_xml (prescan 0 bytes) (xml_encoding bytes)
unfolding declared_in
in_others bytes first second = if_false (begins_with little bytes) (Some Utf16Le) _ first ∙ if_false (begins_with big bytes) (Some Utf16Be) _ second

pub in_steps : (bytes : List ℕ) (encoding : Encoding) → begins_with little bytes ≡ false → begins_with big bytes ≡ false → Some encoding ≡ prescan 0 bytes → Some encoding ≡ declared_in bytes
in_steps bytes encoding first second is = ap (λ found. or_xml found (xml_encoding bytes)) is ∙ sym (in_others bytes first second)

pub in_declaration : (bytes : List ℕ) (found : Option Encoding) → begins_with little bytes ≡ false → begins_with big bytes ≡ false → None ≡ prescan 0 bytes → found ≡ xml_encoding bytes → found ≡ declared_in bytes
in_declaration bytes found first second none is = is ∙ ap (λ steps. or_xml steps (xml_encoding bytes)) none ∙ sym (in_others bytes first second)

-- ---- labels in XML

pub xml_blank : (label : List ℕ) → list_any is_blank label ≡ true → None ≡ of_xml_label label
xml_blank label blank = sym (if_true (list_any is_blank label) None _ blank)

pub xml_named : (label : List ℕ) (found : Option Encoding) → list_any is_blank label ≡ false → found ≡ option_map of_xml_markup (encoding_of label) → found ≡ of_xml_label label
xml_named label found blank is = is ∙ sym (if_false (list_any is_blank label) None _ blank)
