-- A page around a text declares UTF-8: the steps of the prescan.
use Rattle.std.proofs.Common.{◌≡◌, ℕ, List, ◌++◌, Option, Some, None, refl, sym, ap, subst, ◌∙◌, take}
use Rattle.std.specs.Prelude.{MatchOption, codes}
use Rattle.std.specs.Option.{option_map}
use Rattle.encodings.specs.declared.encoding.Encoding.{Encoding}
use Rattle.encodings.specs.declared.encoding.Encoding.TheVariants.{Utf8}
use Rattle.encodings.specs.Attributes.{Meta, at_equals, at_name, at_value, attributes, declared_by, get_attribute, no_attributes, noted}
use Rattle.encodings.specs.Bytes.{after_while, begins_with_word, cut_at, from_first, front_while, in_quotes}
use Rattle.encodings.specs.Labels.{encoding_of, labelled, of_markup}
use Rattle.encodings.specs.Prescan.{declared_encoding, of_meta, or_next, prescan, step}
use Rattle.encodings.specs.Prescan.Step.{declares, goes_on}
use Rattle.encodings.proofs.Fronts.{in_steps}
use Rattle.encodings.proofs.Steps.{at_meta, step_declares, step_goes_on}
use Rattle.encodings.proofs.Tails.{attribute_read, attributes_end}
use Rattle.text_decoding.specs.Pages.{IsFallback, said}
use Rattle.text_decoding.specs.declared.page.Confidence.TheVariants.{Declared, Fallback as Unsaid}
use Rattle.dom_clean.specs.Laws.{page_around}
use Rattle.dom_clean.specs.Parsed.{DeclaresUtf8}

abbrev in_meta : List ℕ → List ℕ
in_meta rest = codes " charset=\"utf-8\">" ++ rest

abbrev from_meta : List ℕ → List ℕ
from_meta rest = codes "<meta" ++ in_meta rest

abbrev from_head : List ℕ → List ℕ
from_head rest = codes "<head>" ++ from_meta rest

abbrev from_html : List ℕ → List ℕ
from_html rest = codes "<html>" ++ from_head rest

abbrev from_doctype : List ℕ → List ℕ
from_doctype rest = codes "<!DOCTYPE html>" ++ from_html rest

label : encoding_of (codes "utf-8") ≡ Some Utf8
unfolding encoding_of labelled
label = refl

doctype_step : (rest : List ℕ) → goes_on (from_html rest) ≡ step (from_doctype rest)
unfolding step begins_with_word from_first
doctype_step rest = refl

html_step : (rest : List ℕ) → goes_on (from_head rest) ≡ step (from_html rest)
unfolding step begins_with_word after_while attributes get_attribute at_name
html_step rest = refl

head_step : (rest : List ℕ) → goes_on (from_meta rest) ≡ step (from_head rest)
unfolding step begins_with_word after_while attributes get_attribute at_name
head_step rest = refl

meta_read : (rest : List ℕ) → (Some (Some (codes "charset", codes "utf-8"), codes ">" ++ rest)) ≡ get_attribute (in_meta rest)
unfolding get_attribute after_while front_while at_name at_equals at_value in_quotes cut_at
meta_read rest = refl

meta_end : (rest : List ℕ) → Some (None, codes ">" ++ rest) ≡ get_attribute (codes ">" ++ rest)
unfolding get_attribute after_while at_name
meta_end rest = refl

abbrev charset_meta : Meta
charset_meta = noted no_attributes (codes "charset", codes "utf-8")

meta_attributes : (rest : List ℕ) → attributes no_attributes 0 (in_meta rest) ≡ Some (charset_meta, codes ">" ++ rest)
meta_attributes rest =
    (attribute_read no_attributes (in_meta rest) (codes ">" ++ rest) (codes "charset", codes "utf-8") (meta_read rest)).0
    ∙ attributes_end charset_meta (codes ">" ++ rest) (codes ">" ++ rest) (meta_end rest)

meta_declares : declared_by charset_meta ≡ Some Utf8
meta_declares = ap (option_map of_markup) label

meta_step : (rest : List ℕ) → declares Utf8 ≡ step (from_meta rest)
unfolding begins_with_word
meta_step rest =
    at_meta (from_meta rest) (in_meta rest) (declares Utf8) refl refl refl
    (sym (ap of_meta (meta_attributes rest) ∙ ap (λ found. or_next found (codes ">" ++ rest)) meta_declares))

front_declares : (rest : List ℕ) → Some Utf8 ≡ prescan 0 (from_doctype rest)
front_declares rest =
    step_declares (from_meta rest) Utf8 (meta_step rest)
    ∙ (step_goes_on (from_head rest) (from_meta rest) (head_step rest)).0
    ∙ (step_goes_on (from_html rest) (from_head rest) (html_step rest)).0
    ∙ (step_goes_on (from_doctype rest) (from_html rest) (doctype_step rest)).0

declared : (text : List ℕ) → declared_encoding (page_around text) ≡ Some Utf8
unfolding declared_encoding
declared text =
    let rest : List ℕ = codes "</head><body>" ++ take 962 (text ++ codes "</body></html>") in
    sym (in_steps (from_doctype rest) Utf8 refl refl (front_declares rest))

pub page_declares : (text : List ℕ) → DeclaresUtf8 (page_around text)
page_declares text charset none =
    subst (λ found. MatchOption found (IsFallback charset.fallback (page_around text) Utf8 × (Declared ≡ Unsaid)) (λ f. f ≡ (Utf8, Declared)))
    (sym (ap (λ (t : Option Encoding). said None t (declared_encoding (page_around text))) none ∙ ap (said None None) (declared text))) refl
