use Rattle.std.proofs.Common.{List, ℕ, ◌≡◌, ◌∙◌, ap, rules, subst, sym}
use Rattle.std.specs.Prelude.{IfOk, encode_utf8_all}
use Rattle.std.specs.Str.{chars}
use Rattle.std.proofs.lemmas.Str.{encodes-chars}
use Rattle.calm_pages.specs.Calm.{IsCalmPage, SpellsCalmPage}
use Rattle.encodings.specs.declared.encoding.Encoding.TheVariants.{Utf8}
use Rattle.page_trees.specs.Framed.{IsFramed}
use Rattle.standard_laws.specs.Pages.{IsParsedPage, IsWrittenPage}
use Rattle.dom_markup.specs.declared.document.Document.{Document}
use Rattle.text_decoding.specs.Decoding.{characters}
use Rattle.text_decoding.proofs.PageTexts.{text_is}
use Rattle.page_reading.specs.Utf8Pages.{unmarked, utf8_text, with_replacements}
use Rattle.page_reading.proofs.StandardLemmas.{by_rules}
use Rattle.page_reading.proofs.Utf8Lemmas.{is_spelt, utf8_chars}
use Rattle.page_reading.proofs.reading.parse_page_bytes.Goals as goal

-- a calm page has no byte order mark, so that it is parsed as it came
pub returns-in-Ok-clause-calm : goal.returns-in-Ok-clause-calm
returns-in-Ok-clause-calm c = λ trees utf8 page calm.
    let same = c.in-Ok.ensures.cases.0 in
    let framed = c.without_mark.ensures.framed (subst IsFramed (sym same) page.framed) ∙ same in
    c.parse_page.ensures.calm trees (subst (λ (text : List ℕ). IsCalmPage text trees) (sym framed) page) calm

pub returns-in-Ok-clause-same : goal.returns-in-Ok-clause-same
returns-in-Ok-clause-same c = λ forest utf8 page calm.
    let same = c.in-Ok.ensures.cases.0 in
    let framed = c.without_mark.ensures.framed (subst IsFramed (sym same) page.page.framed) ∙ same in
    c.parse_page.ensures.same forest (subst (λ (text : List ℕ). SpellsCalmPage text forest) (sym framed) page) calm

pub returns-in-Ok-clause-written : goal.returns-in-Ok-clause-written
returns-in-Ok-clause-written c = λ utf8 page calm.
    let same = c.in-Ok.ensures.cases.0 in
    let framed = c.without_mark.ensures.framed (subst IsFramed (sym same) page.page.framed) ∙ same in
    subst (λ (text : List ℕ). IfOk c.parse_page.result (λ (document : Document). IsParsedPage text document.tree)) framed
    (c.parse_page.ensures.written (subst IsWrittenPage (sym framed) page) calm)

-- its characters, without a byte order mark, are parsed
pub returns-in-Ok-clause-standard : goal.returns-in-Ok-clause-standard
returns-in-Ok-clause-standard c =
    let bytes = c.args.source.now in
    let spelt = c.in-Ok.ensures.cases.0 ∙ sym (encodes-chars bytes c.in-Ok.ensures.cases.1) in
    by_rules c.parse_page.result c.args.options c.without_mark.result.now (utf8_text bytes) (search rules)
    (c.without_mark.ensures.rest (chars bytes) spelt ∙ ap (λ cs. encode_utf8_all (unmarked cs)) (sym (utf8_chars bytes c.in-Ok.ensures.cases.1)))
    c.parse_page.ensures.standard

pub returns-clause-standard : goal.returns-clause-standard
returns-clause-standard c =
    let bytes = c.args.source.now in
    let spelt = is_spelt _ (characters Utf8 bytes) (c.as_str.ensures ∙ text_is _ _ c.in_ok-text.ensures) in
    by_rules c.parse_page-2.result c.args.options c.without_mark-2.result.now (utf8_text bytes) (search rules)
    (c.without_mark-2.ensures.rest (with_replacements (characters Utf8 bytes)) spelt) c.parse_page-2.ensures.standard
