use Rattle.std.proofs.Common.{◌≡◌, ◌∙◌, sym}
use Rattle.dom_markup.specs.declared.document.Document.{Document}
use Rattle.page_trees.specs.Shape.{IsPage}
use Rattle.page_reading.specs.StandardPages.{ParsesText, ParsesBytes}
use Rattle.page_reading.specs.Utf8Pages.{utf8_text}
use Rattle.page_reading.proofs.StandardLemmas.{fragment_finished, if_ok_both, page_finished}
use Rattle.page_reading.proofs.reading.PageParser.finish.Goals as goal

pub returns-then-parser-clause-standard : goal.returns-then-parser-clause-standard
returns-then-parser-clause-standard c = λ options beginning text has.
    fragment_finished c.end_bytes.new.self c.in_ok-built.built _ c.in_ok-built.ensures.text c.document_of.ensures.tree c.if-parser.true options beginning text
    (c.in_ok-end_bytes.ensures.parses options beginning text has)

pub returns-then-parser-clause-bytes : goal.returns-then-parser-clause-bytes
returns-then-parser-clause-bytes c = λ options beginning bytes has.
    fragment_finished c.end_bytes.new.self c.in_ok-built.built _ c.in_ok-built.ensures.text c.document_of.ensures.tree c.if-parser.true options beginning (utf8_text bytes)
    (c.in_ok-end_bytes.ensures.bytes options beginning bytes has)

pub returns-clause-standard : goal.returns-clause-standard
returns-clause-standard c =
    let built = c.in_ok-built.built in
    if_ok_both c.page_of.result (λ (page : Document). IsPage built.tree → page.tree ≡ built.tree) (λ (page : Document). page.quirks_mode ≡ built.quirks_mode)
    (ParsesText c.args.self)
    (λ page same mode options beginning text has.
    page_finished c.end_bytes.new.self built page c.in_ok-built.ensures.text same mode c.if-parser.false options beginning text
    (c.in_ok-end_bytes.ensures.parses options beginning text has))
    c.page_of.ensures.same c.page_of.ensures.quirks

pub returns-clause-bytes : goal.returns-clause-bytes
returns-clause-bytes c =
    let built = c.in_ok-built.built in
    if_ok_both c.page_of.result (λ (page : Document). IsPage built.tree → page.tree ≡ built.tree) (λ (page : Document). page.quirks_mode ≡ built.quirks_mode)
    (ParsesBytes c.args.self)
    (λ page same mode options beginning bytes has.
    page_finished c.end_bytes.new.self built page c.in_ok-built.ensures.text same mode c.if-parser.false options beginning (utf8_text bytes)
    (c.in_ok-end_bytes.ensures.bytes options beginning bytes has))
    c.page_of.ensures.same c.page_of.ensures.quirks
