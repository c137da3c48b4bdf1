use Rattle.std.proofs.Common.{List, rules, subst, sym, ◌∙◌, ℕ}
use Rattle.std.specs.Str.{IsUtf8, chars}
use Rattle.std.proofs.lemmas.Str.{encodes-chars}
use Rattle.standard_order.specs.Beginnings.{OfPage}
use Rattle.page_trees.specs.PagesRead.{HasBuilt}
use Rattle.page_reading.specs.PageDecoding.{text_in}
use Rattle.page_reading.proofs.BytePageLemmas.{bytes_finished}
use Rattle.page_reading.proofs.byte_parser.PageByteParser.finish.Goals as goal

pub returns-clause-standard : goal.returns-clause-standard
returns-clause-standard c = λ options bytes has limit.
    let source = c.args.self.source in
    let utf8 : IsUtf8 c.as_str.result.now = search rules in
    let cs = chars c.as_str.result.now in
    let spelt = sym (encodes-chars c.as_str.result.now utf8) in
    let whole = c.in_ok-end.ensures bytes has.read cs has.decoded (sym c.as_str.ensures.value ∙ spelt) in
    let built = subst (λ (text : List ℕ). HasBuilt (OfPage options.scripting) text c.feed.new.self) (sym whole)
    (c.feed.ensures.builds (OfPage options.scripting) has.read cs spelt has.built) in
    bytes_finished c.feed.new.self source c.in_ok-finish.field-0 c.in_ok-document.document c.in_ok-finish.ensures.text
    c.in_ok-document.ensures.same c.in_ok-document.ensures.quirks options (text_in c.in_ok-end.end.encoding bytes)
    (c.feed.ensures.options ∙ has.options_are) built limit
