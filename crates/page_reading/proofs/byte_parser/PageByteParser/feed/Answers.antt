use Rattle.std.proofs.Common.{rules, sym, ◌∙◌, ◌++◌}
use Rattle.std.specs.Str.{IsUtf8, chars}
use Rattle.std.proofs.lemmas.Str.{encodes-chars}
use Rattle.standard_order.specs.Beginnings.{OfPage}
use Rattle.page_reading.specs.BytePages.{ParsesPageOn}
use Rattle.page_reading.proofs.StandardLemmas.{on_ok}
use Rattle.page_reading.proofs.byte_parser.PageByteParser.feed.Goals as goal

pub returns-in-Ok : goal.returns-in-Ok
returns-in-Ok c =
    on_ok c.feed-in-Ok.result (ParsesPageOn c.args.piece.now c.args.self.now
    (record c.args.self.now { source = c.feed.new.self; reader = c.feed-in-Ok.new.self; replaced = c.saturating_add-self.result }))
    (λ options bytes has.
    let utf8 : IsUtf8 c.as_str.result.now = search rules in
    let cs = chars c.as_str.result.now in
    let spelt = sym (encodes-chars c.as_str.result.now utf8) in
    record {
      options_are = c.feed-in-Ok.ensures.options ∙ has.options_are;
      read = has.read ++ cs;
      built = c.feed-in-Ok.ensures.builds (OfPage options.scripting) has.read cs spelt has.built;
      decoded = c.in-Ok.ensures bytes has.read cs has.decoded (sym c.as_str.ensures ∙ spelt);
    })
