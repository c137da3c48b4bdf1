use Rattle.std.proofs.Common.{ap, length, nat_eq, rules, sym, ◌∙◌, ◌++◌, ◌&&◌}
use Rattle.std.specs.Prelude.{encode_utf8_all}
use Rattle.std.specs.Str.{IsUtf8, chars}
use Rattle.std.proofs.lemmas.Str.{encodes-chars}
use Rattle.page_reading.specs.StandardPages.{ParsesBytesOn}
use Rattle.page_reading.specs.Utf8Pages.{unmarked_if}
use Rattle.page_reading.specs.declared.utf8_pieces.Utf8Pieces.{Utf8Pieces}
use Rattle.page_reading.proofs.StandardLemmas.{on_ok}
use Rattle.page_reading.proofs.Utf8Lemmas.{bytes_follow}
use Rattle.page_reading.proofs.reading.PageParser.feed_bytes.Goals as goal

pub returns-in-Ok-clause-parses : goal.returns-in-Ok-clause-parses
returns-in-Ok-clause-parses c =
    on_ok c.feed-in-Ok.result (ParsesBytesOn c.args.piece.now c.args.self.now (record c.args.self.now { reader = c.feed-in-Ok.new.self; bytes = c.without_mark-text.new.self })) (λ options beginning bytes has.
    let old = c.args.self.now.bytes in
    let utf8 : IsUtf8 c.as_str.result.now = search rules in
    let cs = chars c.as_str.result.now in
    let spelt = sym (encodes-chars c.as_str.result.now utf8) in
    let unmarked = c.without_mark-text.ensures.rest cs spelt ∙ ap (λ (p : Utf8Pieces). encode_utf8_all (unmarked_if p.is_start cs)) c.feed.ensures.only in
    record {
      kind = has.kind;
      options_are = c.feed-in-Ok.ensures.options ∙ has.options_are;
      read = has.read ++ unmarked_if old.is_start cs;
      built = c.feed-in-Ok.ensures.builds beginning has.read (unmarked_if old.is_start cs) unmarked has.built;
      follows = bytes_follow old c.feed.new.self c.without_mark-text.new.self bytes c.args.piece.now has.read cs c.in-Ok.text has.follows c.in-Ok.ensures.begins
          (sym c.as_str.ensures ∙ spelt) c.feed.ensures.only
          (c.without_mark-text.ensures.only ∙ ap (λ bs. record c.feed.new.self { is_start = c.feed.new.self.is_start && nat_eq (length bs) 0 }) c.as_str.ensures);
    })
