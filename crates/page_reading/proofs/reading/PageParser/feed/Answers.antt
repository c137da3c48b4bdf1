use Rattle.std.proofs.Common.{◌∙◌}
use Rattle.page_reading.specs.StandardPages.{ParsesOn}
use Rattle.page_reading.proofs.StandardLemmas.{on_ok}
use Rattle.page_reading.proofs.reading.PageParser.feed.Goals as goal

pub returns-clause-parses : goal.returns-clause-parses
returns-clause-parses c = λ cs spelt.
    on_ok c.feed.result (ParsesOn cs c.args.self.now (record c.end_bytes.new.self { reader = c.feed.new.self })) (λ options beginning text has.
    let ended = c.in_ok-end_bytes.ensures.parses options beginning text has in
    record {
      kind = ended.kind;
      options_are = c.feed.ensures.options ∙ ended.options_are;
      built = c.feed.ensures.builds beginning text cs spelt ended.built;
      no_bytes = ended.no_bytes;
    })
