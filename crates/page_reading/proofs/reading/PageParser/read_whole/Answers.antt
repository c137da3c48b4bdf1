use Rattle.std.proofs.Common.{[], sym}
use Rattle.std.specs.Str.{chars}
use Rattle.std.proofs.lemmas.Str.{encodes-chars}
use Rattle.std.proofs.lemmas.Result.{IfOk-weaker}
use Rattle.page_reading.specs.StandardPages.{ParsesText, ParsesWhole}
use Rattle.page_reading.proofs.reading.PageParser.read_whole.Goals as goal

pub returns-clause-standard : goal.returns-clause-standard
returns-clause-standard c =
    let text = chars c.args.source.now in
    IfOk-weaker c.finish.result (ParsesText c.feed.new.self) (ParsesWhole c.args.self text)
    (λ document finished options beginning begun limit.
    finished options beginning text (c.in_ok-feed.ensures.parses text (sym (encodes-chars c.args.source.now c.utf8.source)) options beginning [] begun) limit)
    c.finish.ensures.standard
