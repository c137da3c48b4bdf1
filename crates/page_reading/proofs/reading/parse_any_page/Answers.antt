use Rattle.standard_order.specs.Beginnings.{OfPage}
use Rattle.std.proofs.lemmas.Result.{IfOk-weaker}
use Rattle.std.specs.Str.{chars}
use Rattle.page_reading.specs.StandardPages.{IsStandardPage, ParsesWhole}
use Rattle.page_reading.proofs.reading.parse_any_page.Goals as goal

pub returns-clause-standard : goal.returns-clause-standard
returns-clause-standard c = λ limit.
    let text = chars c.args.source.now in
    IfOk-weaker c.read_whole.result (ParsesWhole c.in_ok-parser.parser text) (IsStandardPage c.args.options text)
    (λ document whole. whole c.args.options (OfPage c.args.options.scripting) c.in_ok-parser.ensures.begins limit)
    c.read_whole.ensures.standard
