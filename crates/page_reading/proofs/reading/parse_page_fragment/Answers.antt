use Rattle.std.proofs.lemmas.Result.{IfOk-weaker}
use Rattle.std.specs.Str.{chars}
use Rattle.standard_order.specs.Beginnings.{OfFragment}
use Rattle.page_trees.specs.Contexts.{surroundings_of}
use Rattle.page_reading.specs.StandardPages.{IsStandardFragment, ParsesWhole}
use Rattle.page_reading.proofs.reading.parse_page_fragment.Goals as goal

pub returns : goal.returns
returns c = record {
  standard = λ unspaced limit.
      let text = chars c.args.source.now in
      let around = surroundings_of c.args.context in
      IfOk-weaker c.read_whole.result (ParsesWhole c.in_ok-parser.parser text) (IsStandardFragment c.args.options around text)
      (λ document whole. whole c.args.options (OfFragment c.args.options.scripting around) (c.in_ok-parser.ensures.begins unspaced) limit)
      c.read_whole.ensures.standard;
}
