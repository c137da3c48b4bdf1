use Rattle.std.proofs.Common.{[]}
use Rattle.page_reading.proofs.byte_parser.PageByteParser.new.Goals as goal

pub returns : goal.returns
returns c = record {
  options_are = c.in_ok-page.ensures.options;
  read = [];
  built = c.in_ok-page.ensures.begins;
  decoded = c.new.ensures;
}
