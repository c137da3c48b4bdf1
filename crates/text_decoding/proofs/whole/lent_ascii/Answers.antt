use Rattle.std.proofs.lemmas.Str.{IsUtf8-from_ascii}
use Rattle.text_decoding.proofs.Lending.{ascii_itself}
use Rattle.text_decoding.proofs.whole.lent_ascii.Goals as goal

pub returns-then-is_ascii-clause-itself : goal.returns-then-is_ascii-clause-itself
returns-then-is_ascii-clause-itself c = ascii_itself _ _ c.requires c.if-is_ascii.ensures.cases

pub from_utf8_unchecked-requires : goal.from_utf8_unchecked-requires
from_utf8_unchecked-requires c = IsUtf8-from_ascii _ c.if-is_ascii.ensures.cases
