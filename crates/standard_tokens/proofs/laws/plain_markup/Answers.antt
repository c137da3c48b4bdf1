use Rattle.standard_tokens.proofs.PlainPages.{items_read}
use Rattle.standard_tokens.proofs.laws.plain_markup.Goals as goal

pub returns : goal.returns
returns c = items_read
