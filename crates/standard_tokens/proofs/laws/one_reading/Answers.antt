use Rattle.standard_tokens.proofs.PlainPages.{one_reading}
use Rattle.standard_tokens.proofs.laws.one_reading.Goals as goal

pub returns : goal.returns
returns c = one_reading
