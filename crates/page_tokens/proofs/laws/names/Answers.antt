use Rattle.page_tokens.proofs.PlainNames.{names_plain}
use Rattle.page_tokens.proofs.laws.names.Goals as goal

pub returns : goal.returns
returns c = names_plain
