use Rattle.page_tokens.proofs.ErrorsApart.{errors_apart}
use Rattle.page_tokens.proofs.laws.errors.Goals as goal

pub returns : goal.returns
returns c = errors_apart
