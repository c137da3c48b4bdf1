use Rattle.page_tokens.proofs.SameNames.{same_tables}
use Rattle.page_tokens.proofs.laws.same_named_references.Goals as goal

pub returns : goal.returns
returns c = same_tables
