use Rattle.standard_tokens.proofs.PlainPages.{any_stays}
use Rattle.standard_tokens.proofs.laws.any_tree_construction.Goals as goal

pub returns : goal.returns
returns c = any_stays
