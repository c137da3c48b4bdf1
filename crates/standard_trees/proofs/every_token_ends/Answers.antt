use Rattle.standard_trees.proofs.EveryMode.{every_token_ends as all_tokens_end}
use Rattle.standard_trees.proofs.every_token_ends.Goals as goal

pub returns : goal.returns
returns c = all_tokens_end
