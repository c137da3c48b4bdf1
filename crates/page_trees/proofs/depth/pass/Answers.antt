use Rattle.page_trees.specs.Lifts.{all_lifted}
use Rattle.page_trees.proofs.depth.pass.Goals as goal

pub returns : goal.returns
returns c = all_lifted
