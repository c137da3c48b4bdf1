use Rattle.page_trees.specs.Lifts.{all_lifted}
use Rattle.page_trees.proofs.depth.within_depth.Goals as goal

pub returns-in_default-clause-lifts : goal.returns-in_default-clause-lifts
returns-in_default-clause-lifts c = all_lifted
