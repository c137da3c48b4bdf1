use Rattle.page_trees.proofs.StandingStacks.{implied_closed}
use Rattle.page_trees.proofs.stack.OpenElements.depth_of_implied.Goals as goal

pub returns : goal.returns
returns c tree known s = implied_closed c.args.except tree _ _ c.up_to_explicit.ensures known s
