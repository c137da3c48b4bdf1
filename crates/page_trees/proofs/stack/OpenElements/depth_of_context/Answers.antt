use Rattle.page_trees.proofs.StandingStacks.{cleared}
use Rattle.page_trees.proofs.stack.OpenElements.depth_of_context.Goals as goal

pub returns : goal.returns
returns c tree s = cleared c.args.context tree _ _ c.up_to_context.ensures s
