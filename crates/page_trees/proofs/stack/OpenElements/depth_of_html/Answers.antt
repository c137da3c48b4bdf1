use Rattle.page_trees.proofs.StandingStacks.{left}
use Rattle.page_trees.proofs.stack.OpenElements.depth_of_html.Goals as goal

pub returns : goal.returns
returns c tree s = left tree _ _ c.up_to_html.ensures s
