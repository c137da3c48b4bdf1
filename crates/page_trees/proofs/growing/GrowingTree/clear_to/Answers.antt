use Rattle.page_trees.proofs.BuiltStacks.{built_cut}
use Rattle.page_trees.proofs.growing.GrowingTree.clear_to.Goals as goal

pub returns : goal.returns
returns c t b = built_cut _ _ _ t _ _ c.self.view_is c.truncate.ensures b (c.depth_of_context-count.ensures t)
