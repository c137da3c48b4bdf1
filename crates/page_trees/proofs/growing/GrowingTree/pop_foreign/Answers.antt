use Rattle.page_trees.proofs.BuiltStacks.{built_cut}
use Rattle.page_trees.proofs.growing.GrowingTree.pop_foreign.Goals as goal

pub returns : goal.returns
returns c t b = built_cut _ _ _ t _ _ c.self.view_is c.truncate.ensures b (c.depth_of_html-count.ensures t)
