use Rattle.page_trees.proofs.BuiltStacks.{built_cut}
use Rattle.page_trees.proofs.growing.GrowingTree.generate_implied_end_tags.Goals as goal

pub returns : goal.returns
returns c known t b = built_cut _ _ _ t _ _ c.self.view_is c.truncate.ensures b (c.depth_of_implied-count.ensures t known)
