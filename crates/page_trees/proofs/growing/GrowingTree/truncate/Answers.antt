use Rattle.page_trees.proofs.HeldNumbers.{stack_cut}
use Rattle.page_trees.proofs.growing.GrowingTree.truncate.Goals as goal

pub invariant_of-self : goal.invariant_of-self
invariant_of-self c =
    (stack_cut _ _ _ _ _ _ _ _ c.self.invariant.0 c.truncate.ensures.items, c.truncate.ensures.index c.self.invariant.1)
