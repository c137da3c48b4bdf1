use Rattle.page_trees.proofs.HeldNumbers.{stack_taken}
use Rattle.page_trees.proofs.growing.GrowingTree.take.Goals as goal

pub invariant_of-self : goal.invariant_of-self
invariant_of-self c =
    (stack_taken _ _ _ _ _ _ _ _ c.self.invariant.0 c.take.ensures.items, c.take.ensures.index c.self.invariant.1)
