use Rattle.page_trees.proofs.HeldNumbers.{stack_removed}
use Rattle.page_trees.proofs.growing.GrowingTree.remove_at.Goals as goal

pub invariant_of-self : goal.invariant_of-self
invariant_of-self c =
    (stack_removed _ _ _ _ _ _ _ _ c.self.invariant.0 c.remove_at.ensures.items, c.remove_at.ensures.index c.self.invariant.1)
