use Rattle.page_trees.proofs.HeldNumbers.{entries_removed}
use Rattle.page_trees.proofs.growing.GrowingTree.remove_entry.Goals as goal

pub invariant_of-self : goal.invariant_of-self
invariant_of-self c =
    (entries_removed _ _ _ _ _ _ _ _ c.self.invariant.0 c.remove_at.ensures.entries (c.remove_at.ensures.likes _), c.self.invariant.1)
