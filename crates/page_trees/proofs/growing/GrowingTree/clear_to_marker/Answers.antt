use Rattle.std.proofs.Common.{subst, sym}
use Rattle.page_trees.specs.Stands.{Builds}
use Rattle.page_trees.specs.TreeState.{TreeState}
use Rattle.page_trees.proofs.BuiltLists.{cleared_as}
use Rattle.page_trees.proofs.HeldNumbers.{entries_cleared}
use Rattle.page_trees.proofs.growing.GrowingTree.clear_to_marker.Goals as goal

pub invariant_of-self : goal.invariant_of-self
invariant_of-self c =
    (entries_cleared _ _ _ _ _ _ _ c.self.invariant.0 c.clear_to_marker.ensures.entries (c.clear_to_marker.ensures.likes _), c.self.invariant.1)

pub returns-clause-rule : goal.returns-clause-rule
returns-clause-rule c t b = cleared_as _ t _ (subst (λ (s : TreeState). Builds s t) (sym c.self.view_is) b) c.clear_to_marker.ensures.entries
