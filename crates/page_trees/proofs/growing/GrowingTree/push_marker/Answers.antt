use Rattle.std.proofs.Common.{subst, sym}
use Rattle.page_trees.specs.Stands.{Builds}
use Rattle.page_trees.specs.TreeState.{TreeState}
use Rattle.page_trees.proofs.BuiltLists.{marked_built}
use Rattle.page_trees.proofs.PushedEntries.{marker_listed}
use Rattle.page_trees.proofs.growing.GrowingTree.push_marker.Goals as goal

pub invariant_of-self : goal.invariant_of-self
invariant_of-self c =
    (marker_listed _ _ _ _ _ _ _ _ c.self.invariant.0 c.push_marker.ensures.ok c.push_marker.ensures.err (c.push_marker.ensures.likes _), c.self.invariant.1)

pub returns-clause-rule : goal.returns-clause-rule
returns-clause-rule c t b = marked_built _ t _ (subst (λ (s : TreeState). Builds s t) (sym c.self.view_is) b) c.in_ok-push_marker.ensures.ok
