use Rattle.std.proofs.Common.{subst, sym}
use Rattle.page_trees.specs.Stands.{Builds}
use Rattle.page_trees.specs.TreeState.{TreeState}
use Rattle.page_trees.proofs.BuiltNodes.{doctype_built, part_at}
use Rattle.page_trees.proofs.HeldNumbers.{grown}
use Rattle.page_trees.proofs.growing.GrowingTree.put_doctype.Goals as goal

pub invariant_of-self : goal.invariant_of-self
invariant_of-self c =
    (grown _ _ _ _ _ _ _ c.self.invariant.0 c.put_doctype.ensures.grows, c.self.invariant.1)

pub invariant_of-self-2 : goal.invariant_of-self-2
invariant_of-self-2 c =
    (grown _ _ _ _ _ _ _ c.self.invariant.0 c.put_doctype.ensures.grows, c.self.invariant.1)

pub returns-clause-rule : goal.returns-clause-rule
returns-clause-rule c d are t b =
    doctype_built _ t _ _ _ _ d (subst (λ (s : TreeState). Builds s t) (sym c.self.view_is) b) c.is_forest.ensures c.self.invariant.0.root
    (part_at c.args.parts _ 0 _ are) (part_at c.args.parts _ 1 _ are) (part_at c.args.parts _ 2 _ are) c.in_ok-put_doctype.ensures.made
