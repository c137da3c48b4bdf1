use Rattle.std.proofs.Common.{subst, sym}
use Rattle.dom_links.specs.Sound.{IsOpenGap}
use Rattle.page_trees.specs.Stands.{Builds}
use Rattle.page_trees.specs.TreeState.{TreeState}
use Rattle.page_trees.proofs.BuiltNodes.{comment_built}
use Rattle.page_trees.proofs.HeldNumbers.{grown}
use Rattle.page_trees.proofs.growing.GrowingTree.put_comment.Goals as goal

pub invariant_of-self : goal.invariant_of-self
invariant_of-self c =
    (grown _ _ _ _ _ _ _ c.self.invariant.0 c.put_comment.ensures.grows, c.self.invariant.1)

pub invariant_of-self-2 : goal.invariant_of-self-2
invariant_of-self-2 c =
    (grown _ _ _ _ _ _ _ c.self.invariant.0 c.put_comment.ensures.grows, c.self.invariant.1)

pub returns-clause-rule : goal.returns-clause-rule
returns-clause-rule c cs spelt t fosters b =
    comment_built _ t _ _ _ _ cs (subst (λ (s : TreeState). Builds s t) (sym c.self.view_is) b) c.is_forest.ensures
    (subst (λ (s : TreeState). IsOpenGap c.gap_at_any_depth-gap.result s.forest) (sym c.self.view_is) c.gap_at_any_depth-gap.ensures.open)
    (c.gap_at_any_depth-gap.ensures.rule t fosters b) spelt c.in_ok-put_comment.ensures.made
