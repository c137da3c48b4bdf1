use Rattle.std.proofs.Common.{subst, sym}
use Rattle.page_trees.specs.Stands.{Builds}
use Rattle.page_trees.specs.TreeState.{TreeState}
use Rattle.page_trees.proofs.BuiltCalls.{root_built}
use Rattle.page_trees.proofs.HeldNumbers.{grown, stack_pushed}
use Rattle.page_trees.proofs.growing.GrowingTree.insert_html.Goals as goal

pub invariant_of-self : goal.invariant_of-self
invariant_of-self c =
    (grown _ _ _ _ _ _ _ c.self.invariant.0 c.put_element.ensures.grows, c.self.invariant.1)

pub invariant_of-self-in_err-push : goal.invariant_of-self-in_err-push
invariant_of-self-in_err-push c =
    (stack_pushed _ _ _ _ _ _ _ _ _ _ c.self.invariant.0 c.put_element.ensures.grows c.in_ok-open.ensures.element c.push.ensures.ok c.push.ensures.err, c.push.ensures.index c.self.invariant.1)

pub invariant_of-self-2 : goal.invariant_of-self-2
invariant_of-self-2 c =
    (stack_pushed _ _ _ _ _ _ _ _ _ _ c.self.invariant.0 c.put_element.ensures.grows c.in_ok-open.ensures.element c.push.ensures.ok c.push.ensures.err, c.push.ensures.index c.self.invariant.1)

pub returns-clause-rule : goal.returns-clause-rule
returns-clause-rule c written attrs is t b =
    root_built _ t _ _ _ written attrs _ _ (subst (λ (s : TreeState). Builds s t) (sym c.self.view_is) b) c.is_forest.ensures c.self.invariant.0.root c.root_id.ensures is
    c.in_ok-open.ensures.made c.in_ok-open.ensures.shape c.in_ok-push.ensures.ok
