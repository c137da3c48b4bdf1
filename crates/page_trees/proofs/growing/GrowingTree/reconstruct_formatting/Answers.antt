use Rattle.page_trees.proofs.HeldNumbers.{entry_renewed, grown, stack_pushed}
use Rattle.page_trees.proofs.ReopenedElements.{none_to_reopen, reopens}
use Rattle.page_trees.proofs.growing.GrowingTree.reconstruct_formatting.Goals as goal

pub invariant_of-self : goal.invariant_of-self
invariant_of-self c =
    (grown _ _ _ _ _ _ _ c.self.invariant.0 c.put_copy.ensures.grows, c.self.invariant.1)

pub invariant_of-self-in_err-push : goal.invariant_of-self-in_err-push
invariant_of-self-in_err-push c =
    (stack_pushed _ _ _ _ _ _ _ _ _ _ c.self.invariant.0 c.put_copy.ensures.grows c.in_ok-copy.ensures.element c.push.ensures.ok c.push.ensures.err, c.push.ensures.index c.self.invariant.1)

pub invariant_of-self-2 : goal.invariant_of-self-2
invariant_of-self-2 c = (
  entry_renewed _ _ _ _ _ _ _ _ _
      (stack_pushed _ _ _ _ _ _ _ _ _ _ c.self.invariant.0 c.put_copy.ensures.grows c.in_ok-copy.ensures.element c.push.ensures.ok c.push.ensures.err) c.in_ok-copy.ensures.element.element c.replace.ensures.entries c.replace.ensures.likes,
  c.push.ensures.index c.self.invariant.1,
)

pub returns-in_default-clause-rule : goal.returns-in_default-clause-rule
returns-in_default-clause-rule c before o closed listed at in_head within t fosters b all =
    absurd (none_to_reopen c.args.self.now.formatting before o closed c.args.index c.entry_element.result listed at c.entry_element.ensures.value c.in_default.is)

pub returns-clause-rule : goal.returns-clause-rule
returns-clause-rule c before o closed listed at in_head within t fosters b all =
    reopens _ c.args.self.now c.args.placing c.put_copy.new.tree c.gap-gap.result c.args.index before o c.in-Some.open c.in_ok-copy.copy closed c.push.new.self.elements.items c.replace.new.self.entries
    c.entry_element.result t c.self.view_is c.entry_element.ensures.value c.in-Some.is listed at in_head within fosters b all c.self.invariant.0.formatting c.is_forest.ensures c.gap-gap.ensures.open c.gap-gap.ensures.rule
    c.in_ok-copy.ensures.made c.in_ok-copy.ensures.shape c.in_ok-push.ensures.ok c.replace.ensures.entries
