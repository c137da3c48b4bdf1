use Rattle.std.proofs.Common.{refl, sym}
use Rattle.page_trees.proofs.HeldNumbers.{grown, stack_renewed}
use Rattle.page_trees.proofs.InnerCalls.{none_renewed, none_renewed_next, renews}
use Rattle.page_trees.proofs.StackOrder.{element_there}
use Rattle.page_trees.proofs.growing.GrowingTree.renew.Goals as goal

pub put_into_copy-requires-clause-moved : goal.put_into_copy-requires-clause-moved
put_into_copy-requires-clause-moved c =
    element_there c.self.inside.tree c.self.inside.stack.elements.items _ c.in-Some-behind.last c.self.invariant.0.stack (sym c.in-Some-behind.ensures)

pub invariant_of-self : goal.invariant_of-self
invariant_of-self c =
    (grown _ _ _ _ _ _ _ c.self.invariant.0 c.put_into_copy.ensures.grows, c.self.invariant.1)

pub invariant_of-self-2 : goal.invariant_of-self-2
invariant_of-self-2 c =
    (stack_renewed _ _ _ _ _ _ _ _ _ _ _ _ c.in-Some-behind.last c.self.invariant.0 c.put_into_copy.ensures.grows c.in_ok-copy.ensures.element (sym c.in-Some-behind.ensures) c.replace-2.ensures.items c.replace.ensures.entries c.replace.ensures.likes, c.replace-2.ensures.index c.self.invariant.1)

pub returns : goal.returns
returns c =
    renews _ c.args.self.now _ c.args.place c.args.index c.in-Some.node c.in-Some-behind.last c.in_ok-copy.copy _ _ c.self.view_is c.is_forest.ensures c.self.invariant.0.stack c.in-Some.ensures.value
    c.in-Some-behind.ensures c.in_ok-copy.ensures.made c.in_ok-copy.ensures.shape c.replace-2.ensures.items c.replace.ensures.entries

pub returns-in_default : goal.returns-in_default
returns-in_default c = none_renewed _ c.args.self.now c.args.place c.args.index c.args.place c.self.view_is c.in_default.ensures.value refl

pub returns-in_default-behind : goal.returns-in_default-behind
returns-in_default-behind c = none_renewed_next _ c.args.self.now c.args.place c.args.index c.self.view_is c.in_default-behind.ensures
