use Rattle.std.proofs.Common.{arith, sym}
use Rattle.page_trees.proofs.AdoptedChildren.{adopts_children, no_block_at, none_at}
use Rattle.page_trees.proofs.HeldNumbers.{grown, stack_carried}
use Rattle.page_trees.proofs.growing.GrowingTree.adopt_children.Goals as goal

pub invariant_of-self : goal.invariant_of-self
invariant_of-self c =
    (grown _ _ _ _ _ _ _ c.self.invariant.0 c.put_children_into_copy.ensures.grows, c.self.invariant.1)

pub invariant_of-self-2 : goal.invariant_of-self-2
invariant_of-self-2 c = (
  stack_carried _ _ _ _ _ _ _ _ _ _ _ c.in-Some-get.furthest c.is_forest.ensures c.self.invariant.0 c.put_children_into_copy.ensures.grows c.in_ok-copy.ensures.element (sym c.in-Some-get.ensures.value)
      (omega (arith, c.if-place-furthest_place.false)) c.carry.ensures.items,
  c.carry.ensures.index c.self.invariant.1,
)

pub returns : goal.returns
returns c =
    adopts_children _ c.args.self.now c.put_in_place.new.self _ c.args.place c.args.furthest_place c.args.bookmark c.in-Some.formatting c.in-Some-get.furthest c.in_ok-copy.copy _ c.put_in_place.result
    c.self.view_is c.is_forest.ensures c.self.invariant.0.stack c.self.invariant.0.order c.in-Some.ensures.value c.in-Some-get.ensures.value c.in_ok-copy.ensures.made c.in_ok-copy.ensures.shape
    c.carry.ensures.items c.put_in_place.ensures

pub returns-in_default : goal.returns-in_default
returns-in_default c = none_at _ c.args.self.now c.args.place c.args.bookmark c.args.furthest_place c.self.view_is c.in_default.ensures.value

pub returns-in_default-get : goal.returns-in_default-get
returns-in_default-get c = no_block_at _ c.args.self.now c.args.place c.args.bookmark c.args.furthest_place c.self.view_is c.in_default-get.ensures.value

pub returns-then-place-furthest_place : goal.returns-then-place-furthest_place
returns-then-place-furthest_place c t l climb w none e = absurd (omega (arith, e, c.if-place-furthest_place.true))
