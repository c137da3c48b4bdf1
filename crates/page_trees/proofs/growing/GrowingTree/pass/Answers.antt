use Rattle.page_trees.proofs.InnerCalls.{passes_bare, passes_far, passes_near, passes_nothing}
use Rattle.page_trees.proofs.growing.GrowingTree.pass.Goals as goal

pub returns-in_default : goal.returns-in_default
returns-in_default c = passes_nothing _ c.args.self.now c.args.place c.args.is_near c.args.bookmark c.self.view_is c.in_default.ensures.value

pub returns-in_default-index_of : goal.returns-in_default-index_of
returns-in_default-index_of c =
    passes_bare _ c.args.self.now c.remove_at.new.self c.args.place c.args.is_near c.args.bookmark c.in-Some.node c.index_of.result c.self.invariant.0.order c.self.view_is c.in-Some.ensures.value c.index_of.ensures.place
    c.in_default-index_of.is c.remove_at.ensures

pub returns-then-is_near : goal.returns-then-is_near
returns-then-is_near c =
    passes_near _ c.args.self.now c.renew.new.self c.args.place c.in-Some-index_of.index c.args.is_near c.args.bookmark c.behind.result c.in-Some.node c.index_of.result c.self.invariant.0.order c.self.view_is
    c.in-Some.ensures.value c.index_of.ensures.place c.index_of.ensures.room c.in-Some-index_of.is c.if-is_near.true c.in_ok-renew.ensures c.behind.ensures.first c.behind.ensures.later c.behind.ensures.renewed

pub returns : goal.returns
returns c =
    passes_far _ c.args.self.now c.remove_at-2.new.self c.remove_entry.new.self c.args.place c.in-Some-index_of.index c.args.is_near c.args.bookmark c.without.result c.in-Some.node c.index_of.result c.self.invariant.0.order
    c.self.view_is c.in-Some.ensures.value c.index_of.ensures.place c.in-Some-index_of.is c.if-is_near.false c.remove_at-2.ensures c.remove_entry.ensures c.without.ensures.before c.without.ensures.behind c.without.ensures.renewed
