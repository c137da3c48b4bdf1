use Rattle.std.proofs.Common.{◌≡◌, ap, arith, length, subst, ◌∙◌}
use Rattle.page_trees.specs.Adopting.{PutsBelow}
use Rattle.page_trees.specs.Elements.{IsInOrder}
use Rattle.page_trees.specs.TreeState.{TreeState}
use Rattle.page_trees.proofs.AdoptedChildren.{adopts_once}
use Rattle.page_trees.proofs.growing.GrowingTree.adopt_once.Goals as goal

pub returns : goal.returns
returns c =
    let rest : c.put_below.new.self ≡ record c.climb.new.self { forest = c.put_below.new.self.forest } =
    c.put_below.ensures.rest ∙ ap (λ (s : TreeState). record s { forest = c.put_below.new.self.forest }) c.mark.ensures in
    let before = ap (λ (s : TreeState). length s.stack) c.self.view_is in
    let after = ap (λ (s : TreeState). length s.stack) c.self-2.view_is in
    adopts_once c.args.self.now c.climb.new.self c.put_below.new.self c.adopt_children.new.self c.args.place c.args.furthest_place c.saturating_sub.result c.args.bookmark c.in_ok-bookmark.bookmark c.args.foster c.adopt_children.result
    (subst (λ (s : TreeState). IsInOrder s.forest s.stack) c.self-2.view_is c.self-2.invariant.0.order) c.in_ok-bookmark.ensures
    (subst (λ (s : TreeState). PutsBelow c.args.place c.args.foster s c.put_below.new.self) c.mark.ensures c.put_below.ensures.rule) rest
    (λ mids copies less long far. omega (arith, less, long, far, before, after, c.saturating_sub.ensures, c.saturating_sub-removed.ensures, c.len.ensures, c.len-count.ensures)) c.adopt_children.ensures
