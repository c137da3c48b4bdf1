use Rattle.std.proofs.Common.{List, ap, reverse, subst, sym, ◌∙◌}
use Rattle.dom_links.specs.Sound.{target}
use Rattle.page_trees.specs.Elements.{LiesIn}
use Rattle.page_trees.specs.Placing.{place_of, point_of}
use Rattle.page_trees.specs.declared.stack.Open.{Open}
use Rattle.page_trees.proofs.HeldNumbers.{stack_moved}
use Rattle.page_trees.proofs.StackOrder.{open_moves}
use Rattle.page_trees.proofs.WrappedElements.{none_below, puts_below}
use Rattle.page_trees.proofs.growing.GrowingTree.put_below.Goals as goal

pub move_to-requires : goal.move_to-requires
move_to-requires c =
    let all = c.self.invariant.0 in
    let lies = subst (λ (es : List Open). LiesIn c.self.inside.tree es (target c.gap_in-gap.result)) c.before-2.ensures c.gap_in-gap.ensures.lies in
    open_moves _ _ _ _ c.in-Some.last all.root all.stack all.order (sym c.in-Some.ensures) c.gap_in-gap.ensures.open lies

pub invariant_of-self : goal.invariant_of-self
invariant_of-self c =
    let lies = subst (λ (es : List Open). LiesIn c.self.inside.tree es (target c.gap_in-gap.result)) c.before-2.ensures c.gap_in-gap.ensures.lies in
    (stack_moved _ _ _ _ _ _ _ _ _ c.in-Some.last c.is_forest.ensures c.self.invariant.0 (sym c.in-Some.ensures) c.gap_in-gap.ensures.open lies c.move_to.ensures, c.self.invariant.1)

pub returns-clause-rule : goal.returns-clause-rule
returns-clause-rule c =
    let all = c.self.invariant.0 in
    let lies = subst (λ (es : List Open). LiesIn c.self.inside.tree es (target c.gap_in-gap.result)) c.before-2.ensures c.gap_in-gap.ensures.lies in
    puts_below _ c.args.self.now _ c.gap_in-gap.result c.args.place c.args.foster c.in-Some.last c.self.view_is c.is_forest.ensures all.stack all.order c.in-Some.ensures lies
    (c.gap_in-gap.ensures.value ∙ ap (λ (es : List Open). point_of c.self.inside.tree (place_of c.self.inside.tree c.args.foster (reverse es))) c.before-2.ensures) c.move_to.ensures

pub returns-in_default-clause-rule : goal.returns-in_default-clause-rule
returns-in_default-clause-rule c = none_below c.args.self.now _ c.args.place c.args.foster c.self.view_is c.in_default.ensures
