use Rattle.std.proofs.Common.{Some, ap, length, refl, string_bytes, subst, sym, ◌<◌, ◌≡◌, ◌∙◌}
use Rattle.dom_links.specs.Sound.{IsOpenGap}
use Rattle.page_trees.specs.NameNumbers.{number_in}
use Rattle.page_trees.specs.Stands.{Builds}
use Rattle.page_trees.specs.TreeState.{TreeState}
use Rattle.page_trees.proofs.BuiltCalls.{room_before}
use Rattle.page_trees.proofs.BuiltNodes.{element_built}
use Rattle.page_trees.proofs.HeldNumbers.{grown, stack_pushed}
use Rattle.page_trees.proofs.NumberedNames.{numbers_built}
use Rattle.page_trees.proofs.growing.GrowingTree.insert.Goals as goal

pub invariant_of-self : goal.invariant_of-self
invariant_of-self c =
    (grown _ _ _ _ _ _ _ c.self.invariant.0 c.put_element.ensures.grows, c.self.invariant.1)

pub invariant_of-self-in_err-push : goal.invariant_of-self-in_err-push
invariant_of-self-in_err-push c =
    (stack_pushed _ _ _ _ _ _ _ _ _ _ c.self.invariant.0 c.put_element.ensures.grows c.in_ok-open.ensures.element c.push.ensures.ok c.push.ensures.err, c.push.ensures.index c.self.invariant.1)

pub invariant_of-self-2 : goal.invariant_of-self-2
invariant_of-self-2 c =
    (stack_pushed _ _ _ _ _ _ _ _ _ _ c.self.invariant.0 c.put_element.ensures.grows c.in_ok-open.ensures.element c.push.ensures.ok c.push.ensures.err, c.push.ensures.index c.self.invariant.1)

pub returns-clause-rule : goal.returns-clause-rule
returns-clause-rule c written attrs is within t fosters b =
    let pushed = c.in_ok-push.ensures.ok in
    let number = c.in_ok-number.ensures.number in
    let now : Builds c.number_of.new.self t = subst (λ (s : TreeState). Builds s t) (sym c.number_of.ensures.rest) (numbers_built _ t _ _ _ _ number b) in
    let shallow = subst (λ (s : TreeState). length s.stack < c.args.placing.max_depth) c.self.view_is (room_before _ _ _ _ pushed within) in
    element_built _ t _ _ _ _ _ _ written attrs _ _ _ _ (subst (λ (s : TreeState). Builds s t) (sym c.self.view_is) now) c.is_forest.ensures
    (subst (λ (s : TreeState). IsOpenGap c.gap-gap.result s.forest) (sym c.self.view_is) c.gap-gap.ensures.open) (c.gap-gap.ensures.rule shallow t fosters now) is
    (λ other. subst (λ (s : TreeState). number_in s.numbers (string_bytes c.args.tag.now.name) ≡ Some c.in_ok-number.number) (sym c.self.view_is)
    (ap (number_in c.number_of.new.self.numbers) (sym c.as_str.ensures.value) ∙ number.here other))
    c.in_ok-open.ensures.made c.in_ok-open.ensures.shape refl pushed
