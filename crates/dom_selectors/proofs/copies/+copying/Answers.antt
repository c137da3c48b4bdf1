use Rattle.std.proofs.Common.{map, ap, refl, ◌∙◌, arith}
use Rattle.dom_selectors.specs.ListsAsTrees.{lists_of, selector_list, steps_of}
use Rattle.dom_selectors.specs.ValuesAsTrees.{read_list, read_nested, read_selector, read_step}
use Rattle.dom_selectors.proofs.Layers.{same_compound, same_has, same_is, same_not, same_step}
use Rattle.dom_selectors.proofs.Weights.{lists_weight, selectors_weight, steps_weight}
use Rattle.dom_selectors.proofs.LoopLemmas.{compound_weighs, copied_more, first_weighs, has_weighs, is_weighs, lists_left, not_weighs, rest_weighs, selectors_left, step_weighs, steps_left}
use Rattle.dom_selectors.proofs.copies.+copying.Goals as goal

pub copy_compound-copy_lists-requires : goal.copy_compound-copy_lists-requires
copy_compound-copy_lists-requires t c = omega (arith, compound_weighs c.args.compound.now, ap (λ ls. lists_weight (lists_of (map read_nested ls))) c.deref-2.ensures.value, c.decreases)

pub copy_compound-returns : goal.copy_compound-returns
copy_compound-returns t c = same_compound _ c.args.compound.now (c.in_ok-parts.ensures ∙ c.deref.ensures.value) (c.in_ok-nested.ensures ∙ ap (map read_nested) c.deref-2.ensures.value)

pub copy_list-copy_selectors-requires : goal.copy_list-copy_selectors-requires
copy_list-copy_selectors-requires t c = omega (arith, is_weighs c.args.list.now c.in-Is.selectors c.in-Is.is, ap (λ ss. selectors_weight (read_list ss)) c.deref.ensures.value, c.decreases)

pub copy_list-copy_selectors-requires-in-Not : goal.copy_list-copy_selectors-requires-in-Not
copy_list-copy_selectors-requires-in-Not t c = omega (arith, not_weighs c.args.list.now c.in-Not.selectors c.in-Not.is, ap (λ ss. selectors_weight (read_list ss)) c.deref-in-Not.ensures.value, c.decreases)

pub copy_list-copy_selectors-requires-in-Has : goal.copy_list-copy_selectors-requires-in-Has
copy_list-copy_selectors-requires-in-Has t c = omega (arith, has_weighs c.args.list.now c.in-Has.selectors c.in-Has.is, ap (λ ss. selectors_weight (read_list ss)) c.deref-in-Has.ensures.value, c.decreases)

pub copy_lists-copy_list-requires : goal.copy_lists-copy_list-requires
copy_lists-copy_list-requires t c = omega (arith, lists_left c.args.lists.now c.loop-list.list-index c.list-item.result c.loop-list-test.true c.list-item.is, c.loop-list.invariant.light, c.decreases)

pub copy_selectors-copy_selector-requires : goal.copy_selectors-copy_selector-requires
copy_selectors-copy_selector-requires t c =
    omega (arith, selectors_left c.args.selectors.now c.loop-selector.selector-index c.selector-item.result c.loop-selector-test.true c.selector-item.is, c.loop-selector.invariant.light, c.decreases)

pub copy_steps-copy_step-requires : goal.copy_steps-copy_step-requires
copy_steps-copy_step-requires t c = omega (arith, steps_left c.args.steps.now c.loop-step.step-index c.step-item.result c.loop-step-test.true c.step-item.is, c.loop-step.invariant.light, c.decreases)

pub copy_lists-loop-list-preserved : goal.copy_lists-loop-list-preserved
copy_lists-loop-list-preserved t c = copied_more read_nested (λ ys. lists_weight (lists_of ys)) (λ y ys. omega arith) _ _ _ _ _ _ c.loop-list-test.true c.list-item.is c.in_ok-copy.ensures c.in_ok-push_list.ensures c.loop-list.invariant

pub copy_selectors-loop-selector-preserved : goal.copy_selectors-loop-selector-preserved
copy_selectors-loop-selector-preserved t c = copied_more read_selector (λ ys. selectors_weight (selector_list ys)) (λ y ys. omega arith) _ _ _ _ _ _ c.loop-selector-test.true c.selector-item.is c.in_ok-copy.ensures c.in_ok-push_selector.ensures c.loop-selector.invariant

pub copy_steps-loop-step-preserved : goal.copy_steps-loop-step-preserved
copy_steps-loop-step-preserved t c = copied_more read_step (λ ys. steps_weight (steps_of ys)) (λ y ys. omega arith) _ _ _ _ _ _ c.loop-step-test.true c.step-item.is c.in_ok-copy.ensures c.in_ok-push_step.ensures c.loop-step.invariant

pub copy_selector-copy_compound-requires : goal.copy_selector-copy_compound-requires
copy_selector-copy_compound-requires t c = omega (arith, first_weighs c.args.selector.now, c.decreases)

pub copy_selector-copy_steps-requires : goal.copy_selector-copy_steps-requires
copy_selector-copy_steps-requires t c = omega (arith, rest_weighs c.args.selector.now, ap (λ ss. steps_weight (steps_of (map read_step ss))) c.deref.ensures.value, c.decreases)

pub copy_step-copy_compound-requires : goal.copy_step-copy_compound-requires
copy_step-copy_compound-requires t c = omega (arith, step_weighs c.args.step.now, c.decreases)

pub copy_list-returns-in_ok-copy_selectors-in-Is : goal.copy_list-returns-in_ok-copy_selectors-in-Is
copy_list-returns-in_ok-copy_selectors-in-Is t c =
    let copy = c.in_ok-copy_selectors-in-Is in
    same_is copy.field-0 c.in-Is.selectors c.args.list.now c.in-Is.is (copy.ensures ∙ ap (map read_selector) c.deref.ensures.value)

pub copy_list-returns-in_ok-copy_selectors-in-Not : goal.copy_list-returns-in_ok-copy_selectors-in-Not
copy_list-returns-in_ok-copy_selectors-in-Not t c =
    let copy = c.in_ok-copy_selectors-in-Not in
    same_not copy.field-0 c.in-Not.selectors c.args.list.now c.in-Not.is (copy.ensures ∙ ap (map read_selector) c.deref-in-Not.ensures.value)

pub copy_list-returns-in_ok-copy_selectors-in-Has : goal.copy_list-returns-in_ok-copy_selectors-in-Has
copy_list-returns-in_ok-copy_selectors-in-Has t c =
    let copy = c.in_ok-copy_selectors-in-Has in
    same_has copy.field-0 c.in-Has.selectors c.args.list.now c.in-Has.is (copy.ensures ∙ ap (map read_selector) c.deref-in-Has.ensures.value)

pub copy_step-returns : goal.copy_step-returns
copy_step-returns t c = same_step _ c.args.step.now refl c.in_ok-compound.ensures
