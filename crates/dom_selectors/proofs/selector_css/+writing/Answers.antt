use Rattle.std.proofs.Common.{◌++◌, map, refl, ap, ◌∙◌, append_assoc, false, string_bytes, arith}
use Rattle.dom_selectors.specs.ListsAsTrees.{lists_of, steps_of}
use Rattle.dom_selectors.specs.SelectorCss.{comma_css, list_css, lists_css, selector_css, selectors_css, step_css, steps_css}
use Rattle.dom_selectors.specs.ValuesAsTrees.{read_list, read_nested, read_selector, read_step}
use Rattle.dom_selectors.proofs.Weights.{lists_weight, selectors_weight, steps_weight}
use Rattle.dom_selectors.proofs.LoopLemmas.{compound_weighs, first_weighs, going_more, has_weighs, is_weighs, lists_left, not_weighs, rest_weighs, selectors_css_left, selectors_left, step_weighs, steps_left, written_more}
use Rattle.dom_selectors.proofs.selector_css.+writing.Goals as goal

pub push_compound-push_lists-requires : goal.push_compound-push_lists-requires
push_compound-push_lists-requires t c = omega (arith, compound_weighs c.args.compound.now, ap (λ ls. lists_weight (lists_of (map read_nested ls))) c.deref-2.ensures.value, c.decreases)

pub push_list-push_enclosed-requires : goal.push_list-push_enclosed-requires
push_list-push_enclosed-requires t c = omega (arith, is_weighs c.args.list.now c.in-Is.selectors c.in-Is.is, ap (λ ss. selectors_weight (read_list ss)) c.deref.ensures.value, c.decreases)

pub push_list-push_enclosed-requires-in-Not : goal.push_list-push_enclosed-requires-in-Not
push_list-push_enclosed-requires-in-Not t c = omega (arith, not_weighs c.args.list.now c.in-Not.selectors c.in-Not.is, ap (λ ss. selectors_weight (read_list ss)) c.deref-in-Not.ensures.value, c.decreases)

pub push_list-push_enclosed-requires-in-Has : goal.push_list-push_enclosed-requires-in-Has
push_list-push_enclosed-requires-in-Has t c = omega (arith, has_weighs c.args.list.now c.in-Has.selectors c.in-Has.is, ap (λ ss. selectors_weight (read_list ss)) c.deref-in-Has.ensures.value, c.decreases)

pub push_lists-push_list-requires : goal.push_lists-push_list-requires
push_lists-push_list-requires t c = omega (arith, lists_left c.args.lists.now c.loop-list.list-index c.list-item.result c.loop-list-test.true c.list-item.is, c.loop-list.invariant.light, c.decreases)

pub push_selectors-push_selector-requires : goal.push_selectors-push_selector-requires
push_selectors-push_selector-requires t c =
    omega (arith, selectors_left c.args.selectors.now c.loop-selector.selector-index c.selector-item.result c.loop-selector-test.true c.selector-item.is, c.loop-selector.invariant.light, c.decreases)

pub push_steps-push_step-requires : goal.push_steps-push_step-requires
push_steps-push_step-requires t c = omega (arith, steps_left c.args.steps.now c.loop-step.step-index c.step-item.result c.loop-step-test.true c.step-item.is, c.loop-step.invariant.light, c.decreases)

pub push_lists-loop-list-preserved : goal.push_lists-loop-list-preserved
push_lists-loop-list-preserved t c = written_more read_nested (λ ys. lists_weight (lists_of ys)) (λ y ys. omega arith) (λ ys. lists_css (lists_of ys)) list_css (λ y ys. refl) _ _ _ _ _ _ c.loop-list-test.true c.list-item.is c.in_ok-push_list.ensures c.loop-list.invariant

pub push_steps-loop-step-preserved : goal.push_steps-loop-step-preserved
push_steps-loop-step-preserved t c = written_more read_step (λ ys. steps_weight (steps_of ys)) (λ y ys. omega arith) (λ ys. steps_css (steps_of ys)) step_css (λ y ys. refl) _ _ _ _ _ _ c.loop-step-test.true c.step-item.is c.in_ok-push_step.ensures c.loop-step.invariant

pub push_selectors-loop-selector-preserved : goal.push_selectors-loop-selector-preserved
push_selectors-loop-selector-preserved t c =
    let comma = comma_css c.loop-selector.is_first in
    let text = selector_css c.args.is_relative (read_selector c.selector-item.result) in
    let added = c.in_ok-push_selector.ensures ∙ (ap (λ t. t ++ text) (rw c.comma_text.ensures at c.in_ok-push_text.ensures) ∙ append_assoc (string_bytes c.loop-selector.out) comma text) in
    let cut = selectors_css_left c.loop-selector.is_first c.args.is_relative c.args.selectors.now c.loop-selector.selector-index c.selector-item.result c.loop-selector-test.true c.selector-item.is in
    going_more (λ ss. selectors_css c.loop-selector.is_first c.args.is_relative (read_list ss)) (λ ss. selectors_css false c.args.is_relative (read_list ss)) (λ ss. selectors_weight (read_list ss)) _ _ (comma ++ text) _ _ _ cut
    (omega (arith, selectors_left c.args.selectors.now c.loop-selector.selector-index c.selector-item.result c.loop-selector-test.true c.selector-item.is)) added c.loop-selector.invariant

pub push_selector-push_compound-requires : goal.push_selector-push_compound-requires
push_selector-push_compound-requires t c = omega (arith, first_weighs c.args.selector.now, c.decreases)

pub push_selector-push_steps-requires : goal.push_selector-push_steps-requires
push_selector-push_steps-requires t c = omega (arith, rest_weighs c.args.selector.now, ap (λ ss. steps_weight (steps_of (map read_step ss))) c.deref.ensures.value, c.decreases)

pub push_step-push_compound-requires : goal.push_step-push_compound-requires
push_step-push_compound-requires t c = omega (arith, step_weighs c.args.step.now, c.decreases)
