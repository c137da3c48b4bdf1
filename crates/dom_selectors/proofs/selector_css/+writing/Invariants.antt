use Rattle.std.proofs.Common.{ℕ, ◌+◌, ◌*◌, ◌++◌, Bool, List, true, string_bytes}
use Rattle.dom_selectors.specs.SelectorCss.{lists_css, selectors_css, steps_css}
use Rattle.dom_selectors.specs.ValuesAsTrees.{read_compound, read_list, read_lists, read_nested, read_selector, read_step, read_steps}
use Rattle.dom_selectors.proofs.Weights.{compound_weight, lists_weight, list_weight, selectors_weight, steps_weight}
use Rattle.dom_selectors.specs.declared.syntax.Nested.{Nested}
use Rattle.dom_selectors.specs.declared.syntax.Selector.{Selector}
use Rattle.dom_selectors.specs.declared.syntax.Step.{Step}
use Rattle.dom_selectors.proofs.LoopLemmas.{Going}
use Rattle.dom_selectors.proofs.selector_css.+writing.Given as goal

abbrev pub decreases-push_compound : goal.decreases-push_compound
decreases-push_compound l = 2 * compound_weight (read_compound l.compound.now)

abbrev pub decreases-push_lists : goal.decreases-push_lists
decreases-push_lists l = 2 * lists_weight (read_lists l.lists.now)

abbrev pub decreases-push_list : goal.decreases-push_list
decreases-push_list l = 2 * list_weight (read_nested l.list.now)

abbrev pub decreases-push_enclosed : goal.decreases-push_enclosed
decreases-push_enclosed l = 1 + 2 * selectors_weight (read_list l.selectors.now)

abbrev pub decreases-push_selectors : goal.decreases-push_selectors
decreases-push_selectors l = 2 * selectors_weight (read_list l.selectors.now)

abbrev pub decreases-push_selector : goal.decreases-push_selector
decreases-push_selector l =
    let selector = read_selector l.selector.now in
    2 * (11 + compound_weight selector.1 + steps_weight selector.2)

abbrev pub decreases-push_steps : goal.decreases-push_steps
decreases-push_steps l = 2 * steps_weight (read_steps l.steps.now)

abbrev pub decreases-push_step : goal.decreases-push_step
decreases-push_step l = 2 * (1 + compound_weight (read_step l.step.now).1)

-- what is written, and what is left to write
abbrev pub invariant-push_lists-loop-list : goal.invariant-push_lists-loop-list
invariant-push_lists-loop-list l =
    let css : List Nested → List ℕ = λ ls. lists_css (read_lists ls) in
    Going css (λ ls. lists_weight (read_lists ls)) l.lists l.list-index (string_bytes l.out) (string_bytes l.initial.out ++ css l.lists)

abbrev pub invariant-push_selectors-loop-selector : goal.invariant-push_selectors-loop-selector
invariant-push_selectors-loop-selector l =
    let css : Bool → List Selector → List ℕ = λ first ss. selectors_css first l.is_relative (read_list ss) in
    Going (css l.is_first) (λ ss. selectors_weight (read_list ss)) l.selectors l.selector-index (string_bytes l.out) (string_bytes l.initial.out ++ css true l.selectors)

abbrev pub invariant-push_steps-loop-step : goal.invariant-push_steps-loop-step
invariant-push_steps-loop-step l =
    let css : List Step → List ℕ = λ ss. steps_css (read_steps ss) in
    Going css (λ ss. steps_weight (read_steps ss)) l.steps l.step-index (string_bytes l.out) (string_bytes l.initial.out ++ css l.steps)
