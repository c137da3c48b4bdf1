use Rattle.std.proofs.Common.{◌+◌, map}
use Rattle.dom_selectors.specs.ValuesAsTrees.{read_compound, read_list, read_lists, read_nested, read_selector, read_step, read_steps}
use Rattle.dom_selectors.proofs.Weights.{compound_weight, lists_weight, list_weight, selectors_weight, steps_weight}
use Rattle.dom_selectors.proofs.LoopLemmas.{Going}
use Rattle.dom_selectors.proofs.copies.+copying.Given as goal

abbrev pub decreases-copy_compound : goal.decreases-copy_compound
decreases-copy_compound l = compound_weight (read_compound l.compound.now)

abbrev pub decreases-copy_lists : goal.decreases-copy_lists
decreases-copy_lists l = lists_weight (read_lists l.lists.now)

abbrev pub decreases-copy_list : goal.decreases-copy_list
decreases-copy_list l = list_weight (read_nested l.list.now)

abbrev pub decreases-copy_selectors : goal.decreases-copy_selectors
decreases-copy_selectors l = selectors_weight (read_list l.selectors.now)

abbrev pub decreases-copy_selector : goal.decreases-copy_selector
decreases-copy_selector l =
    let selector = read_selector l.selector.now in
    11 + compound_weight selector.1 + steps_weight selector.2

abbrev pub decreases-copy_steps : goal.decreases-copy_steps
decreases-copy_steps l = steps_weight (read_steps l.steps.now)

abbrev pub decreases-copy_step : goal.decreases-copy_step
decreases-copy_step l = 1 + compound_weight (read_step l.step.now).1

-- the copies, and what is left to copy
abbrev pub invariant-copy_lists-loop-list : goal.invariant-copy_lists-loop-list
invariant-copy_lists-loop-list l = Going (map read_nested) (λ ls. lists_weight (read_lists ls)) l.lists l.list-index (map read_nested l.made.items) (map read_nested l.lists)

abbrev pub invariant-copy_selectors-loop-selector : goal.invariant-copy_selectors-loop-selector
invariant-copy_selectors-loop-selector l =
    Going (map read_selector) (λ ss. selectors_weight (read_list ss)) l.selectors l.selector-index (map read_selector l.made.items) (map read_selector l.selectors)

abbrev pub invariant-copy_steps-loop-step : goal.invariant-copy_steps-loop-step
invariant-copy_steps-loop-step l = Going (map read_step) (λ ss. steps_weight (read_steps ss)) l.steps l.step-index (map read_step l.made.items) (map read_step l.steps)
