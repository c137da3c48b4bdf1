use Rattle.std.proofs.Common.{◌≤◌, ◌+◌, ◌*◌, length, map, drop}
use Rattle.dom_selectors.specs.ListsAsTrees.{lists_of, steps_of}
use Rattle.dom_selectors.specs.ValuesAsTrees.{read_compound, read_list, read_nested, read_step}
use Rattle.dom_index.specs.TestCounts.{ListsTests, SelectorTests}
use Rattle.dom_index.specs.CompoundCounts.{compound_count, lists_count, steps_count}
use Rattle.dom_selectors.proofs.Weights.{compound_weight, lists_weight, list_weight, selectors_weight, steps_weight}
use Rattle.dom_index.proofs.TestCountLemmas.{Asking, NextAsks}
use Rattle.dom_index.proofs.ChainLemmas.{Arrived}
use Rattle.dom_index.proofs.ListLemmas.{Narrowed}
use Rattle.dom_index.proofs.RestLemmas.{Going}
use Rattle.dom_index.proofs.SelectorLemmas.{HasUnfinished, ListUnfinished}
use Rattle.dom_index.proofs.evaluation.+evaluation.Given as goal

abbrev pub decreases-compound_set : goal.decreases-compound_set
decreases-compound_set l = compound_weight (read_compound l.compound.now)

abbrev pub decreases-lists_set : goal.decreases-lists_set
decreases-lists_set l = lists_weight (lists_of (map read_nested l.lists.now))

abbrev pub decreases-nested_set : goal.decreases-nested_set
decreases-nested_set l = list_weight (read_nested l.list.now)

abbrev pub decreases-list_set : goal.decreases-list_set
decreases-list_set l = selectors_weight (read_list l.selectors.now)

abbrev pub decreases-has_set : goal.decreases-has_set
decreases-has_set l = selectors_weight (read_list l.selectors.now)

abbrev pub decreases-relative_set : goal.decreases-relative_set
decreases-relative_set l = 8 + compound_weight (read_compound l.first.now) + steps_weight (steps_of (map read_step l.steps.now))

abbrev pub decreases-rest_set : goal.decreases-rest_set
decreases-rest_set l = 1 + steps_weight (steps_of (map read_step l.steps.now))

abbrev pub decreases-selector_set : goal.decreases-selector_set
decreases-selector_set l = 8 + compound_weight (read_compound l.first.now) + steps_weight (steps_of (map read_step l.steps.now))

abbrev pub invariant-list_set-loop-selector : goal.invariant-list_set-loop-selector
invariant-list_set-loop-selector l = ListUnfinished l.preorder.tree.now l.wanted l.selectors l.selector-index l.table.items l.fn.tests l.tests

abbrev pub invariant-has_set-loop-selector : goal.invariant-has_set-loop-selector
invariant-has_set-loop-selector l = HasUnfinished l.preorder.tree.now l.selectors l.selector-index l.table.items l.fn.tests l.tests

-- the steps that are left, and the set of those after them
abbrev pub invariant-rest_set-loop-step : goal.invariant-rest_set-loop-step
invariant-rest_set-loop-step l =
    let all = map read_step l.steps in
    let left = map read_step l.left in
    let count = length l.preorder.tree.now.content in
    record {
      going : Going l.preorder.tree.now count all left l.table.items l.fn.tests l.tests;
      tests : l.tests + steps_count (steps_of left) * count ≤ l.fn.tests + steps_count (steps_of all) * count;
      light : steps_weight (steps_of left) ≤ steps_weight (steps_of all);
    }

abbrev pub decreases-rest_set-loop-step : goal.decreases-rest_set-loop-step
decreases-rest_set-loop-step l = length l.left

abbrev pub invariant-lists_set-loop-list : goal.invariant-lists_set-loop-list
invariant-lists_set-loop-list l =
    let all = lists_of (map read_nested l.lists) in
    let left = lists_of (map read_nested (drop l.list-index l.lists)) in
    let count = length l.preorder.tree.now.content in
    record {
      table : Narrowed l.preorder.tree.now count l.fn.wanted.items l.table.items all left;
      asking : Asking l.fn.tests l.tests (ListsTests all l.preorder.tree.now l.fn.wanted.items) (ListsTests left l.preorder.tree.now l.table.items);
      tests : l.tests + lists_count left * count ≤ l.fn.tests + lists_count all * count;
      light : lists_weight left ≤ lists_weight all;
    }

-- the compound that is tested next, and those after it
abbrev pub invariant-selector_set-loop-step : goal.invariant-selector_set-loop-step
invariant-selector_set-loop-step l =
    let first = read_compound l.first in
    let all = map read_step l.steps in
    let c = read_compound l.compound in
    let left = map read_step l.left in
    let forest = l.preorder.tree.now in
    let count = length forest.content in
    record {
      arrived : Arrived forest first all c left l.here.items;
      asking : Asking l.fn.tests l.tests (SelectorTests first (steps_of all) forest l.wanted) (NextAsks c (steps_of left) forest l.here.items l.wanted);
      tests : l.tests + (compound_count c + steps_count (steps_of left)) * count ≤ l.fn.tests + (compound_count first + steps_count (steps_of all)) * count;
      light : compound_weight c + steps_weight (steps_of left) ≤ compound_weight first + steps_weight (steps_of all);
    }

abbrev pub decreases-selector_set-loop-step : goal.decreases-selector_set-loop-step
decreases-selector_set-loop-step l = length l.left
