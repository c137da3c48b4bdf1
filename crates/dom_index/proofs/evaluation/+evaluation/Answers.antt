use Rattle.std.proofs.Common.{◌≡◌, ◌≤◌, ◌+◌, ◌*◌, ℕ, List, [], ◌∷◌, true, length, map, drop, replicate, ap, refl, sym, ◌∙◌, subst, arith}
use Rattle.std.specs.Result.{IfOk}
use Rattle.std.proofs.lemmas.List.{at_drop_all, nil_from_length}
use Rattle.std.proofs.lemmas.Grind.{common_steps}
use Rattle.dom_selectors.specs.declared.syntax.Selector.{Selector}
use Rattle.dom_selectors.specs.ListsAsTrees.{lists_of, steps_of}
use Rattle.dom_selectors.specs.Syntax.{no_steps}
use Rattle.dom_select.specs.Meaning.{ListHolds, ListsHold}
use Rattle.dom_selectors.specs.ValuesAsTrees.{read_compound, read_list, read_nested, read_step}
use Rattle.dom_selectors.proofs.Layers.{read_has, read_is}
use Rattle.dom_selectors.proofs.Weights.{lists_weight, steps_weight}
use Rattle.dom_index.specs.TestCounts.{IsFilteredByList, CompoundTests, AddsTests, HasTests, ListTests, ListsTests, SelectorTests, SelectorsTests, everywhere, cardinality}
use Rattle.dom_index.specs.CompoundCounts.{compound_count, list_count, lists_count, steps_count}
use Rattle.dom_index.specs.NodeSets.{IsIntersection, IsUnion, IsSetOf, IsSetWithin, HasRightOperand, HasLeftOperand, in_set}
use Rattle.std.proofs.lemmas.Result.{IfOk-weaker}
use Rattle.dom_index.proofs.TestCountLemmas.{Asking, NextAsks, asking_end, asking_from, asking_last, asking_more, asks_first, asks_last, asks_more, counts_compound, kept_decided, relative_tests, left_fewer, most_of_compound, ok_both}
use Rattle.dom_index.proofs.ChainLemmas.{Chain, chain_last, chain_next, chain_start}
use Rattle.dom_index.proofs.SelectorLemmas.{has_more, list_more, selectors_within}
use Rattle.dom_index.proofs.RestLemmas.{going_on, step_decided, some_decided, steps_apart, steps_asked, weight_last}
use Rattle.dom_index.proofs.ListLemmas.{Narrowed, enough, lists_cut, narrowed_more, spent, steps_ahead}
use Rattle.dom_index.proofs.evaluation.+evaluation.Goals as goal

pub list_set-returns-in_err-answer-clause-tests : goal.list_set-returns-in_err-answer-clause-tests
list_set-returns-in_err-answer-clause-tests t c =
    selectors_within _ _ _ _ c.args.selectors.now c.loop-selector.selector-index c.selector-item.result _ (omega arith) c.selector-item.is c.deref.ensures.value c.loop-selector.invariant.tests c.selector_set.ensures.tests

pub list_set-loop-selector-preserved : goal.list_set-loop-selector-preserved
list_set-loop-selector-preserved t c =
    list_more c.args.preorder.now.tree.now c.args.wanted.now c.args.selectors.now c.loop-selector.selector-index c.selector-item.result c.deref.result.now (omega arith) c.selector-item.is c.deref.ensures.value
    c.loop-selector.table.items c.in_ok-answer.answer.items c.unite.new.table.items c.args.tests.now c.loop-selector.tests c.selector_set.new.tests c.loop-selector.invariant c.in_ok-answer.ensures.table.each
    (subst (IsUnion c.unite.new.table.items c.loop-selector.table.items) c.deref-in-loop-selector.ensures.value c.unite.ensures) c.in_ok-answer.ensures.counted c.selector_set.ensures.tests

pub has_set-returns-in_err-answer-clause-tests : goal.has_set-returns-in_err-answer-clause-tests
has_set-returns-in_err-answer-clause-tests t c =
    selectors_within _ _ _ _ c.args.selectors.now c.loop-selector.selector-index c.selector-item.result _ (omega arith) c.selector-item.is c.deref.ensures.value c.loop-selector.invariant.tests c.relative_set.ensures.tests

pub has_set-loop-selector-preserved : goal.has_set-loop-selector-preserved
has_set-loop-selector-preserved t c =
    has_more c.args.preorder.now.tree.now c.args.selectors.now c.loop-selector.selector-index c.selector-item.result c.deref.result.now (omega arith) c.selector-item.is c.deref.ensures.value
    c.loop-selector.table.items c.in_ok-answer.answer.items c.unite.new.table.items c.args.tests.now c.loop-selector.tests c.relative_set.new.tests c.loop-selector.invariant (λ n known here. c.in_ok-answer.ensures.table.each n known)
    (subst (IsUnion c.unite.new.table.items c.loop-selector.table.items) c.deref-in-loop-selector.ensures.value c.unite.ensures) c.in_ok-answer.ensures.counted c.relative_set.ensures.tests

pub lists_set-loop-list-preserved : goal.lists_set-loop-list-preserved
lists_set-loop-list-preserved t c =
    let lists = c.args.lists.now in
    let all = lists_of (map read_nested lists) in
    let forest = c.args.preorder.now.tree.now in
    let m = length forest.content in
    let l = c.list-item.result in
    let i = c.loop-list.list-index in
    let top : ℕ = c.args.tests.now + lists_count all * m in
    let rest = lists_of (map read_nested (drop (i + 1) lists)) in
    let cut = lists_cut i lists l (omega arith) c.list-item.is in
    let before = subst (λ z. c.loop-list.tests + lists_count z * m ≤ top) cut c.loop-list.invariant.tests in
    let light = ap lists_weight cut in
    let less = c.loop-list.invariant.light in
    let table = c.loop-list.table.items in
    let answer = subst (λ wanted. IsSetWithin wanted c.in_ok-answer.answer.items m (ListHolds (read_nested l) forest)) c.deref.ensures.value c.in_ok-answer.ensures.table in
    let both = subst (IsIntersection c.intersect.new.table.items table) c.deref-in-loop-list.ensures.value c.intersect.ensures in
    let kept : IsFilteredByList (read_nested l) forest table c.intersect.new.table.items = kept_decided forest (read_nested l) table c.in_ok-answer.answer.items c.intersect.new.table.items c.loop-list.invariant.table.long answer both in
    record {
      table = narrowed_more forest m c.args.wanted.items all (read_nested l) rest table c.in_ok-answer.answer.items c.intersect.new.table.items answer both
          (subst (Narrowed forest m c.args.wanted.items table all) cut c.loop-list.invariant.table);
      asking = asking_more c.args.tests.now c.loop-list.tests c.nested_set.new.tests (ListsTests all forest c.args.wanted.items) _ (ListTests (read_nested l) forest table) (ListsTests rest forest c.intersect.new.table.items)
          (subst (λ z. Asking c.args.tests.now c.loop-list.tests (ListsTests all forest c.args.wanted.items) (ListsTests z forest table)) cut c.loop-list.invariant.asking)
          (subst (λ wanted. AddsTests c.loop-list.tests c.nested_set.new.tests (ListTests (read_nested l) forest wanted)) c.deref.ensures.value c.in_ok-answer.ensures.counted)
          (λ one others h more. (c.intersect.new.table.items, one, others, kept, h, more, refl));
      tests = spent (list_count (read_nested l)) (lists_count rest) m c.args.tests.now c.loop-list.tests c.nested_set.new.tests (lists_count all) before c.nested_set.ensures.tests;
      light = omega arith;
    }

pub selector_set-loop-step-preserved : goal.selector_set-loop-step-preserved
selector_set-loop-step-preserved t c =
    let forest = c.args.preorder.now.tree.now in
    let m = length forest.content in
    let first = read_compound c.args.first.now in
    let all = map read_step c.args.steps.now in
    let at = read_compound c.loop-step.compound.now in
    let here = c.loop-step.here.items in
    let s = c.in-Some.step.now in
    let left = map read_step c.loop-step.left.now in
    let behind = map read_step c.in-Some.behind.now in
    let next = read_compound s.compound in
    let held = c.in_ok-held.held.items in
    let there = c.in_ok-here-2.here.items in
    let cut : left ≡ (s.combinator, next) ∷ behind = steps_ahead c.loop-step.left.now c.in-Some.behind.now s c.in-Some.ensures.cases.0 in
    let reached = subst (λ table. IsSetOf there m (HasLeftOperand forest s.combinator table)) c.deref.ensures.value c.in_ok-here-2.ensures in
    let light = ap (λ (ss : Chain). steps_weight (steps_of ss)) cut in
    let less = c.loop-step.invariant.light in
    let now = c.loop-step.tests in
    let new = c.compound_set.new.tests in
    record {
      arrived = chain_next forest first all at left here c.loop-step.invariant.arrived c.forest_laws.ensures.forest c.forest_laws.ensures.lines s.combinator next behind held there cut c.in_ok-held.ensures.table reached;
      asking = asking_more c.args.tests.now now new (SelectorTests first (steps_of all) forest c.args.wanted.now) _ (CompoundTests at forest here) (NextAsks next (steps_of behind) forest there c.args.wanted.now)
          (subst (λ (ss : Chain). Asking c.args.tests.now now (SelectorTests first (steps_of all) forest c.args.wanted.now) (NextAsks at (steps_of ss) forest here c.args.wanted.now)) cut c.loop-step.invariant.asking)
          c.in_ok-held.ensures.counted (asks_more forest at next s.combinator (steps_of behind) here there held c.args.wanted.now c.loop-step.invariant.arrived.long c.in_ok-held.ensures.table reached);
      tests = spent (compound_count at) (compound_count next + steps_count (steps_of behind)) m c.args.tests.now now new (compound_count first + steps_count (steps_of all))
          (subst (λ (ss : Chain). now + (compound_count at + steps_count (steps_of ss)) * m ≤ c.args.tests.now + (compound_count first + steps_count (steps_of all)) * m) cut c.loop-step.invariant.tests) c.compound_set.ensures.tests;
      light = omega arith;
    }

pub rest_set-compound_set-requires : goal.rest_set-compound_set-requires
rest_set-compound_set-requires t c =
    let left = c.loop-step.left.now in
    let before = c.in-Some.before.now in
    let s = c.in-Some.step.now in
    let apart = ap (λ ss. steps_weight (steps_of ss)) (steps_apart left before s c.in-Some.ensures.cases.0) ∙ weight_last (map read_step before) (s.combinator, read_compound s.compound) in
    let less = c.loop-step.invariant.light in
    (omega (arith, apart, less, c.decreases), c.loop-step.invariant.going.answer.long)

pub rest_set-returns-in_err-held-clause-tests : goal.rest_set-returns-in_err-held-clause-tests
rest_set-returns-in_err-held-clause-tests t c =
    enough (steps_count (steps_of (map read_step c.in-Some.before.now))) (length c.args.preorder.now.tree.now.content) c.compound_set.new.tests _
    (steps_asked (length c.args.preorder.now.tree.now.content) c.args.tests.now c.loop-step.tests c.compound_set.new.tests c.args.steps.now c.loop-step.left.now c.in-Some.before.now c.in-Some.step.now c.in-Some.ensures.cases.0 c.loop-step.invariant.tests c.compound_set.ensures.tests)

pub rest_set-returns-in_err-table-2-clause-tests : goal.rest_set-returns-in_err-table-2-clause-tests
rest_set-returns-in_err-table-2-clause-tests t c =
    enough (steps_count (steps_of (map read_step c.in-Some.before.now))) (length c.args.preorder.now.tree.now.content) c.compound_set.new.tests _
    (steps_asked (length c.args.preorder.now.tree.now.content) c.args.tests.now c.loop-step.tests c.compound_set.new.tests c.args.steps.now c.loop-step.left.now c.in-Some.before.now c.in-Some.step.now c.in-Some.ensures.cases.0 c.loop-step.invariant.tests c.compound_set.ensures.tests)

pub rest_set-loop-step-preserved : goal.rest_set-loop-step-preserved
rest_set-loop-step-preserved t c =
    let forest = c.args.preorder.now.tree.now in
    let m = length forest.content in
    let left = c.loop-step.left.now in
    let before = c.in-Some.before.now in
    let s = c.in-Some.step.now in
    let cut = steps_apart left before s c.in-Some.ensures.cases.0 in
    let held = c.in_ok-held.held.items in
    let flags = c.in_ok-table-2.table.items in
    let apart = ap (λ ss. steps_weight (steps_of ss)) cut ∙ weight_last (map read_step before) (s.combinator, read_compound s.compound) in
    let less = c.loop-step.invariant.light in
    record {
      going = going_on forest m refl (map read_step c.args.steps.now) (map read_step left) (map read_step before) s.combinator (read_compound s.compound) c.loop-step.table.items held flags c.intersect_operands.new.table.items
          c.args.tests.now c.loop-step.tests c.compound_set.new.tests c.loop-step.invariant.going cut c.in_ok-held.ensures.table
          (subst (λ table. IsSetOf flags m (HasRightOperand forest s.combinator table)) c.deref.ensures.value c.in_ok-table-2.ensures) c.intersect_operands.ensures c.in_ok-held.ensures.counted;
      tests = steps_asked (length c.args.preorder.now.tree.now.content) c.args.tests.now c.loop-step.tests c.compound_set.new.tests c.args.steps.now c.loop-step.left.now c.in-Some.before.now c.in-Some.step.now c.in-Some.ensures.cases.0 c.loop-step.invariant.tests c.compound_set.ensures.tests;
      light = omega arith;
    }

pub relative_set-returns-clause-table : goal.relative_set-returns-clause-table
relative_set-returns-clause-table t c =
    let forest = c.args.preorder.now.tree.now in
    let m = length forest.content in
    let lead = c.args.lead in
    let first = read_compound c.args.first.now in
    let steps = steps_of (map read_step c.args.steps.now) in
    let held = c.in_ok-held.held.items in
    IfOk-weaker c.step_backward.result _ _ (λ flags reached. some_decided forest c.forest_laws.ensures.lines m lead first steps flags.items
    (step_decided forest m refl lead first steps c.in_ok-wanted.wanted.items held c.in_ok-wanted.ensures.table c.in_ok-held.ensures.table flags.items
    (subst (λ table. IsSetOf flags.items m (HasRightOperand forest lead table)) c.deref.ensures.value reached))) c.step_backward.ensures

pub compound_set-overflow_sub-turned_away : goal.compound_set-overflow_sub-turned_away
compound_set-overflow_sub-turned_away t c =
    let forest = c.args.preorder.now.tree.now in
    let named = c.filter_by_type.new.table.items in
    let narrowed = c.in_ok-narrowed.narrowed.items in
    let answer = subst (λ ls. IsSetOf narrowed (length forest.content) (λ n. (in_set named n ≡ true) × ListsHold (lists_of (map read_nested ls)) forest n)) c.deref-2.ensures.value c.in_ok-narrowed.ensures.table in
    let few = left_fewer forest c.args.compound.now c.args.wanted.items named narrowed c.requires c.filter_by_type.ensures.asked answer in
    let all = c.member_count-asked.ensures ∙ ap cardinality c.deref.ensures.value in
    let left = c.member_count.ensures ∙ ap cardinality c.deref-3.ensures.value in
    omega arith

pub compound_set-returns-clause-counted : goal.compound_set-returns-clause-counted
compound_set-returns-clause-counted t c =
    let forest = c.args.preorder.now.tree.now in
    let named = c.filter_by_type.new.table.items in
    let narrowed = c.in_ok-narrowed.narrowed.items in
    let answer = subst (λ ls. IsSetOf narrowed (length forest.content) (λ n. (in_set named n ≡ true) × ListsHold (lists_of (map read_nested ls)) forest n)) c.deref-2.ensures.value c.in_ok-narrowed.ensures.table in
    let lists = subst (λ ls. AddsTests c.args.tests.now c.lists_set.new.tests (ListsTests (lists_of (map read_nested ls)) forest named)) c.deref-2.ensures.value c.in_ok-narrowed.ensures.counted in
    IfOk-weaker c.filter_by_compound.result _ _ (λ table counted. counts_compound forest c.args.compound.now c.args.wanted.items named narrowed c.requires c.filter_by_type.ensures.asked answer c.args.tests.now c.lists_set.new.tests c.saturating_add-2.result c.filter_by_compound.new.tests
    c.member_count-asked.result c.member_count.result (c.member_count-asked.ensures ∙ ap cardinality c.deref.ensures.value) (c.member_count.ensures ∙ ap cardinality c.deref-3.ensures.value) lists c.saturating_add-2.ensures counted) c.filter_by_compound.ensures.counted

pub compound_set-returns-clause-tests : goal.compound_set-returns-clause-tests
compound_set-returns-clause-tests t c =
    let forest = c.args.preorder.now.tree.now in
    let named = c.filter_by_type.new.table.items in
    let narrowed = c.in_ok-narrowed.narrowed.items in
    let m = length forest.content in
    let answer = subst (λ ls. IsSetOf narrowed m (λ n. (in_set named n ≡ true) × ListsHold (lists_of (map read_nested ls)) forest n)) c.deref-2.ensures.value c.in_ok-narrowed.ensures.table in
    let lists = subst (λ ls. c.lists_set.new.tests ≤ c.args.tests.now + lists_count (lists_of (map read_nested ls)) * m) c.deref-2.ensures.value c.lists_set.ensures.tests in
    most_of_compound forest c.args.compound.now c.args.wanted.items named narrowed c.requires c.filter_by_type.ensures.asked answer c.args.tests.now c.lists_set.new.tests c.saturating_add-2.result c.filter_by_compound.new.tests
    c.member_count-asked.result c.member_count.result (c.member_count-asked.ensures ∙ ap cardinality c.deref.ensures.value) (c.member_count.ensures ∙ ap cardinality c.deref-3.ensures.value) lists c.saturating_add-2.ensures c.filter_by_compound.ensures.tests

pub has_set-returns-clause-counted : goal.has_set-returns-clause-counted
has_set-returns-clause-counted t c =
    let selectors = c.args.selectors.now in
    let forest = c.args.preorder.now.tree.now in
    let none = at_drop_all read_list selectors c.loop-selector.selector-index (omega arith) in
    asking_last c.args.tests.now c.loop-selector.tests (HasTests (read_list selectors) forest) _ c.loop-selector.invariant.asking (subst (λ z. HasTests z forest 0) (sym none) refl)

pub list_set-returns-clause-counted : goal.list_set-returns-clause-counted
list_set-returns-clause-counted t c =
    let selectors = c.args.selectors.now in
    let forest = c.args.preorder.now.tree.now in
    let none = at_drop_all read_list selectors c.loop-selector.selector-index (omega arith) in
    asking_last c.args.tests.now c.loop-selector.tests (SelectorsTests (read_list selectors) forest c.args.wanted.now) _ c.loop-selector.invariant.asking (subst (λ z. SelectorsTests z forest c.args.wanted.now 0) (sym none) refl)

pub lists_set-returns-clause-counted : goal.lists_set-returns-clause-counted
lists_set-returns-clause-counted t c =
    let lists = c.args.lists.now in
    let forest = c.args.preorder.now.tree.now in
    let none = at_drop_all (λ ls. lists_of (map read_nested ls)) lists c.loop-list.list-index (omega arith) in
    asking_last c.args.tests.now c.loop-list.tests (ListsTests (lists_of (map read_nested lists)) forest c.args.wanted.items) _ c.loop-list.invariant.asking (subst (λ z. ListsTests z forest c.loop-list.table.items 0) (sym none) refl)

pub relative_set-returns-clause-counted : goal.relative_set-returns-clause-counted
relative_set-returns-clause-counted t c =
    let counted = relative_tests c.args.preorder.now.tree.now (read_compound c.args.first.now) (steps_of (map read_step c.args.steps.now)) c.in_ok-wanted.wanted.items c.args.tests.now c.rest_set.new.tests c.compound_set.new.tests
    c.in_ok-wanted.ensures.table c.in_ok-wanted.ensures.counted c.in_ok-held.ensures.counted in
    IfOk-weaker c.step_backward.result _ _ (λ flags reached. counted) c.step_backward.ensures

pub nested_set-returns-in-Is-clause-counted : goal.nested_set-returns-in-Is-clause-counted
nested_set-returns-in-Is-clause-counted t c =
    let forest = c.args.preorder.now.tree.now in
    let counted = subst (λ (ss : List Selector). IfOk c.list_set.result (λ _. AddsTests c.args.tests.now c.list_set.new.tests (SelectorsTests (read_list ss) forest c.args.wanted.now))) c.deref.ensures.value c.list_set.ensures.counted in
    subst (λ l. IfOk c.list_set.result (λ _. AddsTests c.args.tests.now c.list_set.new.tests (ListTests (read_nested l) forest c.args.wanted.now))) (sym c.in-Is.is)
    (subst (λ list. IfOk c.list_set.result (λ _. AddsTests c.args.tests.now c.list_set.new.tests (ListTests list forest c.args.wanted.now))) (sym (read_is c.in-Is.selectors)) counted)

pub nested_set-returns-in-Has-clause-counted : goal.nested_set-returns-in-Has-clause-counted
nested_set-returns-in-Has-clause-counted t c =
    let forest = c.args.preorder.now.tree.now in
    let counted = subst (λ (ss : List Selector). IfOk c.has_set.result (λ _. AddsTests c.args.tests.now c.has_set.new.tests (HasTests (read_list ss) forest))) c.deref-in-Has.ensures.value c.has_set.ensures.counted in
    subst (λ l. IfOk c.has_set.result (λ _. AddsTests c.args.tests.now c.has_set.new.tests (ListTests (read_nested l) forest c.args.wanted.now))) (sym c.in-Has.is)
    (subst (λ list. IfOk c.has_set.result (λ _. AddsTests c.args.tests.now c.has_set.new.tests (ListTests list forest c.args.wanted.now))) (sym (read_has c.in-Has.selectors)) counted)

pub selector_set-loop-step-init : goal.selector_set-loop-step-init
selector_set-loop-step-init t c =
    let forest = c.args.preorder.now.tree.now in
    let first = read_compound c.args.first.now in
    let all = map read_step c.args.steps.now in
    let long : c.len.result ≡ length forest.content = omega (arith, c.len.ensures, c.args.preorder.now.ordered.long) in
    let filled : c.in_ok-here.here.items ≡ everywhere forest = c.in_ok-here.ensures.items_if_clones_equal (λ y h. h) ∙ ap (λ m. replicate m true) long in
    record {
      arrived = chain_start forest first all c.in_ok-here.here.items filled;
      asking = asking_from c.args.tests.now _ _ (asks_first forest first (steps_of all) c.in_ok-here.here.items c.args.wanted.now filled);
      tests = omega arith;
      light = omega arith;
    }

pub selector_set-returns-clause-table : goal.selector_set-returns-clause-table
selector_set-returns-clause-table t c =
    let forest = c.args.preorder.now.tree.now in
    let none : map read_step c.loop-step.left.now ≡ [] = ap (map read_step) (nil_from_length c.loop-step.left.now c.in_default.ensures.cases) in
    IfOk-weaker c.compound_set-2.result _ _ (λ new asked. chain_last forest (read_compound c.args.first.now) (map read_step c.args.steps.now) (read_compound c.loop-step.compound.now) (map read_step c.loop-step.left.now) c.loop-step.here.items
    c.loop-step.invariant.arrived c.args.wanted.now c.intersect.new.table.items new.items none c.intersect.ensures asked) c.compound_set-2.ensures.table

pub selector_set-returns-clause-counted : goal.selector_set-returns-clause-counted
selector_set-returns-clause-counted t c =
    let forest = c.args.preorder.now.tree.now in
    let last = read_compound c.loop-step.compound.now in
    let left = steps_of (map read_step c.loop-step.left.now) in
    let here = c.loop-step.here.items in
    let both = c.intersect.new.table.items in
    let none : left ≡ no_steps = ap (λ ss. steps_of (map read_step ss)) (nil_from_length c.loop-step.left.now c.in_default.ensures.cases) in
    ok_both c.compound_set-2.result _ _ _ (λ new asked counted. asking_end c.args.tests.now c.loop-step.tests c.compound_set-2.new.tests _ (NextAsks last left forest here c.args.wanted.now) c.loop-step.invariant.asking
    (counted.0, asks_last forest last left here c.args.wanted.now none both new.items c.loop-step.invariant.arrived.long c.intersect.ensures asked counted.0 counted.1, counted.2)) c.compound_set-2.ensures.table c.compound_set-2.ensures.counted

pub compound_set-returns-then-filter_by_type-clause-tests : goal.compound_set-returns-then-filter_by_type-clause-tests
compound_set-returns-then-filter_by_type-clause-tests t c = grind (arith, common_steps)

pub has_set-loop-selector-init : goal.has_set-loop-selector-init
has_set-loop-selector-init t c = grind (arith, common_steps)

pub has_set-returns-clause-table : goal.has_set-returns-clause-table
has_set-returns-clause-table t c = grind (arith, common_steps)

pub list_set-loop-selector-init : goal.list_set-loop-selector-init
list_set-loop-selector-init t c = grind (arith, common_steps)

pub list_set-returns-clause-table : goal.list_set-returns-clause-table
list_set-returns-clause-table t c = grind (arith, common_steps)

pub lists_set-nested_set-requires : goal.lists_set-nested_set-requires
lists_set-nested_set-requires t c = grind (arith, common_steps)

pub lists_set-returns-in_err-answer-clause-tests : goal.lists_set-returns-in_err-answer-clause-tests
lists_set-returns-in_err-answer-clause-tests t c = grind (arith, common_steps)

pub lists_set-returns-clause-table : goal.lists_set-returns-clause-table
lists_set-returns-clause-table t c = grind (arith, common_steps)

pub rest_set-returns-clause-table : goal.rest_set-returns-clause-table
rest_set-returns-clause-table t c = grind (arith, common_steps)

pub rest_set-returns-clause-counted : goal.rest_set-returns-clause-counted
rest_set-returns-clause-counted t c = grind (arith, common_steps)
