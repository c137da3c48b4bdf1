use Rattle.std.proofs.Common.{◌≡◌, ◌∷◌, sym, refl, ap, ◌∙◌, subst, map, ◌++◌, [], append-nil}
use Rattle.std.proofs.lemmas.List.{map-append}
use Rattle.std.proofs.lemmas.Result.{MatchResult-weaker}
use Rattle.dom_selectors.specs.Spelling.{SpellsNone, Many, Takes}
use Rattle.dom_selectors.specs.Characters.{after_white}
use Rattle.dom_selectors.specs.Pseudos.{pseudo_of}
use Rattle.dom_selectors.specs.Grammar.{SpellsForm, SpellsList, inner_context, stands_behind, stands_for, SpellsInner, SpellsItem, SpellsCombinator, SpellsSelector, SpellsStep, SpellsLater}
use Rattle.dom_selectors.specs.ListsAsTrees.{lists_of, parts_among, selector_list}
use Rattle.dom_selectors.specs.Syntax.{compound}
use Rattle.dom_selectors.specs.ValuesAsTrees.{read_item, read_list, read_nested, read_step, read_selector}
use Rattle.dom_selectors.proofs.FaultLemmas.{passes_on, refuses_more, refuses_wider, refuses_without_cause}
use Rattle.dom_selectors.proofs.DeepLemmas.{IsWithin, behind_within, colon_stands, deep_inside, refused_within, stands_within, within, within_later, within_lead, within_step}
use Rattle.dom_selectors.proofs.KeepLemmas.{name_keeps}
use Rattle.dom_selectors.proofs.Layers.{read_compound_is, read_step_is}
use Rattle.dom_selectors.proofs.SelectorLemmas.{inner_once}
use Rattle.dom_selectors.proofs.Runs.{many_last}
use Rattle.dom_selectors.proofs.LengthLemmas.{item_shortens, step_shortens, later_shortens}
use Rattle.dom_selectors.proofs.RefusalLemmas as none
use Rattle.dom_selectors.proofs.parser.+lists.Goals as goal

pub take_compound-returns-in_err-item : goal.take_compound-returns-in_err-item
take_compound-returns-in_err-item t c =
    passes_on c.from_residual-in_err-item.result _ _ c.from_residual-in_err-item.ensures.1 (none.compound_refused c.args.context _ c.args.text.now c.loop-alloc.invariant.1 c.loop-alloc.rest.now c.loop-alloc.invariant.0 c.loop-alloc.invariant.2 c.loop-alloc.invariant.3 c.loop-alloc.invariant.6 (sym c.begins_item.ensures ∙ c.loop-alloc-test.true) c.in_err-item.ensures)

pub take_item-returns-in_err-name : goal.take_item-returns-in_err-name
take_item-returns-in_err-name t c =
    passes_on c.from_residual.result _ _ c.from_residual.ensures.1
    (refuses_without_cause _ (stands_for c.args.context c.args.text.now) _ _ (none.item_no_identifier c.args.context c.in-Some.sign.now c.args.text.now c.in-Some.more.now c.in-Some.ensures.cases.0 c.if-sign-eq35.true) c.in_err-name.ensures)

pub take_item-returns-in_err-name-2 : goal.take_item-returns-in_err-name-2
take_item-returns-in_err-name-2 t c =
    passes_on c.from_residual-in_err-name-2.result _ _ c.from_residual-in_err-name-2.ensures.1
    (refuses_without_cause _ (stands_for c.args.context c.args.text.now) _ _ (none.item_no_class c.args.context c.in-Some.sign.now c.args.text.now c.in-Some.more.now c.in-Some.ensures.cases.0 c.if-sign-eq46.true) c.in_err-name-2.ensures)

pub take_item-returns-in_err-attribute : goal.take_item-returns-in_err-attribute
take_item-returns-in_err-attribute t c =
    passes_on c.from_residual-in_err-attribute.result _ _ c.from_residual-in_err-attribute.ensures.1
    (refuses_without_cause _ (stands_for c.args.context c.args.text.now) _ _ (none.item_no_attribute c.args.context c.in-Some.sign.now c.args.text.now c.in-Some.more.now c.in-Some.ensures.cases.0 c.if-sign-eq91.true) c.in_err-attribute.ensures)

pub take_item-returns : goal.take_item-returns
take_item-returns t c =
    let begun = c.in-Some.ensures.cases.0 in
    MatchResult-weaker c.take_pseudo.result c.take_pseudo.ensures (λ p h. none.item_from_pseudo c.args.context c.in-Some.sign.now c.args.text.now c.in-Some.more.now begun c.if-sign-ne58.false _ p.1.now h)
    (λ e why. refuses_more e (stands_behind c.args.context c.in-Some.more.now) (stands_for c.args.context c.args.text.now) _ _ (colon_stands c.args.context c.args.text.now c.in-Some.more.now (begun ∙ ap (λ d. d ∷ c.in-Some.more.now) c.if-sign-ne58.false))
    (none.item_no_pseudo c.args.context c.in-Some.sign.now c.args.text.now c.in-Some.more.now begun c.if-sign-ne58.false) why)

pub take_later-returns : goal.take_later-returns
take_later-returns t c =
    let text = c.args.text.now in
    let rest = c.in-Some.rest.now in
    let comma : after_white text ≡ 44 ∷ rest = sym c.after_white.ensures ∙ c.in-Some.ensures in
    MatchResult-weaker c.take_selector.result c.take_selector.ensures (λ p h. none.later_from_selector c.args.context text rest comma _ p.1.now (subst (λ u. SpellsSelector c.args.context (SpellsInner c.args.context) (read_selector p.0) u p.1.now) c.after_white-2.ensures h))
    (λ e why. refuses_more e (stands_for c.args.context c.after_white-2.result.now) (stands_for c.args.context text) _ _ (stands_within c.args.context c.after_white-2.result.now text (subst (λ u. IsWithin u text) (sym c.after_white-2.ensures) (within_later text rest 44 comma)))
    (λ refused. none.later_no_selector c.args.context text rest comma (subst (SpellsNone (SpellsSelector c.args.context (SpellsInner c.args.context))) c.after_white-2.ensures refused)) why)

pub take_list-returns-in_err-first : goal.take_list-returns-in_err-first
take_list-returns-in_err-first t c =
    passes_on c.from_residual.result _ _ c.from_residual.ensures.1
    (refuses_wider _ (stands_for c.args.context c.args.text.now) _ _ (none.list_no_first c.args.context c.args.text.now) c.in_err-first.ensures)

pub take_list-returns-in_err-selector : goal.take_list-returns-in_err-selector
take_list-returns-in_err-selector t c =
    passes_on c.from_residual-in_err-selector.result _ _ c.from_residual-in_err-selector.ensures.1 (none.list_refused c.args.context _ c.args.text.now c.loop-alloc.invariant.1 c.loop-alloc.rest.now c.loop-alloc.invariant.0 c.loop-alloc.invariant.2 c.loop-alloc.invariant.3 c.loop-alloc.invariant.5 (sym c.begins_comma.ensures ∙ c.loop-alloc-test.true) c.in_err-selector.ensures)

pub take_compound-loop-alloc-smaller : goal.take_compound-loop-alloc-smaller
take_compound-loop-alloc-smaller t c = item_shortens c.args.context _ _ _ c.in_ok-item.ensures

pub take_compound-loop-alloc-preserved : goal.take_compound-loop-alloc-preserved
take_compound-loop-alloc-preserved t c =
    let read = c.loop-alloc.invariant in
    let item = read_item c.in_ok-item.item in
    let pushed = none.pushed_item item read.0 _ _ _ _ read.2 c.in_ok-push_item.ensures read.4 read.5 in
    (read.0, read.1, read.2 ++ item ∷ [], read.3, pushed.0, pushed.1, many_last (SpellsItem c.args.context (SpellsInner c.args.context)) read.2 item read.1 c.loop-alloc.rest.now c.in_ok-item.more.now read.6 c.in_ok-item.ensures, read.7)

pub take_list-loop-alloc-smaller : goal.take_list-loop-alloc-smaller
take_list-loop-alloc-smaller t c = later_shortens c.args.context _ _ _ c.in_ok-selector.ensures

pub take_list-loop-alloc-preserved : goal.take_list-loop-alloc-preserved
take_list-loop-alloc-preserved t c =
    let read = c.loop-alloc.invariant in
    let pushed = ap (map read_selector) c.in_ok-push-2.ensures.items ∙ map-append read_selector c.loop-alloc.list.items (c.in_ok-selector.selector ∷ []) ∙ ap (λ ss. ss ++ read_selector c.in_ok-selector.selector ∷ []) read.4 in (
      read.0,
      read.1,
      read.2 ++ read_selector c.in_ok-selector.selector ∷ [],
      read.3,
      pushed,
      many_last (SpellsLater c.args.context (SpellsInner c.args.context)) read.2 (read_selector c.in_ok-selector.selector) read.1 c.loop-alloc.rest.now c.in_ok-selector.more.now read.5 c.in_ok-selector.ensures,
    )

pub take_selector-loop-alloc-smaller : goal.take_selector-loop-alloc-smaller
take_selector-loop-alloc-smaller t c = step_shortens c.args.context _ _ _ c.in_ok-step.ensures

pub take_selector-loop-alloc-preserved : goal.take_selector-loop-alloc-preserved
take_selector-loop-alloc-preserved t c =
    let read = c.loop-alloc.invariant in
    let pushed = ap (map read_step) c.in_ok-push.ensures.items ∙ map-append read_step c.loop-alloc.steps.items (c.in_ok-step.step ∷ []) in
    (read.0, read.1, read.2, read.3, subst (λ steps. Many (SpellsStep c.args.context (SpellsInner c.args.context)) steps read.1 c.in_ok-step.more.now) (sym pushed) (many_last (SpellsStep c.args.context (SpellsInner c.args.context)) _ (read_step c.in_ok-step.step) read.1 c.loop-alloc.rest.now c.in_ok-step.more.now read.4 c.in_ok-step.ensures))

pub take_selector-returns-in_err-first : goal.take_selector-returns-in_err-first
take_selector-returns-in_err-first t c =
    let text = c.args.text.now in
    let lead = c.take_lead-lead.result.0 in
    let begin = c.take_lead-lead.result.1.now in
    let led = c.take_lead-lead.ensures in
    passes_on c.from_residual.result _ _ c.from_residual.ensures.1
    (refused_within c.args.context _ begin text _ _ (within_lead c.args.context.is_relative text begin lead led) (none.selector_no_first c.args.context text begin lead led) c.in_err-first.ensures)

pub take_selector-returns-in_err-step : goal.take_selector-returns-in_err-step
take_selector-returns-in_err-step t c =
    passes_on c.from_residual-in_err-step.result _ _ c.from_residual-in_err-step.ensures.1 (none.selector_refused c.args.context _ c.args.text.now c.loop-alloc.invariant.0 c.loop-alloc.invariant.1 c.loop-alloc.rest.now _ _ _ c.loop-alloc.invariant.2 c.loop-alloc.invariant.3 c.loop-alloc.invariant.4 (sym c.begins_step.ensures ∙ c.loop-alloc-test.true) c.in_err-step.ensures)

pub take_step-returns-in_err-compound : goal.take_step-returns-in_err-compound
take_step-returns-in_err-compound t c =
    passes_on c.from_residual.result _ _ c.from_residual.ensures.1
    (let sign = subst (λ u. SpellsCombinator c.in-Some.combinator u c.in-Some.mid.now) c.after_white.ensures c.in-Some.ensures in
    refused_within c.args.context _ c.in-Some.mid.now c.args.text.now _ _ (within_step c.args.text.now c.in-Some.mid.now c.in-Some.combinator sign)
    (none.step_no_compound c.args.context c.args.text.now c.in-Some.mid.now c.in-Some.combinator sign) c.in_err-compound.ensures)

pub take_pseudo-returns-in_err-name : goal.take_pseudo-returns-in_err-name
take_pseudo-returns-in_err-name t c =
    passes_on c.from_residual.result _ _ c.from_residual.ensures.1
    (refuses_without_cause _ (stands_behind c.args.context c.args.text.now) _ _ (none.pseudo_no_name c.args.context c.args.text.now) c.in_err-name.ensures)

pub take_pseudo-returns-in_default : goal.take_pseudo-returns-in_default
take_pseudo-returns-in_default t c =
    (tt, none.pseudo_unknown c.args.context c.args.text.now _ c.in_ok-name.after.now c.in_ok-name.ensures (ap pseudo_of (sym c.as_str.ensures) ∙ sym c.pseudo_of.ensures ∙ c.in_default.is))

pub take_pseudo-returns : goal.take_pseudo-returns
take_pseudo-returns t c =
    let text = c.args.text.now in
    let after = c.in_ok-name.after.now in
    let known = ap pseudo_of (sym c.as_str.ensures) ∙ sym c.pseudo_of.ensures ∙ c.in-Some.is in
    MatchResult-weaker c.take_form.result c.take_form.ensures
    (λ p h. record { name = c.in_ok-name.name; after = after; named = c.in_ok-name.ensures; pseudo = c.in-Some.pseudo; known = known; form = h })
    (λ e why. refuses_more e (stands_behind c.args.context after) (stands_behind c.args.context text) _ _ (behind_within c.args.context after text (within after text (λ m grows. name_keeps m grows c.in_ok-name.name text after c.in_ok-name.ensures)))
    (none.pseudo_no_form c.args.context text c.in_ok-name.name after c.in-Some.pseudo c.in_ok-name.ensures known) why)

pub take_enclosed-returns-in_err-inside : goal.take_enclosed-returns-in_err-inside
take_enclosed-returns-in_err-inside t c =
    passes_on c.from_residual.result _ _ c.from_residual.ensures.1 (none.opening_refused c.args.context (SpellsInner c.args.context c.args.relative) c.args.text.now _ c.in_err-inside.ensures)

pub take_enclosed-returns-in_err-list : goal.take_enclosed-returns-in_err-list
take_enclosed-returns-in_err-list t c =
    let context = c.args.context in
    let inside = c.in_ok-inside.inside.now in
    let opens = c.in_ok-inside.ensures in
    passes_on c.from_residual-in_err-list.result _ _ c.from_residual-in_err-list.ensures.1
    (refuses_more _ (stands_for (inner_context context c.args.relative) inside) (stands_behind context c.args.text.now) _ _ (deep_inside context c.args.relative c.args.text.now inside opens)
    (λ no_list. none.enclosed_no_value context.depth (SpellsInner context c.args.relative) c.args.text.now inside opens (λ v rest h. no_list v rest (none.list_from_inner context c.args.relative opens.deep v inside rest h))) (none.same_room _ c.inner_context.result (inner_context context c.args.relative) inside c.inner_context.ensures c.in_err-list.ensures))

pub take_enclosed-returns-in_err-rest : goal.take_enclosed-returns-in_err-rest
take_enclosed-returns-in_err-rest t c =
    let context = c.args.context in
    let relative = c.args.relative in
    let inside = c.in_ok-inside.inside.now in
    let after = c.in_ok-list.after.now in
    let list = read_list c.in_ok-list.list.items in
    let opens = c.in_ok-inside.ensures in
    let given = none.inner_from_list context relative opens.deep list inside after (subst (λ q. SpellsList q (SpellsInner q) list inside after) c.inner_context.ensures c.in_ok-list.ensures) in
    passes_on c.from_residual-in_err-rest.result _ _ c.from_residual-in_err-rest.ensures.1
    (none.closing_refused context (SpellsInner context relative) c.args.text.now _ (inner_once context relative) inside after list opens given c.in_err-rest.ensures)

pub take_enclosed-returns : goal.take_enclosed-returns
take_enclosed-returns t c =
    let inside = c.in_ok-inside.inside.now in
    let after = c.in_ok-list.after.now in
    let list = read_list c.in_ok-list.list.items in
    let opens = c.in_ok-inside.ensures in
    let given = none.inner_from_list c.args.context c.args.relative opens.deep list inside after (subst (λ q. SpellsList q (SpellsInner q) list inside after) c.inner_context.ensures c.in_ok-list.ensures) in
    record { inside = inside; opens = opens; after = after; value = given; closes = c.in_ok-rest.ensures }

pub take_form-returns-in_err-nth-in-Nth : goal.take_form-returns-in_err-nth-in-Nth
take_form-returns-in_err-nth-in-Nth t c =
    passes_on c.from_residual.result _ _ c.from_residual.ensures.1
    (refuses_wider _ (stands_behind c.args.context c.args.text.now) _ _ (none.form_no_nth c.args.context c.args.pseudo c.in-Nth.kind c.args.text.now c.in-Nth.is) c.in_err-nth-in-Nth.ensures)

pub take_form-returns-in_err-string-in-Text : goal.take_form-returns-in_err-string-in-Text
take_form-returns-in_err-string-in-Text t c =
    passes_on c.from_residual-in_err-string-in-Text.result _ _ c.from_residual-in_err-string-in-Text.ensures.1
    (refuses_wider _ (stands_behind c.args.context c.args.text.now) _ _ (none.form_no_string c.args.context c.args.pseudo c.in-Text.test c.args.text.now c.in-Text.is) c.in_err-string-in-Text.ensures)

pub take_form-returns-in-Listed : goal.take_form-returns-in-Listed
take_form-returns-in-Listed t c =
    subst (λ p. Takes c.take_listed.result read_item (SpellsForm c.args.context (SpellsInner c.args.context) p) (stands_behind c.args.context c.args.text.now) c.args.text.now) (sym c.in-Listed.is) c.take_listed.ensures

pub take_listed-returns-in_err-list : goal.take_listed-returns-in_err-list
take_listed-returns-in_err-list t c =
    let context = c.args.context in
    passes_on c.from_residual.result _ _ c.from_residual.ensures.1
    (refuses_wider _ (stands_behind context c.args.text.now) _ _
    (none.listed_no_list context c.args.quantifier c.is_relative-relative.result c.args.text.now c.is_relative-relative.ensures) c.in_err-list.ensures)

pub take_compound-loop-alloc-init : goal.take_compound-loop-alloc-init
take_compound-loop-alloc-init t c =
    (c.in_ok-front.front.items, c.in_ok-front.after.now, [], c.in_ok-front.ensures, sym (append-nil c.in_ok-front.front.items), ap (λ ns. lists_of (map read_nested ns)) c.new-nested.ensures.items, refl, sym c.if-not-begins_compound.ensures)

pub take_compound-returns : goal.take_compound-returns
take_compound-returns t c =
    let read = c.loop-alloc.invariant in
    record {
      some = read.7;
      front = read.0;
      after = read.1;
      first = read.3;
      items = read.2;
      run = record { each = read.6; ends = sym c.loop-alloc-test.ensures };
      is = read_compound_is _ ∙ (ap (λ ps. compound ps (lists_of (map read_nested c.loop-alloc.nested.items))) read.4 ∙ ap (compound (read.0 ++ parts_among read.2)) read.5);
    }

pub take_list-loop-alloc-init : goal.take_list-loop-alloc-init
take_list-loop-alloc-init t c =
    (read_selector c.in_ok-first.first, c.in_ok-first.after.now, [], c.in_ok-first.ensures, ap (map read_selector) (c.in_ok-push.ensures.items ∙ ap (λ ss. ss ++ c.in_ok-first.first ∷ []) c.new-list.ensures.items), refl)

pub take_list-returns : goal.take_list-returns
take_list-returns t c =
    let read = c.loop-alloc.invariant in
    record { one = read.0; after = read.1; first = read.3; more = read.2; run = record { each = read.5; ends = sym c.loop-alloc-test.ensures }; is = ap selector_list read.4 }

pub take_selector-loop-alloc-init : goal.take_selector-loop-alloc-init
take_selector-loop-alloc-init t c =
    let after = c.in_ok-first.after.now in
    (c.take_lead-lead.result.1.now, after, c.take_lead-lead.ensures, c.in_ok-first.ensures, subst (λ steps. Many (SpellsStep c.args.context (SpellsInner c.args.context)) (map read_step steps) after after) (sym c.new-steps.ensures.items) refl)

pub take_step-returns : goal.take_step-returns
take_step-returns t c =
    subst (λ v. SpellsStep c.args.context (SpellsInner c.args.context) v c.args.text.now c.in_ok-compound.rest.now) (sym (read_step_is _))
    (record {
      on = sym c.if-not-begins_step.ensures;
      mid = c.in-Some.mid.now;
      combinator = subst (λ u. SpellsCombinator c.in-Some.combinator u c.in-Some.mid.now) c.after_white.ensures c.in-Some.ensures;
      compound = c.in_ok-compound.ensures;
    })
