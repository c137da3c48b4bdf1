use Rattle.std.proofs.Common.{◌∷◌, refl, sym, ◌∙◌}
use Rattle.dom_select.proofs.JoinedLemmas.{found_first, in_all, passed_first, within_none}
use Rattle.dom_select.proofs.matcher.joined.contains_joined.Goals as goal

pub returns-then-begins_among : goal.returns-then-begins_among
returns-then-begins_among c =
    let left = c.descendant_ids_of_it-rest.result.left in
    sym (found_first c.args.tree.now c.as_bytes-wanted.result.now c.text_at.result.now c.args.id.now (c.args.id.now ∷ left) left c.text_at.ensures refl _ c.begins_among.ensures c.if-begins_among.true)
    ∙ in_all c.args.tree.now c.args.id.now c.as_bytes-wanted.result.now c.args.inner.now left c.descendant_ids_of_it-rest.ensures.all c.as_bytes-wanted.ensures.value

pub loop-next-init : goal.loop-next-init
loop-next-init c =
    let left = c.descendant_ids_of_it-rest.result.left in
    sym (passed_first c.args.tree.now c.as_bytes-wanted.result.now c.text_at.result.now c.args.id.now (c.args.id.now ∷ left) left c.text_at.ensures refl _ c.begins_among.ensures c.if-begins_among.false)
    ∙ in_all c.args.tree.now c.args.id.now c.as_bytes-wanted.result.now c.args.inner.now left c.descendant_ids_of_it-rest.ensures.all c.as_bytes-wanted.ensures.value

pub returns-then-begins_among-2 : goal.returns-then-begins_among-2
returns-then-begins_among-2 c =
    sym (found_first c.args.tree.now c.as_bytes-wanted.result.now c.text_at-in-Some.result.now c.in-Some.next c.loop-next.rest.left c.next.new.self.left c.text_at-in-Some.ensures c.in-Some.ensures.steps.first _ c.begins_among-in-Some.ensures c.if-begins_among-2.true)
    ∙ c.loop-next.invariant

pub loop-next-preserved : goal.loop-next-preserved
loop-next-preserved c =
    sym (passed_first c.args.tree.now c.as_bytes-wanted.result.now c.text_at-in-Some.result.now c.in-Some.next c.loop-next.rest.left c.next.new.self.left c.text_at-in-Some.ensures c.in-Some.ensures.steps.first _ c.begins_among-in-Some.ensures c.if-begins_among-2.false)
    ∙ c.loop-next.invariant

pub returns : goal.returns
returns c = within_none c.args.tree.now c.as_bytes-wanted.result.now c.loop-next.rest.left _ c.in_default.ensures.steps.first.0 c.is_empty.ensures ∙ c.loop-next.invariant
