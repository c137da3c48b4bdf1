use Rattle.std.proofs.Common.{sym, ◌∙◌}
use Rattle.dom_select.proofs.FollowLemmas.{is_nil}
use Rattle.dom_select.proofs.JoinedLemmas.{begins_empty, goes_behind, goes_nowhere, nothing_left}
use Rattle.dom_select.proofs.matcher.joined.goes_on.Goals as goal

pub returns-in_default : goal.returns-in_default
returns-in_default c =
    goes_nowhere c.args.tree.now c.in-Some.id c.loop-id.id-iterator.left c.next.new.self.left c.text_at.result.now c.text_at.ensures c.in-Some.ensures.steps.first
    c.loop-id.left.now _ c.in_default.ensures c.loop-id.invariant

pub loop-id-preserved : goal.loop-id-preserved
loop-id-preserved c =
    goes_behind c.args.tree.now c.in-Some.id c.loop-id.id-iterator.left c.next.new.self.left c.text_at.result.now c.text_at.ensures c.in-Some.ensures.steps.first
    c.loop-id.left.now c.in-Some-left_behind.behind.now _ c.in-Some-left_behind.ensures.0 c.in-Some-left_behind.ensures.1 c.loop-id.invariant

pub returns-then-is_empty : goal.returns-then-is_empty
returns-then-is_empty c =
    sym (begins_empty _ c.in-Some-left_behind.behind.now (is_nil _ (sym c.is_empty.ensures ∙ c.if-is_empty.true)))
    ∙ goes_behind c.args.tree.now c.in-Some.id c.loop-id.id-iterator.left c.next.new.self.left c.text_at.result.now c.text_at.ensures c.in-Some.ensures.steps.first
    c.loop-id.left.now c.in-Some-left_behind.behind.now _ c.in-Some-left_behind.ensures.0 c.in-Some-left_behind.ensures.1 c.loop-id.invariant

pub returns : goal.returns
returns c = nothing_left c.loop-id.id-iterator.left c.loop-id.left.now c.args.tree.now _ _ c.in-None.ensures.steps.first.0 c.is_empty-2.ensures c.loop-id.invariant
