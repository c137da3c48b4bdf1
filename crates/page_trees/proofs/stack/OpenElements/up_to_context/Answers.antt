use Rattle.std.proofs.Common.{sym, ◌∙◌}
use Rattle.page_trees.specs.Sets.{ends_context}
use Rattle.page_trees.proofs.PoppingLemmas.{front_shorter, goes_past, stops_at}
use Rattle.page_trees.proofs.stack.OpenElements.up_to_context.Goals as goal

pub returns-then-ends_at : goal.returns-then-ends_at
returns-then-ends_at c =
    let it = stops_at (ends_context c.args.context) _ _ _ c.in-Some.ensures.cases.0 (sym c.ends_at.ensures ∙ c.if-ends_at.true) in
    c.loop-open.invariant.front ∙ it ∙ c.loop-open.invariant.value

pub loop-open-preserved : goal.loop-open-preserved
loop-open-preserved c = record {
  front = front_shorter _ _ _ _ c.in-Some.ensures.cases.0 c.loop-open.invariant.front;
  value = goes_past (ends_context c.args.context) _ _ _ c.in-Some.ensures.cases.0 (sym c.ends_at.ensures ∙ c.if-ends_at.false) ∙ c.loop-open.invariant.value;
}
