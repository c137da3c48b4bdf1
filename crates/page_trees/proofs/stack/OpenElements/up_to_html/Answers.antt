use Rattle.std.proofs.Common.{ap, sym, ◌∙◌}
use Rattle.std.specs.Prelude.{not}
use Rattle.page_trees.specs.Sets.{has_html_content}
use Rattle.page_trees.proofs.PoppingLemmas.{front_shorter, goes_past, stops_at}
use Rattle.page_trees.proofs.stack.OpenElements.up_to_html.Goals as goal

pub returns-then-not-holds_foreign : goal.returns-then-not-holds_foreign
returns-then-not-holds_foreign c =
    let it = stops_at has_html_content _ _ _ c.in-Some.ensures.cases.0 (sym (ap not c.holds_foreign.ensures) ∙ ap not c.if-not-holds_foreign.true) in
    c.loop-open.invariant.front ∙ it ∙ c.loop-open.invariant.value

pub loop-open-preserved : goal.loop-open-preserved
loop-open-preserved c = record {
  front = front_shorter _ _ _ _ c.in-Some.ensures.cases.0 c.loop-open.invariant.front;
  value = goes_past has_html_content _ _ _ c.in-Some.ensures.cases.0 (sym (ap not c.holds_foreign.ensures) ∙ ap not c.if-not-holds_foreign.false) ∙ c.loop-open.invariant.value;
}
