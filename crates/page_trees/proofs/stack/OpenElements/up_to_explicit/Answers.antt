use Rattle.std.proofs.Common.{ap, sym, ◌∙◌}
use Rattle.std.specs.Prelude.{not}
use Rattle.page_trees.specs.Scopes.{is_implied_but}
use Rattle.page_trees.proofs.PoppingLemmas.{front_shorter, goes_past, stops_at}
use Rattle.page_trees.proofs.stack.OpenElements.up_to_explicit.Goals as goal

pub returns-then-not-has_implied_end_but : goal.returns-then-not-has_implied_end_but
returns-then-not-has_implied_end_but c =
    let it = stops_at (λ o. not (is_implied_but c.args.except o)) _ _ _ c.in-Some.ensures.cases.0 (sym (ap not c.has_implied_end_but.ensures) ∙ ap not c.if-not-has_implied_end_but.true) in
    c.loop-open.invariant.front ∙ it ∙ c.loop-open.invariant.value

pub loop-open-preserved : goal.loop-open-preserved
loop-open-preserved c = record {
  front = front_shorter _ _ _ _ c.in-Some.ensures.cases.0 c.loop-open.invariant.front;
  value = goes_past (λ o. not (is_implied_but c.args.except o)) _ _ _ c.in-Some.ensures.cases.0 (sym (ap not c.has_implied_end_but.ensures) ∙ ap not c.if-not-has_implied_end_but.false) ∙ c.loop-open.invariant.value;
}
