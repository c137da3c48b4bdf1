use Rattle.std.proofs.Common.{◌∙◌, ◌+◌, ap, sym, arith, drop, length, ◌∷◌, []}
use Rattle.std.proofs.lemmas.List.{length-append}
use Rattle.dom_selectors.specs.declared.syntax.Step.{Step}
use Rattle.dom_selectors.specs.ListsAsTrees.{steps_of}
use Rattle.dom_selectors.specs.ValuesAsTrees.{read_compound}
use Rattle.dom_index.specs.CompoundCounts.{compound_count, steps_count}
use Rattle.dom_index.proofs.ListLemmas.{row_cut, steps_ahead}
use Rattle.dom_index.proofs.PlainLemmas.{tests_more}
use Rattle.dom_index.proofs.chains.Chain.new.Goals as goal

pub loop-i-preserved : goal.loop-i-preserved
loop-i-preserved c = record {
  count = ap length c.in_ok-push_test-2.ensures ∙ (length-append c.loop-i.tests.items (c.new-in-loop-i.result ∷ []) ∙ ap (λ k. k + 1) c.loop-i.invariant.count);
  tests = tests_more c.args.first.now c.args.steps.now c.loop-i.i c.index-steps-i.result c.loop-i.tests.items c.push_test-in-loop-i.new.tests.items c.new-in-loop-i.result (omega arith) c.index-steps-i.is c.loop-i.invariant.count c.in_ok-push_test-2.ensures c.new-in-loop-i.ensures.ready
      (ap (λ b. b.now) c.new-in-loop-i.ensures.compound ∙ ap (λ (x : Step). x.compound) (sym c.index-steps-i.is)) c.loop-i.invariant.tests;
}
