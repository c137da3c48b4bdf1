use Rattle.std.proofs.Common.{◌+◌, ◌∙◌, ap, arith, length, length-append}
use Rattle.dom_index.proofs.PlainLemmas.{tracked_more}
use Rattle.dom_index.proofs.streaming.all_empty.Goals as goal

pub loop-i-preserved : goal.loop-i-preserved
loop-i-preserved c = record {
  long = ap length c.in_ok-push_rows.ensures ∙ (length-append c.loop-i.all.items _ ∙ ap (λ k. k + 1) c.loop-i.invariant.long);
  tracked = tracked_more c.args.chains.now c.args.tree.now c.loop-i.all.items c.push_rows.new.all.items c.in_ok-rows.rows c.loop-i.i c.index-chains-i.result (omega arith) c.index-chains-i.is c.loop-i.invariant.long c.in_ok-push_rows.ensures c.in_ok-rows.ensures c.loop-i.invariant.tracked;
}
