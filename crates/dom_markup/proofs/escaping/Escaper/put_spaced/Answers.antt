use Rattle.std.proofs.Common.{rules, arith}
use Rattle.std.proofs.lemmas.Result.{err_from_is_err_and}
use Rattle.std.proofs.lemmas.Grind.{common_steps}
use Rattle.dom_markup.specs.Escaping.{spaced}
use Rattle.dom_markup.proofs.html.CutLemmas.{fault_before, fault_name, cut_whole, cut_written}
use Rattle.dom_markup.proofs.escaping.Escaper.put_spaced.Goals as goal

pub returns-in_err-put : goal.returns-in_err-put
returns-in_err-put g c =
    let p = err_from_is_err_and c.from_residual.result c.from_residual.ensures.1 in
    rw p.1 (fault_before _ _ c.in-Some.named.name.now (spaced c.in-Some.named.after.now) _ _ c.loop-named.invariant.whole c.in-Some.ensures.whole _ _ _ c.loop-named.invariant.written c.in_err-put.ensures)

pub returns-in_err-put-2 : goal.returns-in_err-put-2
returns-in_err-put-2 g c =
    let p = err_from_is_err_and c.from_residual-in_err-put-2.result c.from_residual-in_err-put-2.ensures.1 in
    rw p.1 (fault_name _ _ _ (spaced c.in-Some.named.after.now) _ _ c.loop-named.invariant.whole c.in-Some.ensures.whole _ _ _ _ c.loop-named.invariant.written c.in_ok-put.ensures c.in_err-put-2.ensures)

pub loop-named-preserved : goal.loop-named-preserved
loop-named-preserved g c = record {
  front = _;
  whole = cut_whole _ _ _ _ _ _ c.loop-named.invariant.whole c.in-Some.ensures.whole;
  written = cut_written _ _ _ _ _ _ c.loop-named.invariant.whole c.in-Some.ensures.whole _ _ _ _ c.loop-named.invariant.written c.in_ok-put.ensures c.in_ok-put-2.ensures;
  utf8 = search rules;
}

pub loop-named-init : goal.loop-named-init
loop-named-init g c = grind (arith, common_steps)

pub cut_spaced-requires-text-text : goal.cut_spaced-requires-text-text
cut_spaced-requires-text-text g c = grind (arith, common_steps)

pub put-requires-text-text : goal.put-requires-text-text
put-requires-text-text g c = grind (arith, common_steps)

pub put-requires-in-Some-text-text : goal.put-requires-in-Some-text-text
put-requires-in-Some-text-text g c = grind (arith, common_steps)

pub loop-named-smaller : goal.loop-named-smaller
loop-named-smaller g c = grind (arith, common_steps)

pub returns : goal.returns
returns g c = grind (arith, common_steps)
