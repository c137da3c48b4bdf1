use Rattle.std.proofs.Common.{rules, arith}
use Rattle.std.proofs.lemmas.Result.{err_from_is_err_and}
use Rattle.std.proofs.lemmas.Grind.{common_steps}
use Rattle.dom_markup.proofs.html.CutLemmas.{fault_before, fault_name, cut_whole, cut_written}
use Rattle.dom_markup.proofs.escaping.Escaper.put_named.Goals as goal

pub returns-in_err-put_spaced : goal.returns-in_err-put_spaced
returns-in_err-put_spaced g c =
    let p = err_from_is_err_and c.from_residual.result c.from_residual.ensures.1 in
    rw p.1 (fault_before _ _ c.in-Some.named.name.now (g.C.Cut.escaped c.in-Some.named.after.now) _ _ c.loop-named.invariant.whole c.in-Some.ensures.whole _ _ _ c.loop-named.invariant.written c.in_err-put_spaced.ensures)

pub returns-in_err-put : goal.returns-in_err-put
returns-in_err-put g c =
    let p = err_from_is_err_and c.from_residual-in_err-put.result c.from_residual-in_err-put.ensures.1 in
    rw p.1 (fault_name _ _ _ (g.C.Cut.escaped c.in-Some.named.after.now) _ _ c.loop-named.invariant.whole c.in-Some.ensures.whole _ _ _ _ c.loop-named.invariant.written c.in_ok-put_spaced.ensures c.in_err-put.ensures)

pub loop-named-preserved : goal.loop-named-preserved
loop-named-preserved g c = record {
  front = _;
  whole = cut_whole _ _ _ _ _ _ c.loop-named.invariant.whole c.in-Some.ensures.whole;
  written = cut_written _ _ _ _ _ _ c.loop-named.invariant.whole c.in-Some.ensures.whole _ _ _ _ c.loop-named.invariant.written c.in_ok-put_spaced.ensures c.in_ok-put.ensures;
  utf8 = search rules;
}

pub loop-named-init : goal.loop-named-init
loop-named-init g c = grind (arith, common_steps)

pub cut-requires-text-text : goal.cut-requires-text-text
cut-requires-text-text g c = grind (arith, common_steps)

pub put_spaced-requires-text-text : goal.put_spaced-requires-text-text
put_spaced-requires-text-text g c = grind (arith, common_steps)

pub put-requires-text-text : goal.put-requires-text-text
put-requires-text-text g c = grind (arith, common_steps)

pub loop-named-smaller : goal.loop-named-smaller
loop-named-smaller g c = grind (arith, common_steps)

pub put_spaced-requires-2-text-text : goal.put_spaced-requires-2-text-text
put_spaced-requires-2-text-text g c = grind (arith, common_steps)

pub returns : goal.returns
returns g c = grind (arith, common_steps)
