use Rattle.std.proofs.Common.{sym, subst}
use Rattle.std.proofs.lemmas.Result.{err_from_is_err_and}
use Rattle.dom_markup.specs.Writing.{AppendsBeginning}
use Rattle.dom_markup.proofs.html.WritingLemmas.{beginning-more, beginning-then, parts-split}
use Rattle.dom_markup.proofs.writing.put_parts.Goals as goal

pub returns-in_err-put : goal.returns-in_err-put
returns-in_err-put g c =
    let p = err_from_is_err_and c.from_residual.result c.from_residual.ensures.1 in
    rw p.1 (subst (AppendsBeginning (g.P.PutText.written c.args.w.now) (g.P.PutText.written c.put.new.w)) (sym (parts-split c.args.parts.now c.loop-part.part-index _ c.loop-part-test.true))
    (beginning-more _ _ _ _ (beginning-then _ _ _ _ _ c.loop-part.invariant c.in_err-put.ensures)))
