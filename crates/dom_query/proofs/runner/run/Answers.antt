use Rattle.std.proofs.Common.{subst, sym}
use Rattle.std.proofs.lemmas.Result.{err_from_is_err_and, on_err_weaker}
use Rattle.dom_query.specs.Runs.{RunCause}
use Rattle.dom_query.proofs.Outputs.{began-from, began-none}
use Rattle.dom_query.proofs.Refusals.{reports-markup}
use Rattle.dom_query.proofs.runner.run.Goals as goal

pub returns-in_err-document-clause-begun : goal.returns-in_err-document-clause-begun
returns-in_err-document-clause-begun g c =
    let p = err_from_is_err_and c.from_residual-in_err-document.result c.from_residual-in_err-document.ensures.1 in
    rw p.1 (began-none _ _ _)

pub returns-in_err-document-clause-cause : goal.returns-in_err-document-clause-cause
returns-in_err-document-clause-cause g c =
    let p = err_from_is_err_and c.from_residual-in_err-document.result c.from_residual-in_err-document.ensures.1 in
    rw p.1 (subst (RunCause c.args.markup.now c.args.script.now (g.W.Write.contents c.args.out.now) (g.W.Write.contents c.args.out.now)) (sym p.2)
    (reports-markup _ _ _ _ c.in_err-document.field-0.0 c.in_ok-commands.ensures.ok c.in_err-document.ensures.refused))

pub returns-clause-begun : goal.returns-clause-begun
returns-clause-begun g c =
    let read = c.in_ok-document.ensures.ok in
    on_err_weaker c.run_commands.result (λ begun. began-from c.one_reading.ensures c.one_reading-2.ensures _ _ _ _ read.0 _ _ _
    c.in_ok-commands.ensures.ok read.1 read.2 c.deref.ensures.value read.3 begun) c.run_commands.ensures.begun
