use Rattle.std.proofs.Common.{◌∷◌, [], refl}
use Rattle.std.proofs.lemmas.Result.{err_from_is_err_and}
use Rattle.dom_markup.proofs.html.WritingLemmas.{beginning-more, fault-inside, then-writes, written-then}
use Rattle.dom_query.specs.Reporting.{reason_of}
use Rattle.dom_query.proofs.reporting.report.Goals as goal

pub returns-in-Usage : goal.returns-in-Usage
returns-in-Usage g c = rw c.in-Usage.is c.write_bytes.ensures.written

pub returns-in_err-write_bytes-in-Run : goal.returns-in_err-write_bytes-in-Run
returns-in_err-write_bytes-in-Run g c =
    let p = err_from_is_err_and c.from_residual.result c.from_residual.ensures.1 in
    rw p.1 (rw c.in-Run.is (beginning-more _ _ _ (10 ∷ []) (beginning-more _ _ _ (reason_of c.in-Run.fault) c.in_err-write_bytes-in-Run.ensures.written)))

pub returns-in_err-report_reason-in-Run : goal.returns-in_err-report_reason-in-Run
returns-in_err-report_reason-in-Run g c =
    let p = err_from_is_err_and c.from_residual-in_err-report_reason-in-Run.result c.from_residual-in_err-report_reason-in-Run.ensures.1 in
    rw p.1 (rw c.in-Run.is (beginning-more _ _ _ (10 ∷ []) (fault-inside _ _ _ _ _ _ c.in_ok-write_bytes-in-Run.ensures.written c.in_err-report_reason-in-Run.ensures refl)))

pub returns-in_ok-report_reason-in-Run : goal.returns-in_ok-report_reason-in-Run
returns-in_ok-report_reason-in-Run g c =
    rw c.in-Run.is (then-writes _ _ _ c.write_bytes-in-Run-2.result _ _ _ (written-then _ _ _ _ _ c.in_ok-write_bytes-in-Run.ensures.written c.in_ok-report_reason-in-Run.ensures)
    c.write_bytes-in-Run-2.ensures.written refl)
