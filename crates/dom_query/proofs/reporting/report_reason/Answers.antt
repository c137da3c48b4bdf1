use Rattle.std.proofs.Common.{refl, ap, ◌∙◌, codes, decimal, ◌++◌}
use Rattle.std.proofs.lemmas.Result.{err_from_is_err_and}
use Rattle.dom_markup.proofs.html.WritingLemmas.{beginning-more, then-writes, written-then, fault-inside}
use Rattle.dom_query.specs.Reporting.{name_text}
use Rattle.dom_query.proofs.reporting.report_reason.Goals as goal

pub returns-in_err-write_bytes-in-BadScript : goal.returns-in_err-write_bytes-in-BadScript
returns-in_err-write_bytes-in-BadScript g c =
    let p = err_from_is_err_and c.from_residual.result c.from_residual.ensures.1 in
    rw p.1 (rw c.in-BadScript.is (beginning-more _ _ _ _ c.in_err-write_bytes-in-BadScript.ensures.written))

pub returns-in_ok-write_bytes-in-BadScript : goal.returns-in_ok-write_bytes-in-BadScript
returns-in_ok-write_bytes-in-BadScript g c =
    rw c.in-BadScript.is (then-writes _ _ _ c.write_number.result _ _ _ c.in_ok-write_bytes-in-BadScript.ensures.written c.write_number.ensures refl)

pub returns-in-BadMarkup : goal.returns-in-BadMarkup
returns-in-BadMarkup g c = rw c.in-BadMarkup.is c.write_bytes-in-BadMarkup.ensures.written

pub returns-in_err-write_bytes-in-Edit : goal.returns-in_err-write_bytes-in-Edit
returns-in_err-write_bytes-in-Edit g c =
    let p = err_from_is_err_and c.from_residual-in_err-write_bytes-in-Edit.result c.from_residual-in_err-write_bytes-in-Edit.ensures.1 in
    rw p.1 (rw c.in-Edit.is (beginning-more _ _ _ (name_text c.in-Edit.fault) (beginning-more _ _ _ (codes ": ") (beginning-more _ _ _ (decimal c.in-Edit.line) c.in_err-write_bytes-in-Edit.ensures.written))))

pub returns-in_err-write_number-in-Edit : goal.returns-in_err-write_number-in-Edit
returns-in_err-write_number-in-Edit g c =
    let p = err_from_is_err_and c.from_residual-in_err-write_number-in-Edit.result c.from_residual-in_err-write_number-in-Edit.ensures.1 in
    rw p.1 (rw c.in-Edit.is (beginning-more _ _ _ (name_text c.in-Edit.fault) (beginning-more _ _ _ (codes ": ") (fault-inside _ _ _ _ _ _ c.in_ok-write_bytes-in-Edit.ensures.written c.in_err-write_number-in-Edit.ensures refl))))

pub returns-in_err-write_bytes-in-Edit-2 : goal.returns-in_err-write_bytes-in-Edit-2
returns-in_err-write_bytes-in-Edit-2 g c =
    let p = err_from_is_err_and c.from_residual-in_err-write_bytes-in-Edit-2.result c.from_residual-in_err-write_bytes-in-Edit-2.ensures.1 in
    rw p.1 (rw c.in-Edit.is (beginning-more _ _ _ (name_text c.in-Edit.fault) (fault-inside _ _ _ _ _ _ (written-then _ _ _ _ _ c.in_ok-write_bytes-in-Edit.ensures.written c.in_ok-write_number-in-Edit.ensures)
    c.in_err-write_bytes-in-Edit-2.ensures.written refl)))

pub returns-in_ok-write_bytes-in-Edit-2 : goal.returns-in_ok-write_bytes-in-Edit-2
returns-in_ok-write_bytes-in-Edit-2 g c =
    rw c.in-Edit.is (then-writes _ _ _ c.write_bytes-in-Edit-3.result _ _ _
    (written-then _ _ _ _ _ (written-then _ _ _ _ _ c.in_ok-write_bytes-in-Edit.ensures.written c.in_ok-write_number-in-Edit.ensures) c.in_ok-write_bytes-in-Edit-2.ensures.written)
    c.write_bytes-in-Edit-3.ensures.written (ap (λ name. codes "edit: line " ++ decimal c.in-Edit.line ++ codes ": " ++ name) (c.as_bytes.ensures.value ∙ c.name_of.ensures)))
