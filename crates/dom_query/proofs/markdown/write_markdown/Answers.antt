use Rattle.std.proofs.lemmas.Result.{err_from_is_err_and}
use Rattle.dom_markup.proofs.html.WritingLemmas.{beginning-then, written-then}
use Rattle.dom_query.proofs.Failing.{not-written}
use Rattle.dom_query.proofs.markdown.write_markdown.Goals as goal

pub returns-in_err-write_bytes-clause-cause : goal.returns-in_err-write_bytes-clause-cause
returns-in_err-write_bytes-clause-cause g c =
    let p = err_from_is_err_and c.from_residual-in_err-write_bytes.result c.from_residual-in_err-write_bytes.ensures.1 in
    rw p.1 (not-written _ _ _ _ _ c.in_err-write_bytes.field-0.0 _ c.in_ok-document.ensures.ok c.in_err-write_bytes.ensures.fault p.2 c.in_err-write_bytes.ensures.written)

pub returns-in_err-write_bytes-2-clause-cause : goal.returns-in_err-write_bytes-2-clause-cause
returns-in_err-write_bytes-2-clause-cause g c =
    let p = err_from_is_err_and c.from_residual-in_err-write_bytes-2.result c.from_residual-in_err-write_bytes-2.ensures.1 in
    let begun = beginning-then _ _ _ _ _ c.in_ok-write_bytes.ensures.written c.in_err-write_bytes-2.ensures.written in
    rw p.1 (not-written _ _ _ _ _ c.in_err-write_bytes-2.field-0.0 _ c.in_ok-document.ensures.ok c.in_err-write_bytes-2.ensures.fault p.2 begun)

pub returns-clause-done : goal.returns-clause-done
returns-clause-done g c = (
  (c.in_ok-document.document.tree, c.in_ok-document.ensures.ok),
  c.as_bytes.result.now,
  written-then _ _ _ _ _ c.in_ok-write_bytes.ensures.written c.in_ok-write_bytes-2.ensures.written,
)
