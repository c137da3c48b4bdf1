use Rattle.std.proofs.Common.{[], ◌∷◌, ◌∙◌, ap}
use Rattle.std.proofs.lemmas.Result.{err_from_is_err_and}
use Rattle.dom_markup.proofs.html.WritingLemmas.{fault-first, then-writes}
use Rattle.dom_query.specs.Rendering.{line_of}
use Rattle.dom_query.proofs.runner.rendering.write_attr.Goals as goal

pub returns-in_err-write_bytes : goal.returns-in_err-write_bytes
returns-in_err-write_bytes g c =
    let p = err_from_is_err_and c.from_residual.result c.from_residual.ensures.1 in
    rw p.1 (fault-first _ _ _ (10 ∷ []) _ c.in_err-write_bytes.ensures.written (ap line_of (c.as_bytes.ensures.value ∙ c.value_of.ensures)))

pub returns : goal.returns
returns g c =
    then-writes _ _ _ c.write_bytes-2.result _ _ _ c.in_ok-write_bytes.ensures.written c.write_bytes-2.ensures.written
    (ap line_of (c.as_bytes.ensures.value ∙ c.value_of.ensures))
