use Rattle.std.proofs.Common.{◌∷◌, [], refl}
use Rattle.std.proofs.lemmas.Result.{err_from_is_err_and}
use Rattle.dom_markup.proofs.html.WritingLemmas.{beginning-more, then-writes}
use Rattle.dom_query.proofs.runner.rendering.write_count.Goals as goal

pub returns-in_err-write_number : goal.returns-in_err-write_number
returns-in_err-write_number g c =
    let p = err_from_is_err_and c.from_residual.result c.from_residual.ensures.1 in
    rw p.1 (beginning-more _ _ _ (10 ∷ []) c.in_err-write_number.ensures)

pub returns : goal.returns
returns g c = then-writes _ _ _ c.write_bytes.result _ _ _ c.in_ok-write_number.ensures c.write_bytes.ensures.written refl
