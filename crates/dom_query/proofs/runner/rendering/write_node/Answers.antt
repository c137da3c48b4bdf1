use Rattle.std.proofs.Common.{refl}
use Rattle.std.proofs.lemmas.Result.{err_from_is_err_and}
use Rattle.dom_markup.proofs.html.WritingLemmas.{beginning-more, then-writes}
use Rattle.dom_query.proofs.runner.rendering.write_node.Goals as goal

pub returns-in_err-write_html : goal.returns-in_err-write_html
returns-in_err-write_html g c =
    let p = err_from_is_err_and c.from_residual.result c.from_residual.ensures.1 in
    rw p.1 (beginning-more _ _ _ _ (rw c.new.ensures at c.in_err-write_html.ensures))

pub returns : goal.returns
returns g c = then-writes _ _ _ c.write_bytes.result _ _ _ (rw c.new.ensures at c.in_ok-write_html.ensures) c.write_bytes.ensures.written refl
