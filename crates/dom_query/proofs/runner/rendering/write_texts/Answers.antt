use Rattle.std.proofs.Common.{[], ◌∷◌, ◌∙◌, ◌≡◌}
use Rattle.std.proofs.lemmas.Result.{err_from_is_err_and}
use Rattle.dom_query.specs.Rendering.{node_text}
use Rattle.dom_query.proofs.Writing.{joined-all, joined-next, joined-so_far}
use Rattle.dom_query.proofs.runner.rendering.write_texts.Goals as goal

pub returns-in_err-text-clause-writes : goal.returns-in_err-text-clause-writes
returns-in_err-text-clause-writes g c =
    let p = err_from_is_err_and c.from_residual.result c.from_residual.ensures.1 in
    rw p.1 (joined-so_far (node_text c.args.formatted c.args.tree.now) _ _ c.id-item.result c.loop-id-test.true c.id-item.is _ _ (g.W.Write.contents c.loop-id.out) (10 ∷ []) c.loop-id.invariant)

pub returns-in_err-write_bytes-clause-writes : goal.returns-in_err-write_bytes-clause-writes
returns-in_err-write_bytes-clause-writes g c =
    let p = err_from_is_err_and c.from_residual-in_err-write_bytes.result c.from_residual-in_err-write_bytes.ensures.1 in
    let said : c.as_bytes.result.now ≡ node_text c.args.formatted c.args.tree.now c.id-item.result = c.as_bytes.ensures.value ∙ c.in_ok-text.ensures in
    rw p.1 (joined-next (node_text c.args.formatted c.args.tree.now) _ _ c.id-item.result c.loop-id-test.true c.id-item.is _ _ _ (10 ∷ []) c.as_bytes.result.now said c.loop-id.invariant c.in_err-write_bytes.ensures.written)

pub returns-in_err-write_bytes-2-clause-writes : goal.returns-in_err-write_bytes-2-clause-writes
returns-in_err-write_bytes-2-clause-writes g c =
    let p = err_from_is_err_and c.from_residual-in_err-write_bytes-2.result c.from_residual-in_err-write_bytes-2.ensures.1 in
    rw p.1 (joined-all (node_text c.args.formatted c.args.tree.now) c.args.selection.now c.loop-id.id-index c.loop-id-test.false _ _ _ (10 ∷ []) c.loop-id.invariant c.in_err-write_bytes-2.ensures.written)
