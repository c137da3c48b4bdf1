use Rattle.std.proofs.Common.{◌<◌, arith, length}
use Rattle.std.proofs.lemmas.Result.{err_from_is_err_and}
use Rattle.dom_links.specs.Copies.{CheckCause, MayCopy}
use Rattle.dom_links.specs.Forest.{forest_of}
use Rattle.dom_links.proofs.copies.Copied.{passed_on}
use Rattle.dom_links.proofs.copies.CopiedForests.{stands_here}
use Rattle.dom_links.proofs.ops.copies.check_copies.Goals as goal

pub returns-in_err-check_copy : goal.returns-in_err-check_copy
returns-in_err-check_copy c =
    let here : c.loop-id.id-index < length c.args.ids.now = omega arith in
    let forest = forest_of c.args.nodes.now in
    passed_on c.from_residual.result c.in_err-check_copy.field-0.0 (λ _. MayCopy forest c.args.ids.now) (CheckCause forest c.args.ids.now) (err_from_is_err_and c.from_residual.result c.from_residual.ensures.1)
    (c.id-item.result, stands_here c.args.ids.now c.loop-id.id-index c.id-item.result here c.id-item.is, c.in_err-check_copy.ensures)
