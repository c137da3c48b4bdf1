use Rattle.std.proofs.Common.{◌<◌, ◌∙◌, length, ap, arith}
use Rattle.std.proofs.Math.Dec.{leb}
use Rattle.std.proofs.lemmas.List.{get_or_read}
use Rattle.dom_index.specs.Orders.{number_at}
use Rattle.dom_index.proofs.PositionLemmas.{behind_decides, not_behind}
use Rattle.dom_index.proofs.index.is_within.Goals as goal

pub returns-then-place-index : goal.returns-then-place-index
returns-then-place-index c =
    let g = c.args.preorder.now in
    let x_known : c.args.x < length g.tree.now.content = omega (arith, g.ordered.long) in
    let at_y = get_or_read g.places.items c.args.y _ (omega (arith, g.ordered.places_long)) c.index-place.ensures 0 in
    let at_x = get_or_read g.places.items c.args.x _ (omega (arith, g.ordered.places_long)) c.index.ensures 0 in
    not_behind g.tree.now g.order.items g.places.items g.ordered g.is_preorder g.subtree_ends.items g.spans c.args.x c.args.y x_known (omega (arith, at_x, at_y, c.if-place-index.true))

pub returns : goal.returns
returns c =
    let g = c.args.preorder.now in
    let x_known : c.args.x < length g.tree.now.content = omega (arith, g.ordered.long) in
    let y_known : c.args.y < length g.tree.now.content = omega (arith, g.ordered.long) in
    let at_y = get_or_read g.places.items c.args.y _ (omega (arith, g.ordered.places_long)) c.index-place.ensures 0 in
    let at_x = get_or_read g.places.items c.args.x _ (omega (arith, g.ordered.places_long)) c.index.ensures 0 in
    let last = get_or_read g.subtree_ends.items c.args.x _ (omega (arith, g.spans.long)) c.index-2.ensures 0 in
    ap (λ a. leb a c.index-2.result.now) at_y ∙ (ap (leb (number_at g.places.items c.args.y)) last
    ∙ behind_decides g.tree.now g.order.items g.places.items g.ordered g.is_preorder g.subtree_ends.items g.spans c.args.x c.args.y x_known y_known (omega (arith, at_x, at_y, c.if-place-index.false)))
