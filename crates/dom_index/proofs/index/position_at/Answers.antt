use Rattle.std.proofs.Common.{◌∙◌, ap, slice_get}
use Rattle.dom_index.proofs.PositionLemmas.{position_decided}
use Rattle.dom_index.proofs.index.position_at.Goals as goal

pub returns : goal.returns
returns c =
    let g = c.args.preorder.now in
    c.written.ensures ∙ (ap (λ ns. slice_get ns c.args.n) c.deref.ensures.value ∙ position_decided g.tree.now g.order.items g.places.items g.ordered g.is_preorder c.args.n)
