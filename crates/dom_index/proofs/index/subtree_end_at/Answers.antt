use Rattle.std.proofs.Common.{◌∙◌, ap, slice_get}
use Rattle.dom_index.proofs.PositionLemmas.{last_decided}
use Rattle.dom_index.proofs.index.subtree_end_at.Goals as goal

pub returns : goal.returns
returns c =
    let g = c.args.preorder.now in
    last_decided g.tree.now g.order.items g.places.items g.ordered g.is_preorder g.subtree_ends.items g.spans c.args.n c.written.result
    (c.written.ensures ∙ ap (λ ns. slice_get ns c.args.n) c.deref.ensures.value)
