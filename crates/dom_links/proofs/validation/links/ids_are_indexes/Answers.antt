use Rattle.std.proofs.Common.{◌≡◌, ◌<◌, Some, arith, ap, ◌∙◌, length, below_more}
use Rattle.dom_links.proofs.checks.Checked.{id_read_at}
use Rattle.dom_links.proofs.validation.links.ids_are_indexes.Goals as goal

pub loop-n-preserved : goal.loop-n-preserved
loop-n-preserved c =
    let here : c.loop-n.n < length c.args.nodes.now = omega arith in
    let same : c.index-nodes-n.result.id ≡ c.loop-n.n = omega (arith, c.value.ensures.number, c.if-value-n.false, ap (λ node. node.id) c.index-nodes-n.is) in
    below_more _ _ c.loop-n.invariant (id_read_at c.args.nodes.now c.loop-n.n c.index-nodes-n.result here c.index-nodes-n.is ∙ ap Some same)
