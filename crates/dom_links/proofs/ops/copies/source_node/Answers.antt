use Rattle.std.proofs.Common.{◌<◌, length, refl, ap, ◌∙◌, get_or}
use Rattle.std.proofs.lemmas.Option.{slice_get_read}
use Rattle.dom_links.proofs.copies.Copied.{other_read, same_read}
use Rattle.dom_links.proofs.ops.copies.source_node.Goals as goal

pub returns-in-Some : goal.returns-in-Some
returns-in-Some c = λ at way known.
    let here : c.args.id < length c.in-Some.read.now = rw c.in-Some.is at c.requires in
    let place = ap (λ i. get_or c.in-Some.read.now i c.index-read-value.result) c.value.ensures.number in
    other_read at c.in-Some.read c.args.nodes.now c.args.id c.index-read-value.result (rw c.in-Some.is at way)
    (slice_get_read c.in-Some.read.now (length c.in-Some.read.now) c.args.id c.index-read-value.result refl here (c.index-read-value.is ∙ place))

pub returns-in-None : goal.returns-in-None
returns-in-None c = λ at way known.
    let here : c.args.id < length c.args.nodes.now = rw c.in-None.is at c.requires in
    let place = ap (λ i. get_or c.args.nodes.now i c.index-nodes-value.result) c.value-in-None.ensures.number in
    same_read at c.args.nodes.now c.args.id c.index-nodes-value.result (rw c.in-None.is at way) known
    (slice_get_read c.args.nodes.now (length c.args.nodes.now) c.args.id c.index-nodes-value.result refl here (c.index-nodes-value.is ∙ place))
