use Rattle.std.proofs.Common.{◌∙◌, string_bytes, sym}
use Rattle.std.proofs.lemmas.Result.{IfOk-weaker}
use Rattle.dom_links.specs.Forest.{forest_of}
use Rattle.dom_md.proofs.EdgeEventLemmas.{node-all, node-top, node-unknown}
use Rattle.dom_md.proofs.formatting.edges.format_node.Goals as goal

pub returns-in_default : goal.returns-in_default
returns-in_default c = c.new.ensures.bytes ∙ sym (node-unknown (forest_of c.nodes-nodes.result.now) c.args.tree.now c.args.id c.nodes-nodes.ensures.sound.forest c.nodes-nodes.ensures.value c.in_default.ensures)

pub returns-then-is_top : goal.returns-then-is_top
returns-then-is_top c = c.new-then-is_top.ensures.bytes ∙ sym (node-top (forest_of c.nodes-nodes.result.now) c.args.tree.now c.nodes-nodes.ensures.value c.args.id c.in-Some.node.now c.in-Some.ensures (sym c.is_top.ensures ∙ c.if-is_top.true))

pub returns : goal.returns
returns c =
    let forest = forest_of c.nodes-nodes.result.now in
    IfOk-weaker c.format_edges.result _ _
    (λ text done. node-all forest c.args.tree.now c.nodes-nodes.ensures.sound.forest c.nodes-nodes.ensures.value c.args.id c.in-Some.node.now c.in-Some.ensures (sym c.is_top.ensures ∙ c.if-is_top.false) c.in_ok-edges.edges (string_bytes text) c.in_ok-edges.ensures done)
    c.format_edges.ensures
