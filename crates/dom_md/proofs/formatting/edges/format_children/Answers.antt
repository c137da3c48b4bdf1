use Rattle.std.proofs.Common.{string_bytes}
use Rattle.std.proofs.lemmas.Result.{IfOk-weaker}
use Rattle.dom_links.specs.Forest.{forest_of}
use Rattle.dom_md.proofs.EdgeEventLemmas.{children-all}
use Rattle.dom_md.proofs.formatting.edges.format_children.Goals as goal

pub returns : goal.returns
returns c =
    let forest = forest_of c.nodes-nodes.result.now in
    IfOk-weaker c.format_edges.result _ _
    (λ text done. children-all forest c.args.tree.now c.nodes-nodes.ensures.sound.forest c.nodes-nodes.ensures.value c.args.id c.in_ok-edges.edges (string_bytes text) c.in_ok-edges.ensures done)
    c.format_edges.ensures
