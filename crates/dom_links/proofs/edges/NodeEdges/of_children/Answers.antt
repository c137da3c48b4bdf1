use Rattle.std.proofs.Common.{◌∙◌, ap, sym}
use Rattle.dom_links.specs.Forest.{forest_of}
use Rattle.dom_links.specs.Edges.{edges_ahead}
use Rattle.dom_links.proofs.walks.EdgeLemmas.{children-known, children-unknown, only}
use Rattle.dom_links.proofs.edges.NodeEdges.of_children.Goals as goal

pub returns-in_default : goal.returns-in_default
returns-in_default g c =
    let forest = forest_of c.args.nodes.now in
    c.new.ensures ∙ (ap (edges_ahead g.D.Descent.descending forest) c.new-ahead.ensures.items ∙ sym (children-unknown g.D.Descent.descending forest c.requires.forest c.args.id c.in_default.ensures))

pub returns : goal.returns
returns g c =
    let d = g.D.Descent.descending in
    let forest = forest_of c.args.nodes.now in
    let here = children-known d forest c.requires.forest c.args.id c.in-Some.node.now c.in-Some.ensures in
    c.new-2.ensures ∙ (only d forest c.new-ahead.result.items _ _ c.new-ahead.ensures.items c.in_ok-push_row.ensures ∙ rw (c.get-first.ensures, c.mark.ensures) here)
