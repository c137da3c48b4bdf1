use Rattle.dom_links.specs.Forest.{forest_of}
use Rattle.dom_markup.proofs.html.EdgeTextLemmas.{node-text}
use Rattle.dom_markup.proofs.serializing.edges.put_node.Goals as goal

pub returns : goal.returns
returns g c = rw (node-text (forest_of c.nodes-nodes.result.now) c.args.tree.now c.nodes-nodes.ensures.value c.args.id c.in_ok-edges.edges c.in_ok-edges.ensures) c.put_edges.ensures
