use Rattle.dom_select.proofs.IndexLemmas.{index_small}
use Rattle.dom_select.proofs.matcher.compounds.index_law.Goals as goal

pub returns : goal.returns
returns c = λ kind. index_small c.args.tree.now c.nodes-nodes.result.now kind c.args.id c.args.node.now c.nodes-nodes.ensures.sound c.nodes-nodes.ensures.value c.requires
