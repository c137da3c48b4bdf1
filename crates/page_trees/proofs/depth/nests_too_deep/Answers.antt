use Rattle.page_trees.proofs.DepthLemmas.{deep_told}
use Rattle.page_trees.proofs.depth.nests_too_deep.Goals as goal

pub returns : goal.returns
returns c = deep_told c.goes_deep.result _ c.args.tree.now c.args.most _ c.in_ok-edges.edges c.nodes-nodes.ensures.value c.root_id.ensures c.in_ok-edges.ensures c.goes_deep.ensures
