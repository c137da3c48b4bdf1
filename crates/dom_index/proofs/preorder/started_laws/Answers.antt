use Rattle.dom_index.proofs.OrderLemmas.{met_starts_none}
use Rattle.dom_index.proofs.preorder.started_laws.Goals as goal

pub returns : goal.returns
returns c = λ n known s. let k = c.forest_laws.ensures in met_starts_none c.args.tree.now k.forest k.lines k.trees n known s
