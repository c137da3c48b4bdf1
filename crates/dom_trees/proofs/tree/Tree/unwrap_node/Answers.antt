use Rattle.std.proofs.Common.{arith}
use Rattle.std.proofs.lemmas.Grind.{common_steps}
use Rattle.dom_trees.proofs.tree.Tree.unwrap_node.Goals as goal

pub unwrap_node-requires-clause-known : goal.unwrap_node-requires-clause-known
unwrap_node-requires-clause-known c = grind (arith, common_steps)

pub returns : goal.returns
returns c = grind (arith, common_steps)
