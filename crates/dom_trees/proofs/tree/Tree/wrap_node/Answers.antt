use Rattle.std.proofs.Common.{arith}
use Rattle.std.proofs.lemmas.Grind.{common_steps}
use Rattle.dom_trees.proofs.tree.Tree.wrap_node.Goals as goal

pub wrap_node-requires-clause-known : goal.wrap_node-requires-clause-known
wrap_node-requires-clause-known c = grind (arith, common_steps)

pub wrap_node-requires-clause-wrapper_known : goal.wrap_node-requires-clause-wrapper_known
wrap_node-requires-clause-wrapper_known c = grind (arith, common_steps)

pub returns : goal.returns
returns c = grind (arith, common_steps)
