use Rattle.std.proofs.Common.{arith}
use Rattle.std.proofs.lemmas.Grind.{common_steps}
use Rattle.dom_trees.proofs.tree.Tree.reparent_children_of.Goals as goal

pub reparent_children_of-requires-clause-known : goal.reparent_children_of-requires-clause-known
reparent_children_of-requires-clause-known c = grind (arith, common_steps)

pub reparent_children_of-requires-clause-target_known : goal.reparent_children_of-requires-clause-target_known
reparent_children_of-requires-clause-target_known c = grind (arith, common_steps)

pub returns : goal.returns
returns c = grind (arith, common_steps)
