use Rattle.std.proofs.Common.{arith}
use Rattle.std.proofs.lemmas.Grind.{common_steps}
use Rattle.dom_trees.proofs.tree.Tree.remove_from_parent.Goals as goal

pub remove_from_parent-requires-clause-known : goal.remove_from_parent-requires-clause-known
remove_from_parent-requires-clause-known c = grind (arith, common_steps)

pub returns : goal.returns
returns c = grind (arith, common_steps)
