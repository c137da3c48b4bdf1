use Rattle.std.proofs.Common.{arith}
use Rattle.std.proofs.lemmas.Grind.{common_steps}
use Rattle.dom_trees.proofs.tree.Tree.add_missing_attrs_of.Goals as goal

pub returns : goal.returns
returns c = grind (arith, common_steps)
