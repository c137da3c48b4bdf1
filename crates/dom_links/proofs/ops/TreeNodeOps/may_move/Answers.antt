use Rattle.std.proofs.Common.{arith}
use Rattle.std.proofs.lemmas.Grind.{common_steps}
use Rattle.dom_links.proofs.ops.TreeNodeOps.may_move.Goals as goal

pub returns-in-WholeList : goal.returns-in-WholeList
returns-in-WholeList c = grind (arith, common_steps)
