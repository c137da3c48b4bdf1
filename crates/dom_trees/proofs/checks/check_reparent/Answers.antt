use Rattle.std.proofs.Common.{arith}
use Rattle.std.proofs.lemmas.Grind.{common_steps}
use Rattle.dom_trees.proofs.checks.check_reparent.Goals as goal

pub first_child_of-requires-clause-known : goal.first_child_of-requires-clause-known
first_child_of-requires-clause-known c = grind (arith, common_steps)

pub check_moved-requires-clause-known : goal.check_moved-requires-clause-known
check_moved-requires-clause-known c = grind (arith, common_steps)
