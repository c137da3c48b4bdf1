use Rattle.std.proofs.Common.{arith}
use Rattle.std.proofs.lemmas.Grind.{common_steps}
use Rattle.dom_trees.proofs.checks.check_open.Goals as goal

pub may_have_siblings-requires-clause-known : goal.may_have_siblings-requires-clause-known
may_have_siblings-requires-clause-known c = grind (arith, common_steps)

pub may_have_children-requires-clause-known : goal.may_have_children-requires-clause-known
may_have_children-requires-clause-known c = grind (arith, common_steps)
