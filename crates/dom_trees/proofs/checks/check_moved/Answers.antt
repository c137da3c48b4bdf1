use Rattle.std.proofs.Common.{arith}
use Rattle.std.proofs.lemmas.Grind.{common_steps}
use Rattle.dom_trees.proofs.checks.check_moved.Goals as goal

pub may_move-requires-clause-target_known : goal.may_move-requires-clause-target_known
may_move-requires-clause-target_known c = grind (arith, common_steps)

pub may_move-requires-clause-known : goal.may_move-requires-clause-known
may_move-requires-clause-known c = grind (arith, common_steps)

pub stays_put-requires-clause-known : goal.stays_put-requires-clause-known
stays_put-requires-clause-known c = grind (arith, common_steps)
