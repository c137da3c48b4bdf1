use Rattle.std.proofs.Common.{refl}
use Rattle.page_trees.proofs.builder.TreeBuilder.end_row.Goals as goal

pub returns-clause-rule : goal.returns-clause-rule
returns-clause-rule c within b stands = c.leave_for.ensures.rule refl within _ (c.clear_stack_to.ensures.rule (c.leave_for.ensures.limits within) b stands)
