use Rattle.std.proofs.Common.{refl}
use Rattle.page_trees.proofs.builder.TreeBuilder.imply_row.Goals as goal

pub returns-clause-rule : goal.returns-clause-rule
returns-clause-rule c within b stands = c.imply.ensures.rule refl refl within _ (c.clear_stack_to.ensures.rule (c.imply.ensures.limits within) b stands)
