use Rattle.std.proofs.Common.{refl}
use Rattle.page_trees.proofs.builder.TreeBuilder.end_section.Goals as goal

pub returns-clause-rule : goal.returns-clause-rule
returns-clause-rule c within b stands = c.end_in_mode.ensures.rule refl within _ (c.clear_stack_to.ensures.rule (c.end_in_mode.ensures.limits within) b stands)
