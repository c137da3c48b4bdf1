use Rattle.page_trees.proofs.BuilderSteps.{quirks_set}
use Rattle.page_trees.proofs.builder.TreeBuilder.leave_initial.Goals as goal

pub returns-clause-rule : goal.returns-clause-rule
returns-clause-rule c within b stands = quirks_set c.args.self.now _ c.again_in.ensures.mode b stands
