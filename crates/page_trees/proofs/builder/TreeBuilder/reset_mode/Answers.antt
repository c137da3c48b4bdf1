use Rattle.page_trees.proofs.ResetLemmas.{reset_to_found}
use Rattle.page_trees.proofs.builder.TreeBuilder.reset_mode.Goals as goal

pub returns-clause-rule : goal.returns-clause-rule
returns-clause-rule c within b stands = reset_to_found c.args.self.now c.mode_of_stack-self.result c.mode_of_stack-self.ensures b stands
