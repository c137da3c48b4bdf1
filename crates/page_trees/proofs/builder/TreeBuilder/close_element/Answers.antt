use Rattle.page_trees.proofs.BuilderSteps.{popped_one}
use Rattle.page_trees.proofs.builder.TreeBuilder.close_element.Goals as goal

pub returns-clause-rule : goal.returns-clause-rule
returns-clause-rule c within b stands = popped_one c.args.self.now c.pop.new.self c.pop.ensures b stands
