use Rattle.page_trees.proofs.BuilderSteps.{entered, popped_one}
use Rattle.page_trees.proofs.builder.TreeBuilder.end_in_mode.Goals as goal

pub returns-clause-rule : goal.returns-clause-rule
returns-clause-rule c plain within b stands =
    entered _ _ c.args.mode c.done_in.ensures.mode plain _ (popped_one c.args.self.now c.pop.new.self c.pop.ensures b stands)
