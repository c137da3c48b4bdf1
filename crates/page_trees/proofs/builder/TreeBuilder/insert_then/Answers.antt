use Rattle.page_trees.proofs.BuilderSteps.{entered, same_limits}
use Rattle.page_trees.proofs.builder.TreeBuilder.insert_then.Goals as goal

pub returns-clause-rule : goal.returns-clause-rule
returns-clause-rule c plain starts within b current stands =
    entered _ _ c.args.mode c.done_in.ensures.mode plain _ (c.insert.ensures.rule starts (same_limits _ _ _ c.done_in.ensures.mode within) b current stands)
