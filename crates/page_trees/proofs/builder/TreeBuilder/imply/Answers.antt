use Rattle.page_trees.proofs.BuilderSteps.{entered, same_limits}
use Rattle.page_trees.proofs.builder.TreeBuilder.imply.Goals as goal

pub returns-clause-rule : goal.returns-clause-rule
returns-clause-rule c plain text within b stands =
    entered _ _ c.args.mode c.again_in.ensures.mode plain _ (c.insert_implied.ensures.rule text (same_limits _ _ _ c.again_in.ensures.mode within) b stands)
