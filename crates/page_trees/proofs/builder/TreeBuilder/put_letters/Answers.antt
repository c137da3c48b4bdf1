use Rattle.page_trees.proofs.RunSteps.{spoiled, spoiled_limits}
use Rattle.page_trees.proofs.builder.TreeBuilder.put_letters.Goals as goal

pub returns-clause-limits : goal.returns-clause-limits
returns-clause-limits c within = c.put_text.ensures.limits (spoiled_limits _ _ c.spoil_frameset.ensures.value within)

pub returns-clause-rule : goal.returns-clause-rule
returns-clause-rule c x xs spelt within b stands =
    spoiled _ _ c.spoil_frameset.ensures.value _ (c.put_text.ensures.rule x xs spelt (spoiled_limits _ _ c.spoil_frameset.ensures.value within) b stands)
