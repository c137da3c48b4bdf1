use Rattle.std.proofs.Common.{◌∙◌}
use Rattle.page_trees.proofs.ForeignRuns.{none_run, some_run}
use Rattle.page_trees.proofs.builder.TreeBuilder.is_run_foreign.Goals as goal

pub returns-in-Some : goal.returns-in-Some
returns-in-Some c t built = c.holds_foreign.ensures ∙ some_run _ c.adjusted_current.result _ t c.in-Some.is built (c.adjusted_current.ensures t built)

pub returns-in-None : goal.returns-in-None
returns-in-None c t built = none_run _ c.adjusted_current.result t c.in-None.is built (c.adjusted_current.ensures t built)
