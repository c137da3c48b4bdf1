use Rattle.std.proofs.Common.{◌∙◌}
use Rattle.page_trees.proofs.CurrentForeign.{none_foreign, some_foreign}
use Rattle.page_trees.proofs.builder.TreeBuilder.is_current_foreign.Goals as goal

pub returns-in-Some : goal.returns-in-Some
returns-in-Some c t built = c.is_foreign.ensures ∙ some_foreign c.adjusted_current.result _ t c.in-Some.is (c.adjusted_current.ensures t built)

pub returns-in-None : goal.returns-in-None
returns-in-None c t built = none_foreign c.adjusted_current.result t c.in-None.is (c.adjusted_current.ensures t built)
