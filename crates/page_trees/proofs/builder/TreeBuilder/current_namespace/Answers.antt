use Rattle.standard_trees.specs.GrowingTree.{adjusted_current}
use Rattle.page_trees.proofs.ForeignStarts.{none_space, some_space}
use Rattle.page_trees.proofs.builder.TreeBuilder.current_namespace.Goals as goal

pub returns-in-Some : goal.returns-in-Some
returns-in-Some c t built = some_space c.adjusted_current.result _ (adjusted_current t) c.in-Some.is (c.adjusted_current.ensures t built)

pub returns-in-None : goal.returns-in-None
returns-in-None c t built = none_space c.adjusted_current.result (adjusted_current t) c.in-None.is (c.adjusted_current.ensures t built)
