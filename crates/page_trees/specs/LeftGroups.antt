-- Anything else in a column group (13.2.6.4.12): it is closed, and the token is to be reprocessed, if it is the current node.
use Rattle.page_trees.specs.Constructs.{Performs}
use Rattle.page_trees.specs.Stands.{Tells}
use Rattle.page_trees.specs.TableSteps.{closing_group, if_found, is_again, is_in_group}
use Rattle.page_trees.specs.declared.builder.Next.{Next}
use Rattle.page_trees.specs.declared.builder.TreeBuilder.{TreeBuilder}

pub record LeavesGroup (old new : TreeBuilder) (next : Next) : Type 0 where
  pub found : Tells is_in_group old.tree (is_again next)
  pub rule : Performs (if_found (is_again next) closing_group) old new
