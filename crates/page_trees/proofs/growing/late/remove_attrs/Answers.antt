use Rattle.page_trees.proofs.CompletedTrees.{edit_made}
use Rattle.page_trees.proofs.growing.late.remove_attrs.Goals as goal

pub returns-in-Ok-clause-ok : goal.returns-in-Ok-clause-ok
returns-in-Ok-clause-ok c = edit_made _ _ _ _ _ c.in-Ok.is c.try_change_of.ensures
