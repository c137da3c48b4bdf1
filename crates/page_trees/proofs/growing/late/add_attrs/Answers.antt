use Rattle.page_trees.proofs.CompletedTrees.{edit_made}
use Rattle.page_trees.proofs.growing.late.add_attrs.Goals as goal

pub returns-in-Ok-clause-ok : goal.returns-in-Ok-clause-ok
returns-in-Ok-clause-ok c = edit_made _ _ _ _ _ c.in-Ok.is c.add_missing_attrs_of.ensures
