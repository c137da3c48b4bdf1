use Rattle.page_trees.proofs.MadeNodes.{element_call}
use Rattle.page_trees.proofs.StandingEdits.{element_forest}
use Rattle.page_trees.proofs.growing.edits.create.Goals as goal

pub returns-clause-ok : goal.returns-clause-ok
returns-clause-ok c = element_call _ _ _ _ _ _ _ c.made.ensures c.create_element.ensures

pub returns-clause-made : goal.returns-clause-made
returns-clause-made c = element_forest _ _ _ _ _ _ _ c.made.ensures c.create_element.ensures
