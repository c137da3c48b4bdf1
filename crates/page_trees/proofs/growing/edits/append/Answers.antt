use Rattle.std.proofs.Common.{refl}
use Rattle.page_trees.proofs.StandingEdits.{child_next}
use Rattle.page_trees.proofs.Ways.{child_call, fresh_call}
use Rattle.page_trees.proofs.growing.edits.append.Goals as goal

pub returns-clause-grows : goal.returns-clause-grows
returns-clause-grows c = child_call _ _ _ _ _ _ c.made.ensures c.append_child_data_of.ensures c.is_forest.ensures c.requires.open.1 c.requires.plain refl

pub returns-clause-element : goal.returns-clause-element
returns-clause-element c = fresh_call _ _ _ _ _ _ c.made.ensures c.append_child_data_of.ensures c.is_forest.ensures c.requires.open c.requires.plain

pub returns-clause-made : goal.returns-clause-made
returns-clause-made c = child_next _ _ _ _ _ _ c.made.ensures c.append_child_data_of.ensures c.is_forest.ensures c.requires.plain
