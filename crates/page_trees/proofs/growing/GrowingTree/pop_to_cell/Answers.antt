use Rattle.page_trees.specs.TableSteps.{cell_names, is_a_cell}
use Rattle.standard_trees.specs.GrowingTree.{is_one}
use Rattle.page_trees.proofs.BuiltStacks.{built_as, popped_through}
use Rattle.page_trees.proofs.NumberedNames.{before_numbered}
use Rattle.page_trees.proofs.StandingNames.{one_agrees}
use Rattle.page_trees.proofs.TableRules.{cells_known}
use Rattle.page_trees.proofs.growing.GrowingTree.pop_to_cell.Goals as goal

pub returns : goal.returns
returns c t b =
    built_as _ _ t _ _ c.take_to_cell.ensures b (popped_through t is_a_cell (is_one t cell_names) (one_agrees cell_names cells_known t) _ b.stack)
    (before_numbered _ _ _ _ b.numbered)
