use Rattle.page_trees.specs.Lifts.{all_lifted}
use Rattle.page_trees.proofs.LiftLemmas.{lifts_on}
use Rattle.page_trees.proofs.depth.lift.Goals as goal

pub returns-then-nesting-most : goal.returns-then-nesting-most
returns-then-nesting-most c = all_lifted

pub returns-in-Some : goal.returns-in-Some
returns-in-Some c = lifts_on _ _ _ c.lift_from.ensures c.lift_from-in-Some.ensures
