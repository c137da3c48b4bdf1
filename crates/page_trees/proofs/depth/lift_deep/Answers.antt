use Rattle.page_trees.specs.Lifts.{all_lifted}
use Rattle.page_trees.proofs.LiftLemmas.{lifts_on}
use Rattle.page_trees.proofs.depth.lift_deep.Goals as goal

pub returns-in_err-push_row : goal.returns-in_err-push_row
returns-in_err-push_row c = all_lifted

pub loop-init : goal.loop-init
loop-init c = all_lifted

pub returns-in_err-pass : goal.returns-in_err-pass
returns-in_err-pass c = lifts_on _ _ _ c.loop.invariant c.pass.ensures

pub loop-preserved : goal.loop-preserved
loop-preserved c = lifts_on _ _ _ c.loop.invariant c.pass.ensures
