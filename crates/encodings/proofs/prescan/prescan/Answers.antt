use Rattle.std.proofs.Common.{◌∙◌, arith, eqb-true, sym}
use Rattle.encodings.proofs.Steps.{nothing_left, step_declares, step_ends, step_goes_on}
use Rattle.encodings.proofs.prescan.prescan.Goals as goal

pub loop-rest-preserved : goal.loop-rest-preserved
loop-rest-preserved c = (step_goes_on _ _ c.in-GoesOn.ensures).0 ∙ c.loop-rest.invariant

pub loop-rest-smaller : goal.loop-rest-smaller
loop-rest-smaller c = omega (arith, (step_goes_on _ _ c.in-GoesOn.ensures).1)

pub returns-in-Declares : goal.returns-in-Declares
returns-in-Declares c = step_declares _ _ c.in-Declares.ensures ∙ c.loop-rest.invariant

pub returns-in-Ends : goal.returns-in-Ends
returns-in-Ends c = step_ends _ c.in-Ends.ensures ∙ c.loop-rest.invariant

pub returns : goal.returns
returns c = nothing_left c.loop-rest.rest.now (eqb-true _ 0 (sym c.is_empty.ensures ∙ c.loop-rest-test.false)) ∙ c.loop-rest.invariant
