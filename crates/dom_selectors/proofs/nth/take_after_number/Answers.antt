use Rattle.std.proofs.Common.{arith}
use Rattle.std.proofs.lemmas.Grind.{common_steps}
use Rattle.dom_selectors.proofs.nth.take_after_number.Goals as goal

pub returns-in_err-b : goal.returns-in_err-b
returns-in_err-b c = grind (arith, common_steps)

pub returns : goal.returns
returns c = grind (arith, common_steps)
