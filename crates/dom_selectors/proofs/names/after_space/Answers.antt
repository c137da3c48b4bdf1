use Rattle.std.proofs.Common.{arith}
use Rattle.std.proofs.lemmas.Grind.{common_steps}
use Rattle.dom_selectors.proofs.names.after_space.Goals as goal

pub returns-in-13 : goal.returns-in-13
returns-in-13 c = grind (arith, common_steps)

pub returns-in-len1-up : goal.returns-in-len1-up
returns-in-len1-up c = grind (arith, common_steps)
