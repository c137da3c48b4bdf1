use Rattle.std.proofs.Common.{arith}
use Rattle.std.proofs.lemmas.Grind.{common_steps}
use Rattle.dom_select.proofs.matcher.positions.has_index.Goals as goal

pub loop-init : goal.loop-init
loop-init c = grind (arith, common_steps)

pub returns-then-left-eq0 : goal.returns-then-left-eq0
returns-then-left-eq0 c = grind (arith, common_steps)

pub loop-preserved : goal.loop-preserved
loop-preserved c = grind (arith, common_steps)
