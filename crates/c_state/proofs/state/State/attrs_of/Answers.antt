use Rattle.std.proofs.Common.{arith}
use Rattle.std.proofs.lemmas.Grind.{common_steps}
use Rattle.c_state.proofs.state.State.attrs_of.Goals as goal

pub loop-id-preserved : goal.loop-id-preserved
loop-id-preserved c = (grind (arith, common_steps), grind (arith, common_steps))

pub returns : goal.returns
returns c = record { joined = grind (arith, common_steps); each = grind (arith, common_steps) }
