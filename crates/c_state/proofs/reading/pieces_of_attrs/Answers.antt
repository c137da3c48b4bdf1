use Rattle.std.proofs.Common.{arith}
use Rattle.std.proofs.lemmas.Grind.{common_steps}
use Rattle.c_state.proofs.reading.pieces_of_attrs.Goals as goal

pub loop-attr-preserved : goal.loop-attr-preserved
loop-attr-preserved c = (grind (arith, common_steps), grind (arith, common_steps))

pub returns : goal.returns
returns c = record { joined = grind (arith, common_steps); each = grind (arith, common_steps) }
