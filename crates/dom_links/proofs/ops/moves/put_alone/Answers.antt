use Rattle.std.proofs.Common.{arith}
use Rattle.std.proofs.lemmas.Grind.{common_steps}
use Rattle.dom_links.proofs.ops.moves.put_alone.Goals as goal

pub move_to-requires : goal.move_to-requires
move_to-requires c = grind (arith, common_steps)
