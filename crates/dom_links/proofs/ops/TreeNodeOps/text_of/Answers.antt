use Rattle.std.proofs.Common.{arith}
use Rattle.std.proofs.lemmas.Grind.{common_steps}
use Rattle.dom_links.proofs.ops.TreeNodeOps.text_of.Goals as goal

pub loop-below-preserved : goal.loop-below-preserved
loop-below-preserved c = grind (arith, common_steps)
