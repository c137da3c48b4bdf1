use Rattle.std.proofs.Common.{arith}
use Rattle.std.proofs.lemmas.Grind.{common_steps}
use Rattle.dom_links.proofs.ops.create.check_data.Goals as goal

pub returns-then-value-nodes : goal.returns-then-value-nodes
returns-then-value-nodes c = grind (arith, common_steps)

pub returns-in_default : goal.returns-in_default
returns-in_default c = grind (arith, common_steps)

pub returns : goal.returns
returns c = grind (arith, common_steps)
