use Rattle.std.proofs.Common.{arith}
use Rattle.std.proofs.lemmas.Grind.{common_steps}
use Rattle.dom_selection.proofs.selection.iter.SelectionsIterator.next.Goals as goal

pub returns-in_err-node-clause-steps : goal.returns-in_err-node-clause-steps
returns-in_err-node-clause-steps c = grind (arith, common_steps)
