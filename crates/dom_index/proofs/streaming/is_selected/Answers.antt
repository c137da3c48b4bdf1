use Rattle.std.proofs.Common.{arith}
use Rattle.std.proofs.lemmas.Grind.{elements}
use Rattle.dom_index.proofs.streaming.is_selected.Goals as goal

pub returns-then-value-len-clause-is : goal.returns-then-value-len-clause-is
returns-then-value-len-clause-is c = grind (arith, elements)
