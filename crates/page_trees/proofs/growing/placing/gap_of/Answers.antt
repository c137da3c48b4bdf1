use Rattle.std.proofs.Common.{arith}
use Rattle.std.proofs.lemmas.Grind.{elements}
use Rattle.page_trees.proofs.growing.placing.gap_of.Goals as goal

pub returns-in-EndOf-clause-open : goal.returns-in-EndOf-clause-open
returns-in-EndOf-clause-open c = grind (arith, elements)

pub returns-in-Some-clause-open : goal.returns-in-Some-clause-open
returns-in-Some-clause-open c = grind (arith, elements)

pub returns-in-None-clause-open : goal.returns-in-None-clause-open
returns-in-None-clause-open c = grind (arith, elements)
