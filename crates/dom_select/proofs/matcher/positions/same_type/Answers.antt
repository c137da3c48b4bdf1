use Rattle.std.proofs.Common.{arith}
use Rattle.std.proofs.lemmas.Grind.{elements}
use Rattle.dom_select.proofs.matcher.positions.same_type.Goals as goal

pub returns-in_default : goal.returns-in_default
returns-in_default c = grind (arith, elements)

pub returns-in-None : goal.returns-in-None
returns-in-None c = grind (arith, elements)
