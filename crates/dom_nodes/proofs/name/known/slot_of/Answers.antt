use Rattle.std.proofs.Common.{refl}
use Rattle.dom_nodes.specs.KnownNames.{slot}
use Rattle.dom_nodes.proofs.name.known.slot_of.Goals as goal

pub returns-clause-is : goal.returns-clause-is
unfolding slot
returns-clause-is c = refl
