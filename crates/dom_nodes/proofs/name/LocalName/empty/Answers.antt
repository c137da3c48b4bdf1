use Rattle.dom_nodes.proofs.KnownLemmas.{known_empty}
use Rattle.dom_nodes.proofs.name.LocalName.empty.Goals as goal

pub returns : goal.returns
returns c = known_empty
