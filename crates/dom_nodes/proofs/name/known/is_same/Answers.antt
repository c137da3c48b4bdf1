use Rattle.dom_nodes.proofs.KnownLemmas.{known-same}
use Rattle.dom_nodes.proofs.name.known.is_same.Goals as goal

pub returns : goal.returns
returns c = known-same _ _ c.requires.number c.requires.other
