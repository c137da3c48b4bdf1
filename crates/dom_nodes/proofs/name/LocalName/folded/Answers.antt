use Rattle.dom_nodes.proofs.KnownLemmas.{folded_known}
use Rattle.dom_nodes.proofs.name.LocalName.folded.Goals as goal

pub returns-in-Some : goal.returns-in-Some
returns-in-Some c = folded_known _ _ c.in-Some.ensures.0 c.in-Some.ensures.1
