use Rattle.dom_links.proofs.moves.Unwrapping.{unwrapped-wrapped}
use Rattle.dom_links.proofs.laws.unwrapping_a_wrapped_node.Goals as goal

pub returns : goal.returns
returns c = unwrapped-wrapped
