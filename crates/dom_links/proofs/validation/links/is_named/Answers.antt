use Rattle.std.proofs.Common.{arith}
use Rattle.std.proofs.lemmas.Grind.{elements}
use Rattle.dom_links.proofs.validation.links.is_named.Goals as goal

pub returns-in_default : goal.returns-in_default
returns-in_default c = grind (arith, elements)

pub bounds-nodes-value : goal.bounds-nodes-value
bounds-nodes-value c = grind (arith, elements)

pub returns-then-not-links_to : goal.returns-then-not-links_to
returns-then-not-links_to c = grind (arith, elements)

pub returns-then-not-links_to-2 : goal.returns-then-not-links_to-2
returns-then-not-links_to-2 c = grind (arith, elements)

pub returns : goal.returns
returns c = grind (arith, elements)
