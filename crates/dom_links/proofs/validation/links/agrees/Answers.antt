use Rattle.std.proofs.Common.{arith}
use Rattle.std.proofs.lemmas.Grind.{elements}
use Rattle.dom_links.proofs.validation.links.agrees.Goals as goal

pub bounds-nodes-value : goal.bounds-nodes-value
bounds-nodes-value c = grind (arith, elements)

pub bounds-nodes-value-in-Some : goal.bounds-nodes-value-in-Some
bounds-nodes-value-in-Some c = grind (arith, elements)

pub returns-then-not-links_to : goal.returns-then-not-links_to
returns-then-not-links_to c = grind (arith, elements)

pub bounds-nodes-value-in-Some-get : goal.bounds-nodes-value-in-Some-get
bounds-nodes-value-in-Some-get c = grind (arith, elements)

pub bounds-nodes-value-in-Some-get-2 : goal.bounds-nodes-value-in-Some-get-2
bounds-nodes-value-in-Some-get-2 c = grind (arith, elements)

pub returns-then-not-links_to-2 : goal.returns-then-not-links_to-2
returns-then-not-links_to-2 c = grind (arith, elements)

pub returns-else-not-links_to-2 : goal.returns-else-not-links_to-2
returns-else-not-links_to-2 c = grind (arith, elements)

pub returns-in_default-get : goal.returns-in_default-get
returns-in_default-get c = grind (arith, elements)
