use Rattle.std.proofs.Common.{arith}
use Rattle.std.proofs.lemmas.Grind.{elements}
use Rattle.dom_links.proofs.validation.contents.parent_allows_children.Goals as goal

pub returns-in_default : goal.returns-in_default
returns-in_default c = grind (arith, elements)

pub bounds-nodes-value : goal.bounds-nodes-value
bounds-nodes-value c = grind (arith, elements)

pub returns : goal.returns
returns c = grind (arith, elements)
