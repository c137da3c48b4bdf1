use Rattle.std.proofs.Common.{arith}
use Rattle.std.proofs.lemmas.Grind.{elements}
use Rattle.dom_links.proofs.validation.links.is_linked.Goals as goal

pub returns-then-not-is_child : goal.returns-then-not-is_child
returns-then-not-is_child c = grind (arith, elements)

pub is_child-requires-2 : goal.is_child-requires-2
is_child-requires-2 c = grind (arith, elements)

pub returns-then-not-is_child-2 : goal.returns-then-not-is_child-2
returns-then-not-is_child-2 c = grind (arith, elements)

pub returns : goal.returns
returns c = grind (arith, elements)
