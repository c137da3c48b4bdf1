use Rattle.std.proofs.Common.{arith}
use Rattle.std.proofs.lemmas.Grind.{elements}
use Rattle.dom_links.proofs.validation.contents.stays_alone.Goals as goal

pub returns-then-is_some-2 : goal.returns-then-is_some-2
returns-then-is_some-2 c = grind (arith, elements)
