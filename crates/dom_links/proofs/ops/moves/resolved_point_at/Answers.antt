use Rattle.std.proofs.Common.{arith}
use Rattle.std.proofs.lemmas.Grind.{elements}
use Rattle.dom_links.proofs.ops.moves.resolved_point_at.Goals as goal

pub returns-in-EndOf-clause-left : goal.returns-in-EndOf-clause-left
returns-in-EndOf-clause-left c = grind (arith, elements)

pub returns-in-FrontOf-clause-right : goal.returns-in-FrontOf-clause-right
returns-in-FrontOf-clause-right c = grind (arith, elements)

pub returns-in-Before-clause-owner : goal.returns-in-Before-clause-owner
returns-in-Before-clause-owner c = grind (arith, elements)

pub returns-in-Before-clause-left : goal.returns-in-Before-clause-left
returns-in-Before-clause-left c = grind (arith, elements)

pub returns-in-After-clause-owner : goal.returns-in-After-clause-owner
returns-in-After-clause-owner c = grind (arith, elements)

pub returns-in-After-clause-right : goal.returns-in-After-clause-right
returns-in-After-clause-right c = grind (arith, elements)
