use Rattle.std.proofs.Common.{arith, inl, inr}
use Rattle.page_trees.proofs.stack.OpenElements.reach.Goals as goal

pub returns-then-len-place-clause-rows : goal.returns-then-len-place-clause-rows
returns-then-len-place-clause-rows c = inl (omega (arith, c.if-len-place.true, c.len.ensures))

pub returns-clause-rows : goal.returns-clause-rows
returns-clause-rows c = inr c.cut.ensures.short
