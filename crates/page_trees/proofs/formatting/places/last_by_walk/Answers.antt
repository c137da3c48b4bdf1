use Rattle.std.proofs.Common.{sym, ◌∙◌}
use Rattle.page_trees.proofs.KeyLemmas.{key_before, key_here}
use Rattle.page_trees.proofs.formatting.places.last_by_walk.Goals as goal

pub returns-then-row-key : goal.returns-then-row-key
returns-then-row-key c = key_here c.args.key _ _ _ c.in-Some.ensures.cases.0 c.if-row-key.true ∙ c.loop-row.invariant

pub loop-row-preserved : goal.loop-row-preserved
loop-row-preserved c = key_before c.args.key _ _ _ c.in-Some.ensures.cases.0 c.if-row-key.false ∙ c.loop-row.invariant
