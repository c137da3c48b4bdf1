use Rattle.std.proofs.Common.{refl}
use Rattle.page_trees.proofs.BuilderSteps.{popped_one}
use Rattle.page_trees.proofs.ClosedEntries.{no_frameset}
use Rattle.page_trees.proofs.builder.TreeBuilder.end_br.Goals as goal

pub returns-clause-rule : goal.returns-clause-rule
returns-clause-rule c within b stands =
    let before = c.insert_implied.ensures.limits (record { fault = within.fault; depth = within.depth }) in
    no_frameset (record c.insert_implied.new.self { tree = c.pop.new.self }) _ (popped_one c.insert_implied.new.self c.pop.new.self c.pop.ensures _
    (c.insert_implied.ensures.rule refl (record { fault = within.fault; depth = within.depth }) _ (c.reconstruct.ensures.rule (record { fault = before.fault; depth = before.depth }) b stands)))
