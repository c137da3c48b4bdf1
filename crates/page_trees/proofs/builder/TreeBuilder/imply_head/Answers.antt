use Rattle.std.proofs.Common.{refl}
use Rattle.page_trees.proofs.BuilderSteps.{entered, same_limits}
use Rattle.page_trees.proofs.ElementSteps.{implied_head}
use Rattle.page_trees.specs.declared.builder.Mode.{Mode}
use Rattle.page_trees.proofs.builder.TreeBuilder.imply_head.Goals as goal

pub returns-clause-rule : goal.returns-clause-rule
returns-clause-rule c within b stands =
    let before = same_limits (record c.insert_implied.new.self { tree = c.set_head.new.self }) _ Mode.InHead c.again_in.ensures.mode within in
    entered (record c.insert_implied.new.self { tree = c.set_head.new.self }) _ Mode.InHead c.again_in.ensures.mode refl _ (implied_head c.insert_implied.new.self c.set_head.new.self b c.set_head.ensures
    (c.insert_implied.ensures.rule refl (record { fault = before.fault; depth = before.depth }) b stands))
