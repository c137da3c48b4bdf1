use Rattle.std.proofs.Common.{refl}
use Rattle.page_trees.proofs.BuilderSteps.{entered, same_limits}
use Rattle.page_trees.proofs.ElementSteps.{head_of_tag}
use Rattle.page_trees.specs.declared.builder.Mode.{Mode}
use Rattle.page_trees.proofs.builder.TreeBuilder.start_head.Goals as goal

pub returns-clause-rule : goal.returns-clause-rule
returns-clause-rule c starts within b current stands =
    let before = same_limits (record c.insert.new.self { tree = c.set_head.new.self }) _ Mode.InHead c.done_in.ensures.mode within in
    entered (record c.insert.new.self { tree = c.set_head.new.self }) _ Mode.InHead c.done_in.ensures.mode refl _ (head_of_tag c.args.tag.now c.insert.new.self c.set_head.new.self b starts current c.set_head.ensures
    (c.insert.ensures.rule starts (record { fault = before.fault; depth = before.depth }) b current stands))
