use Rattle.page_trees.proofs.BuilderSteps.{popped_one}
use Rattle.page_trees.proofs.builder.TreeBuilder.insert_void.Goals as goal

pub returns-clause-rule : goal.returns-clause-rule
returns-clause-rule c starts within b current stands =
    popped_one c.insert.new.self c.pop.new.self c.pop.ensures _
    (c.insert.ensures.rule starts (record { fault = within.fault; depth = within.depth }) b current stands)
