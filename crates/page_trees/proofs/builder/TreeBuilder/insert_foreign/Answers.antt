use Rattle.page_trees.proofs.ForeignSteps.{closed_element}
use Rattle.page_trees.proofs.builder.TreeBuilder.insert_foreign.Goals as goal

pub returns-then-tag-clause-rule : goal.returns-then-tag-clause-rule
returns-then-tag-clause-rule c written attrs is within b stands =
    closed_element c.insert_in.new.self c.pop.new.self c.args.tag.now.self_closing b _ c.if-tag.true c.pop.ensures
    (c.insert_in.ensures.rule written attrs is (record { fault = within.fault; depth = within.depth }) b stands)
