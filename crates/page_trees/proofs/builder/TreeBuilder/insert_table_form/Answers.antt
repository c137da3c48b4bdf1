use Rattle.page_trees.proofs.BuilderSteps.{popped_one}
use Rattle.page_trees.proofs.TableTags.{form_of_tag}
use Rattle.page_trees.proofs.builder.TreeBuilder.insert_table_form.Goals as goal

pub returns-clause-rule : goal.returns-clause-rule
returns-clause-rule c starts within b current stands =
    popped_one (record c.insert.new.self { tree = c.set_form.new.self }) c.pop.new.self c.pop.ensures _
    (form_of_tag c.args.tag.now c.insert.new.self c.set_form.new.self b starts current c.set_form.ensures
    (c.insert.ensures.rule starts (record { fault = within.fault; depth = within.depth }) b current stands))
