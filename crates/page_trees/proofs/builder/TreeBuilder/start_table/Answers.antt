use Rattle.std.proofs.Common.{refl}
use Rattle.page_trees.proofs.BodyElements.{table_acts}
use Rattle.page_trees.specs.declared.name.Name.{Name}
use Rattle.page_trees.proofs.builder.TreeBuilder.start_table.Goals as goal

pub returns-clause-rule : goal.returns-clause-rule
returns-clause-rule c =
    table_acts Name.Table c.args.tag.now c.args.self.now c.end_paragraph_before_table.new.self c.insert_then.new.self c.end_paragraph_before_table.ensures.rule
    c.insert_then.ensures.limits (c.insert_then.ensures.rule refl)
