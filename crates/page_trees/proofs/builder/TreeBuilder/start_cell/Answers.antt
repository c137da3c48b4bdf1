use Rattle.std.proofs.Common.{refl}
use Rattle.page_trees.specs.TableSteps.{clearing_to}
use Rattle.page_trees.specs.declared.sets.TableContext.{TableContext}
use Rattle.page_trees.proofs.TableTags.{current_kept}
use Rattle.page_trees.proofs.builder.TreeBuilder.start_cell.Goals as goal

pub returns-clause-rule : goal.returns-clause-rule
returns-clause-rule c starts within b current stands =
    let before = c.push_marker.ensures.limits (record { fault = within.fault; depth = within.depth }) in
    c.push_marker.ensures.rule (record { fault = within.fault; depth = within.depth }) _
    (c.insert_then.ensures.rule refl starts before _ (current_kept (clearing_to TableContext.Row) refl c.args.name c.args.tag.now b current)
    (c.clear_stack_to.ensures.rule (c.insert_then.ensures.limits before) b stands))
