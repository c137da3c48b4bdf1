use Rattle.std.proofs.Common.{refl}
use Rattle.page_trees.specs.TableSteps.{clearing_to}
use Rattle.page_trees.specs.declared.sets.TableContext.{TableContext}
use Rattle.page_trees.proofs.TableTags.{current_kept}
use Rattle.page_trees.proofs.builder.TreeBuilder.start_row.Goals as goal

pub returns-clause-rule : goal.returns-clause-rule
returns-clause-rule c starts within b current stands =
    c.insert_then.ensures.rule refl starts within _ (current_kept (clearing_to TableContext.Section) refl c.args.name c.args.tag.now b current)
    (c.clear_stack_to.ensures.rule (c.insert_then.ensures.limits within) b stands)
