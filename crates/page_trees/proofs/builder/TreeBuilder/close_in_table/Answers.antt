use Rattle.std.proofs.Common.{[], ◌∷◌}
use Rattle.page_trees.specs.Names.{text_of}
use Rattle.page_trees.proofs.TableRules.{closed_in_table}
use Rattle.page_trees.proofs.builder.TreeBuilder.close_in_table.Goals as goal

pub returns-clause-rule : goal.returns-clause-rule
returns-clause-rule c known within b stands =
    closed_in_table (text_of c.args.name ∷ []) c.args.self.now c.close.new.self c.close.result (c.close.ensures.rule known) (c.close.ensures.found known) b stands
