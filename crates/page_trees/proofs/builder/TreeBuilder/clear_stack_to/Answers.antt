use Rattle.page_trees.proofs.TableRules.{table_cleared}
use Rattle.page_trees.proofs.builder.TreeBuilder.clear_stack_to.Goals as goal

pub returns-clause-rule : goal.returns-clause-rule
returns-clause-rule c within b stands = table_cleared c.args.context c.args.self.now c.clear_to.new.self c.clear_to.ensures b stands
