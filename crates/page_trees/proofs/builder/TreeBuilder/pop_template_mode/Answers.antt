use Rattle.std.proofs.Common.{refl, rules}
use Rattle.page_trees.proofs.HeadEdits.{mode_popped}
use Rattle.page_trees.proofs.builder.TreeBuilder.pop_template_mode.Goals as goal

pub returns-clause-rule : goal.returns-clause-rule
returns-clause-rule c within b stands = mode_popped c.args.self.now _ c.pop.result refl (search rules) (search rules) b stands
