use Rattle.std.proofs.Common.{◌∙◌}
use Rattle.page_trees.proofs.StandingNames.{scope_agrees}
use Rattle.page_trees.proofs.stack.OpenElements.in_scope.Goals as goal

pub returns-clause-rule : goal.returns-clause-rule
returns-clause-rule c tree known s is = c.comes_first.ensures is ∙ scope_agrees c.args.name known c.args.scope tree c.args.self.now.elements.items s
