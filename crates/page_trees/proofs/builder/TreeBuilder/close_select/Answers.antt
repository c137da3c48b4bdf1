use Rattle.std.proofs.Common.{[], codes, refl, ◌∷◌}
use Rattle.standard_trees.specs.RuleWords.{Scope as DefaultScope}
use Rattle.page_trees.proofs.BodyEnds.{closing_step}
use Rattle.page_trees.proofs.builder.TreeBuilder.close_select.Goals as goal

pub returns-clause-found : goal.returns-clause-found
returns-clause-found c = c.close.ensures.found refl

pub returns-clause-rule : goal.returns-clause-rule
returns-clause-rule c = closing_step c.args.self.now c.close.new.self DefaultScope (codes "select" ∷ []) (c.close.ensures.rule refl)
