use Rattle.std.proofs.Common.{refl, subst, sym, ◌∙◌, ◌∷◌, cond}
use Rattle.standard_trees.specs.Building.{perform}
use Rattle.standard_trees.specs.RuleWords.{InTemplate}
use Rattle.page_trees.specs.Constructs.{Constructs}
use Rattle.page_trees.proofs.builder.TreeBuilder.push_own_mode.Goals as goal

pub returns-then-is_context-clause-rule : goal.returns-then-is_context-clause-rule
unfolding perform
returns-then-is_context-clause-rule c within b stands =
    subst (λ x. Constructs c.push_template_mode.new.self (record b { template_modes = cond x (InTemplate ∷ b.template_modes) b.template_modes }))
    (sym c.if-is_context.true ∙ c.is_context.ensures refl b.tree stands.tree) (c.push_template_mode.ensures.rule refl within b stands)
