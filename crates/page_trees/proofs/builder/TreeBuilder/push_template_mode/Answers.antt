use Rattle.std.proofs.Common.{refl, rules, sym, ap, ◌∙◌}
use Rattle.page_trees.specs.declared.builder.TreeBuilder.{TreeBuilder}
use Rattle.page_trees.proofs.BuilderSteps.{was_ok}
use Rattle.page_trees.proofs.HeadEdits.{mode_pushed}
use Rattle.page_trees.proofs.builder.TreeBuilder.push_template_mode.Goals as goal

pub returns-in-Ok-clause-rule : goal.returns-in-Ok-clause-rule
returns-in-Ok-clause-rule c plain within b stands = mode_pushed c.args.self.now _ c.args.mode refl (search rules) plain b stands

pub returns-in-Err-clause-rule : goal.returns-in-Err-clause-rule
returns-in-Err-clause-rule c plain within b stands = was_ok c.args.self.now.fault _ _ (sym (ap (λ (s : TreeBuilder). s.fault) c.keep.ensures) ∙ within.fault) tt
