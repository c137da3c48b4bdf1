use Rattle.std.proofs.Common.{◌∷◌, refl}
use Rattle.page_trees.proofs.TableTexts.{fostering_limits, run_fostered}
use Rattle.page_trees.proofs.builder.TreeBuilder.fostered_run.Goals as goal

pub returns-clause-limits : goal.returns-clause-limits
returns-clause-limits c within = fostering_limits c.args.self.now _ _ refl (c.body_run-next.ensures.limits (fostering_limits c.body_run-next.new.self _ _ refl within))

pub returns-clause-rule : goal.returns-clause-rule
returns-clause-rule c x xs spelt = run_fostered c.args.self.now _ c.body_run-next.new.self _ c.args.kind (x ∷ xs) refl refl (c.body_run-next.ensures.rule x xs spelt)
