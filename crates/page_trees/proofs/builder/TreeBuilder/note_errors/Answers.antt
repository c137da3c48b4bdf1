use Rattle.std.proofs.Common.{refl, subst, ◌∙◌}
use Rattle.page_trees.specs.Constructs.{WithinLimits}
use Rattle.page_trees.proofs.BuilderSteps.{kept_limits, kept_same}
use Rattle.page_trees.proofs.builder.TreeBuilder.note_errors.Goals as goal

pub loop-offset-init : goal.loop-offset-init
loop-offset-init c = record { limits = λ within. within; same = λ within. refl }

pub loop-offset-preserved : goal.loop-offset-preserved
loop-offset-preserved c = record {
  limits = λ within. c.loop-offset.invariant.limits (subst WithinLimits c.note_error-noted.ensures (kept_limits _ _ _ c.keep.ensures within));
  same = λ within. kept_same _ _ _ c.keep.ensures within ∙ c.note_error-noted.ensures
      ∙ c.loop-offset.invariant.same (subst WithinLimits c.note_error-noted.ensures (kept_limits _ _ _ c.keep.ensures within));
}
