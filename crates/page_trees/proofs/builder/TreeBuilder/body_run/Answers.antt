use Rattle.std.proofs.Common.{◌∷◌, subst, sym}
use Rattle.page_trees.specs.CharacterSteps.{InsertsInBody}
use Rattle.page_trees.specs.declared.chars.Run.{Run}
use Rattle.page_trees.proofs.RunSteps.{spoiled, spoiled_limits}
use Rattle.page_trees.proofs.builder.TreeBuilder.body_run.Goals as goal

pub returns-in-Nulls-clause-rule : goal.returns-in-Nulls-clause-rule
returns-in-Nulls-clause-rule c x xs spelt =
    subst (λ (kind : Run). InsertsInBody kind (x ∷ xs) c.args.self.now c.args.self.now) (sym c.in-Nulls.is) (λ within b stands. stands)

pub returns-in-Spaces-clause-rule : goal.returns-in-Spaces-clause-rule
returns-in-Spaces-clause-rule c x xs spelt =
    subst (λ (kind : Run). InsertsInBody kind (x ∷ xs) c.args.self.now c.put_inline.new.self) (sym c.in-Spaces.is) (c.put_inline.ensures.rule x xs spelt)

pub returns-in-Letters-clause-limits : goal.returns-in-Letters-clause-limits
returns-in-Letters-clause-limits c within = c.put_inline-in-Letters.ensures.limits (spoiled_limits _ _ c.spoil_frameset.ensures.value within)

pub returns-in-Letters-clause-rule : goal.returns-in-Letters-clause-rule
returns-in-Letters-clause-rule c x xs spelt =
    subst (λ (kind : Run). InsertsInBody kind (x ∷ xs) c.args.self.now c.spoil_frameset.new.self) (sym c.in-Letters.is)
    (λ within b stands. spoiled _ _ c.spoil_frameset.ensures.value _ (c.put_inline-in-Letters.ensures.rule x xs spelt (spoiled_limits _ _ c.spoil_frameset.ensures.value within) b stands))
