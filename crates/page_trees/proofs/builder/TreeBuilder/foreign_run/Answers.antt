use Rattle.std.proofs.Common.{[], ◌∷◌, refl, sym, ◌∙◌, ap}
use Rattle.page_trees.specs.CharacterSteps.{is_run}
use Rattle.page_trees.specs.declared.chars.Run.{Run}
use Rattle.page_trees.proofs.RunOutcomes.{letters_in_foreign, nulls_in_foreign, spaces_in_foreign}
use Rattle.page_trees.proofs.builder.TreeBuilder.foreign_run.Goals as goal

pub returns-in-Nulls-clause-rule : goal.returns-in-Nulls-clause-rule
unfolding lib.Utf8.encode
returns-in-Nulls-clause-rule c x xs run within b token foreign begun stands =
    nulls_in_foreign _ x xs (sym (ap (λ (kind : Run). is_run kind (x ∷ xs)) c.in-Nulls.is) ∙ run.run) b token foreign begun
    (c.put_run.ensures.rule 0xfffd [] refl within b stands)

pub returns-in-Spaces-clause-rule : goal.returns-in-Spaces-clause-rule
returns-in-Spaces-clause-rule c x xs run within b token foreign begun stands =
    spaces_in_foreign _ x xs (sym (ap (λ (kind : Run). is_run kind (x ∷ xs)) c.in-Spaces.is) ∙ run.run) b token foreign begun
    (c.put_run-in-Spaces.ensures.rule x xs run.spelt within b stands)

pub returns-in-Letters-clause-rule : goal.returns-in-Letters-clause-rule
returns-in-Letters-clause-rule c x xs run within b token foreign begun stands =
    letters_in_foreign _ x xs (sym (ap (λ (kind : Run). is_run kind (x ∷ xs)) c.in-Letters.is) ∙ run.run) b token foreign begun
    (c.put_letters.ensures.rule x xs run.spelt within b stands)
