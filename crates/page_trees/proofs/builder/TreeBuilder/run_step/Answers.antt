use Rattle.std.proofs.Common.{subst, sym, ◌∙◌}
use Rattle.page_trees.specs.CharacterSteps.{RunOutcome}
use Rattle.page_trees.specs.declared.builder.Next.{Next}
use Rattle.page_trees.proofs.CharactersBehind.{is_false, is_true}
use Rattle.page_trees.proofs.RunOutcomes.{covered_begun}
use Rattle.page_trees.proofs.builder.TreeBuilder.run_step.Goals as goal

pub returns-then-is_run_foreign : goal.returns-then-is_run_foreign
returns-then-is_run_foreign c x xs run within b token covered stands =
    subst (λ (n : Next). RunOutcome c.args.kind x xs b c.foreign_run.new.self n) (sym c.foreign_run.ensures.next)
    (c.foreign_run.ensures.rule x xs run within b token (is_false _ (sym (c.is_run_foreign.ensures b.tree stands.tree) ∙ c.if-is_run_foreign.true)) (covered_begun b covered) stands)

pub returns : goal.returns
returns c x xs run within b token covered stands =
    c.run_in_mode.ensures x xs run within b token (is_true _ (sym (c.is_run_foreign.ensures b.tree stands.tree) ∙ c.if-is_run_foreign.false)) covered stands
