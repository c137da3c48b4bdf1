use Rattle.std.proofs.Common.{sym, subst, ◌∙◌}
use Rattle.standard_trees.specs.RuleWords.{AfterAfterBody}
use Rattle.page_trees.specs.Constructs.{Outcome}
use Rattle.page_trees.specs.declared.builder.Next.{Next}
use Rattle.page_trees.proofs.AfterBodyTags.{end_goes_back}
use Rattle.page_trees.proofs.BuilderSteps.{back_in_body}
use Rattle.page_trees.proofs.builder.TreeBuilder.after_after_body_tag.Goals as goal

pub returns-then-is_start-clause-rule : goal.returns-then-is_start-clause-rule
returns-then-is_start-clause-rule c = c.start_after_after_body.ensures.rule (sym c.is_start.ensures ∙ c.if-is_start.true)

pub returns-clause-rule : goal.returns-clause-rule
returns-clause-rule c within b current html stands =
    subst (λ (next : Next). Outcome AfterAfterBody b c.again_in.new.self next) (sym c.again_in.ensures.next)
    (end_goes_back c.args.name c.args.tag.now b c.again_in.new.self current (sym c.is_start.ensures ∙ c.if-is_start.false) (back_in_body _ _ c.again_in.ensures.mode within b stands))
