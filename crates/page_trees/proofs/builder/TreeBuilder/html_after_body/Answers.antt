use Rattle.std.proofs.Common.{refl, sym, subst, ◌∙◌}
use Rattle.standard_trees.specs.RuleWords.{AfterBody}
use Rattle.page_trees.specs.Constructs.{Outcome}
use Rattle.page_trees.specs.declared.builder.Mode.{Mode}
use Rattle.page_trees.specs.declared.builder.Next.{Next}
use Rattle.page_trees.proofs.AfterBodyTags.{html_ends, html_starts, html_stays}
use Rattle.page_trees.proofs.BuilderSteps.{entered}
use Rattle.page_trees.proofs.builder.TreeBuilder.html_after_body.Goals as goal

pub returns-then-is_start-clause-rule : goal.returns-then-is_start-clause-rule
returns-then-is_start-clause-rule c within b current html stands =
    let starts = sym c.is_start.ensures ∙ c.if-is_start.true in
    html_starts c.args.tag.now b c.add_html_attrs.new.self c.add_html_attrs.result current starts (c.add_html_attrs.ensures.rule starts within b current html stands)

pub returns-then-is_fragment-clause-rule : goal.returns-then-is_fragment-clause-rule
returns-then-is_fragment-clause-rule c within b current html stands =
    html_stays c.args.tag.now b _ current (sym c.is_start.ensures ∙ c.if-is_start.false) (sym (c.is_fragment.ensures.rule b.tree stands.tree) ∙ c.if-is_fragment.true) stands

pub returns-clause-rule : goal.returns-clause-rule
returns-clause-rule c within b current html stands =
    subst (λ (next : Next). Outcome AfterBody b c.done_in.new.self next) (sym c.done_in.ensures.next)
    (html_ends c.args.tag.now b c.done_in.new.self current (sym c.is_start.ensures ∙ c.if-is_start.false) (sym (c.is_fragment.ensures.rule b.tree stands.tree) ∙ c.if-is_fragment.false)
    (entered _ _ Mode.AfterAfterBody c.done_in.ensures.mode refl b stands))
