use Rattle.std.proofs.Common.{rules, sym, subst, ◌∙◌, ◌≡◌}
use denote.Enum.Bare.{same_false, same_true}
use Rattle.standard_trees.specs.RuleWords.{AfterAfterBody}
use Rattle.page_trees.specs.Constructs.{IsCurrentTag, Outcome}
use Rattle.page_trees.specs.contracts.name.Name.{the_type}
use Rattle.page_trees.specs.declared.builder.Next.{Next}
use Rattle.page_trees.specs.declared.name.Name.{Name}
use Rattle.page_trees.proofs.AfterBodyTags.{html_starts_again, start_goes_back}
use Rattle.page_trees.proofs.BuilderSteps.{back_in_body}
use Rattle.page_trees.proofs.builder.TreeBuilder.start_after_after_body.Goals as goal

pub returns-then-eq-clause-rule : goal.returns-then-eq-clause-rule
returns-then-eq-clause-rule c starts within b current html stands =
    let e : c.args.name ≡ Name.Html = same_true the_type (search rules) c.args.name Name.Html (sym c.eq.ensures ∙ c.if-eq.true) in
    let now = subst (λ (n : Name). IsCurrentTag n c.args.tag.now b) e current in
    html_starts_again c.args.tag.now b c.add_html_attrs.new.self c.add_html_attrs.result now starts (c.add_html_attrs.ensures.rule starts within b now html stands)

pub returns-clause-rule : goal.returns-clause-rule
returns-clause-rule c starts within b current html stands =
    subst (λ (next : Next). Outcome AfterAfterBody b c.again_in.new.self next) (sym c.again_in.ensures.next)
    (start_goes_back c.args.name c.args.tag.now b c.again_in.new.self current starts (same_false the_type c.args.name Name.Html (sym c.eq.ensures ∙ c.if-eq.false))
    (back_in_body _ _ c.again_in.ensures.mode within b stands))
