use Rattle.std.proofs.Common.{rules, sym, subst, ◌∙◌, ◌≡◌}
use denote.Enum.Bare.{same_false, same_true}
use Rattle.standard_trees.specs.RuleWords.{AfterBody}
use Rattle.page_trees.specs.Constructs.{IsCurrentTag, Outcome}
use Rattle.page_trees.specs.contracts.name.Name.{the_type}
use Rattle.page_trees.specs.declared.builder.Next.{Next}
use Rattle.page_trees.specs.declared.name.Name.{Name}
use Rattle.page_trees.proofs.AfterBodyTags.{back_in_body_by}
use Rattle.page_trees.proofs.BuilderSteps.{back_in_body}
use Rattle.page_trees.proofs.builder.TreeBuilder.after_body_tag.Goals as goal

pub returns-then-eq-clause-rule : goal.returns-then-eq-clause-rule
returns-then-eq-clause-rule c within b current html stands =
    let e : c.args.name ≡ Name.Html = same_true the_type (search rules) c.args.name Name.Html (sym c.eq.ensures ∙ c.if-eq.true) in
    c.html_after_body.ensures.rule within b (subst (λ (n : Name). IsCurrentTag n c.args.tag.now b) e current) html stands

pub returns-clause-rule : goal.returns-clause-rule
returns-clause-rule c within b current html stands =
    subst (λ (next : Next). Outcome AfterBody b c.again_in.new.self next) (sym c.again_in.ensures.next)
    (back_in_body_by c.args.name c.args.tag.now b c.again_in.new.self current (same_false the_type c.args.name Name.Html (sym c.eq.ensures ∙ c.if-eq.false))
    (back_in_body _ _ c.again_in.ensures.mode within b stands))
