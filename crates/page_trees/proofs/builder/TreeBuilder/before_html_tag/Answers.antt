use Rattle.std.proofs.Common.{rules, refl, sym, subst, ◌∙◌, ◌≡◌}
use denote.Enum.Bare.{same_false, same_true}
use Rattle.standard_trees.specs.RuleWords.{BeforeHtml}
use Rattle.page_trees.specs.Constructs.{IsCurrentTag, Outcome}
use Rattle.page_trees.specs.contracts.name.Name.{the_type}
use Rattle.page_trees.specs.declared.builder.Mode.{Mode}
use Rattle.page_trees.specs.declared.builder.Next.{Next}
use Rattle.page_trees.specs.declared.name.Name.{Name}
use Rattle.page_trees.proofs.BuilderSteps.{entered, same_limits}
use Rattle.page_trees.proofs.ModeOutcomes.{end_before_html, root_from_html, root_implied, root_implied_by_end}
use Rattle.page_trees.proofs.builder.TreeBuilder.before_html_tag.Goals as goal

pub returns-then-eq-clause-rule : goal.returns-then-eq-clause-rule
returns-then-eq-clause-rule c within b current stands =
    let e : c.args.name ≡ Name.Html = same_true the_type (search rules) c.args.name Name.Html (sym c.eq.ensures ∙ c.if-eq.true) in
    let now = subst (λ (n : Name). IsCurrentTag n c.args.tag.now b) e current in
    let starts = sym c.is_start.ensures ∙ c.if-is_start.true in
    subst (λ (next : Next). Outcome BeforeHtml b c.done_in.new.self next) (sym c.done_in.ensures.next)
    (root_from_html c.args.tag.now b c.done_in.new.self now starts (entered _ _ Mode.BeforeHead c.done_in.ensures.mode refl _
    (c.insert_html.ensures.rule starts (same_limits _ _ _ c.done_in.ensures.mode within) b now stands)))

pub returns-then-is_start-clause-rule : goal.returns-then-is_start-clause-rule
returns-then-is_start-clause-rule c within b current stands =
    subst (λ (next : Next). Outcome BeforeHtml b c.imply_html.new.self next) (sym c.imply_html.ensures.next)
    (root_implied c.args.name c.args.tag.now b c.imply_html.new.self current (sym c.is_start.ensures ∙ c.if-is_start.true)
    (same_false the_type c.args.name Name.Html (sym c.eq.ensures ∙ c.if-eq.false)) (c.imply_html.ensures.rule within b stands))

pub returns-then-is_early_end-clause-rule : goal.returns-then-is_early_end-clause-rule
returns-then-is_early_end-clause-rule c within b current stands =
    subst (λ (next : Next). Outcome BeforeHtml b c.imply_html-then-is_early_end.new.self next) (sym c.imply_html-then-is_early_end.ensures.next)
    (root_implied_by_end c.args.name c.args.tag.now b c.imply_html-then-is_early_end.new.self current (sym c.is_start.ensures ∙ c.if-is_start.false)
    (sym c.is_early_end.ensures ∙ c.if-is_early_end.true) (c.imply_html-then-is_early_end.ensures.rule within b stands))

pub returns-clause-rule : goal.returns-clause-rule
returns-clause-rule c within b current stands =
    end_before_html c.args.name c.args.tag.now b c.args.self.now current (sym c.is_start.ensures ∙ c.if-is_start.false)
    (sym c.is_early_end.ensures ∙ c.if-is_early_end.false) stands
