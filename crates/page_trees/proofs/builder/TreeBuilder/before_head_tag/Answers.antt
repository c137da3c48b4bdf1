use Rattle.std.proofs.Common.{rules, sym, subst, ◌∙◌, ◌≡◌}
use denote.Enum.Bare.{same_false, same_true}
use Rattle.standard_trees.specs.RuleWords.{BeforeHead}
use Rattle.page_trees.specs.Constructs.{IsCurrentTag, Outcome}
use Rattle.page_trees.specs.contracts.name.Name.{the_type}
use Rattle.page_trees.specs.declared.builder.Next.{Next}
use Rattle.page_trees.specs.declared.name.Name.{Name}
use Rattle.page_trees.proofs.ModeOutcomes.{end_before_head, head_implied, head_implied_by_end, head_opened, html_before_head}
use Rattle.page_trees.proofs.builder.TreeBuilder.before_head_tag.Goals as goal

pub returns-then-eq-clause-rule : goal.returns-then-eq-clause-rule
returns-then-eq-clause-rule c within b current html stands =
    let e : c.args.name ≡ Name.Html = same_true the_type (search rules) c.args.name Name.Html (sym c.eq.ensures ∙ c.if-eq.true) in
    let now = subst (λ (n : Name). IsCurrentTag n c.args.tag.now b) e current in
    let starts = sym c.is_start.ensures ∙ c.if-is_start.true in
    html_before_head c.args.tag.now b c.add_html_attrs.new.self c.add_html_attrs.result now starts (c.add_html_attrs.ensures.rule starts within b now html stands)

pub returns-then-eq-2-clause-rule : goal.returns-then-eq-2-clause-rule
returns-then-eq-2-clause-rule c within b current html stands =
    let e : c.args.name ≡ Name.Head = same_true the_type (search rules) c.args.name Name.Head (sym c.eq-then-is_start.ensures ∙ c.if-eq-2.true) in
    let now = subst (λ (n : Name). IsCurrentTag n c.args.tag.now b) e current in
    let starts = sym c.is_start.ensures ∙ c.if-is_start.true in
    subst (λ (next : Next). Outcome BeforeHead b c.start_head.new.self next) (sym c.start_head.ensures.next)
    (head_opened c.args.tag.now b c.start_head.new.self now starts (c.start_head.ensures.rule starts within b now stands))

pub returns-then-is_start-clause-rule : goal.returns-then-is_start-clause-rule
returns-then-is_start-clause-rule c within b current html stands =
    subst (λ (next : Next). Outcome BeforeHead b c.imply_head.new.self next) (sym c.imply_head.ensures.next)
    (head_implied c.args.name c.args.tag.now b c.imply_head.new.self current (sym c.is_start.ensures ∙ c.if-is_start.true)
    (same_false the_type c.args.name Name.Html (sym c.eq.ensures ∙ c.if-eq.false)) (same_false the_type c.args.name Name.Head (sym c.eq-then-is_start.ensures ∙ c.if-eq-2.false))
    (c.imply_head.ensures.rule within b stands))

pub returns-then-is_early_end-clause-rule : goal.returns-then-is_early_end-clause-rule
returns-then-is_early_end-clause-rule c within b current html stands =
    subst (λ (next : Next). Outcome BeforeHead b c.imply_head-then-is_early_end.new.self next) (sym c.imply_head-then-is_early_end.ensures.next)
    (head_implied_by_end c.args.name c.args.tag.now b c.imply_head-then-is_early_end.new.self current (sym c.is_start.ensures ∙ c.if-is_start.false)
    (sym c.is_early_end.ensures ∙ c.if-is_early_end.true) (c.imply_head-then-is_early_end.ensures.rule within b stands))

pub returns-clause-rule : goal.returns-clause-rule
returns-clause-rule c within b current html stands =
    end_before_head c.args.name c.args.tag.now b c.args.self.now current (sym c.is_start.ensures ∙ c.if-is_start.false)
    (sym c.is_early_end.ensures ∙ c.if-is_early_end.false) stands
