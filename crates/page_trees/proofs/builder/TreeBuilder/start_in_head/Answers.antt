use Rattle.std.proofs.Common.{refl, sym, subst, ◌∙◌}
use Rattle.page_trees.specs.Constructs.{IsCurrentTag, Outcome}
use Rattle.page_trees.specs.declared.builder.Next.{Next}
use Rattle.page_trees.specs.declared.name.Name.{Name}
use Rattle.standard_trees.specs.RuleWords.{InHead}
use Rattle.page_trees.proofs.HeadModes.{head_ignored, head_left, html_in_head}
use Rattle.page_trees.proofs.builder.TreeBuilder.start_in_head.Goals as goal

pub returns-then-is_metadata-clause-rule : goal.returns-then-is_metadata-clause-rule
returns-then-is_metadata-clause-rule c starts within b current html stands =
    c.head_element.ensures.rule (sym c.is_metadata.ensures ∙ c.if-is_metadata.true) starts within b current stands

pub returns-in-Html-clause-rule : goal.returns-in-Html-clause-rule
returns-in-Html-clause-rule c starts within b current html stands =
    let now = subst (λ (n : Name). IsCurrentTag n c.args.tag.now b) c.in-Html.is current in
    html_in_head c.args.tag.now b c.add_html_attrs.new.self c.add_html_attrs.result now starts (c.add_html_attrs.ensures.rule starts within b now html stands)

pub returns-in-Noscript-clause-rule : goal.returns-in-Noscript-clause-rule
returns-in-Noscript-clause-rule c starts within b current html stands =
    let now = subst (λ (n : Name). IsCurrentTag n c.args.tag.now b) c.in-Noscript.is current in
    c.start_head_noscript.ensures.rule starts within b now stands

pub returns-in-Head-clause-rule : goal.returns-in-Head-clause-rule
returns-in-Head-clause-rule c starts within b current html stands =
    let now = subst (λ (n : Name). IsCurrentTag n c.args.tag.now b) c.in-Head.is current in
    head_ignored c.args.tag.now b c.args.self.now now starts stands

pub returns-in_default-clause-rule : goal.returns-in_default-clause-rule
returns-in_default-clause-rule c starts within b current html stands =
    subst (λ (next : Next). Outcome InHead b c.leave_for.new.self next) (sym c.leave_for.ensures.next)
    (head_left c.args.name c.args.tag.now b c.leave_for.new.self current starts (sym c.is_metadata.ensures ∙ c.if-is_metadata.false)
    c.in_default.not-Html c.in_default.not-Noscript c.in_default.not-Head (c.leave_for.ensures.rule refl within b stands))
