use Rattle.std.proofs.Common.{refl, sym, subst, ◌∙◌}
use Rattle.page_trees.specs.Constructs.{IsCurrentTag, Outcome}
use Rattle.page_trees.specs.declared.builder.Next.{Next}
use Rattle.page_trees.specs.declared.name.Name.{Name}
use Rattle.standard_trees.specs.RuleWords.{InHeadNoscript}
use Rattle.page_trees.proofs.HeadModes.{element_in_noscript, html_in_noscript, ignored_in_noscript, noscript_left, of_metadata}
use Rattle.page_trees.proofs.builder.TreeBuilder.start_in_noscript.Goals as goal

pub returns-then-is_in_noscript-clause-rule : goal.returns-then-is_in_noscript-clause-rule
returns-then-is_in_noscript-clause-rule c starts within b current html stands =
    let known = sym c.is_in_noscript.ensures ∙ c.if-is_in_noscript.true in
    element_in_noscript c.args.name c.args.tag.now b c.head_element.new.self c.head_element.result current starts known
    (c.head_element.ensures.rule (of_metadata c.args.name known) starts within b current stands)

pub returns-in-Html-clause-rule : goal.returns-in-Html-clause-rule
returns-in-Html-clause-rule c starts within b current html stands =
    let now = subst (λ (n : Name). IsCurrentTag n c.args.tag.now b) c.in-Html.is current in
    html_in_noscript c.args.tag.now b c.add_html_attrs.new.self c.add_html_attrs.result now starts (c.add_html_attrs.ensures.rule starts within b now html stands)

pub returns-in-Head-clause-rule : goal.returns-in-Head-clause-rule
returns-in-Head-clause-rule c starts within b current html stands = ignored_in_noscript c.args.name c.args.tag.now b c.args.self.now current starts c.in-Head.is stands

pub returns-in_default-clause-rule : goal.returns-in_default-clause-rule
returns-in_default-clause-rule c starts within b current html stands =
    subst (λ (next : Next). Outcome InHeadNoscript b c.leave_for.new.self next) (sym c.leave_for.ensures.next)
    (noscript_left c.args.name c.args.tag.now b c.leave_for.new.self current starts (sym c.is_in_noscript.ensures ∙ c.if-is_in_noscript.false)
    c.in_default.not-Html c.in_default.not-Head c.in_default.not-Noscript (c.leave_for.ensures.rule refl within b stands))
