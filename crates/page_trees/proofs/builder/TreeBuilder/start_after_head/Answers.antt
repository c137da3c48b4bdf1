use Rattle.std.proofs.Common.{refl, sym, subst, ◌∙◌}
use Rattle.page_trees.specs.Constructs.{IsCurrentTag, Outcome}
use Rattle.page_trees.specs.declared.builder.Next.{Next}
use Rattle.page_trees.specs.declared.name.Name.{Name}
use Rattle.standard_trees.specs.RuleWords.{AfterHead}
use Rattle.page_trees.proofs.HeadModes.{body_implied, frameset_opened, head_after_head, html_after_head}
use Rattle.page_trees.proofs.builder.TreeBuilder.start_after_head.Goals as goal

pub returns-then-is_metadata-clause-rule : goal.returns-then-is_metadata-clause-rule
returns-then-is_metadata-clause-rule c starts within b current html closed stands =
    c.in_head_again.ensures.rule (sym c.is_metadata.ensures ∙ c.if-is_metadata.true) starts within b current html closed stands

pub returns-in-Html-clause-rule : goal.returns-in-Html-clause-rule
returns-in-Html-clause-rule c starts within b current html closed stands =
    let now = subst (λ (n : Name). IsCurrentTag n c.args.tag.now b) c.in-Html.is current in
    html_after_head c.args.tag.now b c.add_html_attrs.new.self c.add_html_attrs.result now starts (c.add_html_attrs.ensures.rule starts within b now html stands)

pub returns-in-Body-clause-rule : goal.returns-in-Body-clause-rule
returns-in-Body-clause-rule c starts within b current html closed stands =
    c.start_body_after_head.ensures.rule starts within b (subst (λ (n : Name). IsCurrentTag n c.args.tag.now b) c.in-Body.is current) stands

pub returns-in-Frameset-clause-rule : goal.returns-in-Frameset-clause-rule
returns-in-Frameset-clause-rule c starts within b current html closed stands =
    let now = subst (λ (n : Name). IsCurrentTag n c.args.tag.now b) c.in-Frameset.is current in
    subst (λ (next : Next). Outcome AfterHead b c.insert_then.new.self next) (sym c.insert_then.ensures.next)
    (frameset_opened c.args.tag.now b c.insert_then.new.self now starts (c.insert_then.ensures.rule refl starts within b current stands))

pub returns-in-Head-clause-rule : goal.returns-in-Head-clause-rule
returns-in-Head-clause-rule c starts within b current html closed stands =
    let now = subst (λ (n : Name). IsCurrentTag n c.args.tag.now b) c.in-Head.is current in
    head_after_head c.args.tag.now b c.args.self.now now starts stands

pub returns-in_default-clause-rule : goal.returns-in_default-clause-rule
returns-in_default-clause-rule c starts within b current html closed stands =
    subst (λ (next : Next). Outcome AfterHead b c.imply_body.new.self next) (sym c.imply_body.ensures.next)
    (body_implied c.args.name c.args.tag.now b c.imply_body.new.self current starts (sym c.is_metadata.ensures ∙ c.if-is_metadata.false)
    c.in_default.not-Html c.in_default.not-Body c.in_default.not-Frameset c.in_default.not-Head (c.imply_body.ensures.rule within b stands))
