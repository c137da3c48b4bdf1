use Rattle.std.proofs.Common.{rules, sym, subst, ◌∙◌, ◌≡◌}
use denote.Enum.Bare.{same_false, same_true}
use Rattle.page_trees.specs.contracts.name.Name.{the_type}
use Rattle.page_trees.specs.Constructs.{IsCurrentTag, Outcome}
use Rattle.page_trees.specs.declared.builder.Next.{Next}
use Rattle.page_trees.specs.declared.name.Name.{Name}
use Rattle.standard_trees.specs.RuleWords.{AfterHead}
use Rattle.page_trees.proofs.HeadModes.{body_implied_by_end, end_ignored_after_head, template_end_after_head}
use Rattle.page_trees.proofs.builder.TreeBuilder.after_head_tag.Goals as goal

pub returns-then-is_start-clause-rule : goal.returns-then-is_start-clause-rule
returns-then-is_start-clause-rule c = c.start_after_head.ensures.rule (sym c.is_start.ensures ∙ c.if-is_start.true)

pub returns-then-is_outer-clause-rule : goal.returns-then-is_outer-clause-rule
returns-then-is_outer-clause-rule c within b current html closed stands =
    subst (λ (next : Next). Outcome AfterHead b c.imply_body.new.self next) (sym c.imply_body.ensures.next)
    (body_implied_by_end c.args.name c.args.tag.now b c.imply_body.new.self current (sym c.is_start.ensures ∙ c.if-is_start.false) (sym c.is_outer.ensures ∙ c.if-is_outer.true)
    (c.imply_body.ensures.rule within b stands))

pub returns-then-eq-clause-rule : goal.returns-then-eq-clause-rule
returns-then-eq-clause-rule c within b current html closed stands =
    let e : c.args.name ≡ Name.Template = same_true the_type (search rules) c.args.name Name.Template (sym c.eq.ensures ∙ c.if-eq.true) in
    let now = subst (λ (n : Name). IsCurrentTag n c.args.tag.now b) e current in
    let ends = sym c.is_start.ensures ∙ c.if-is_start.false in
    template_end_after_head c.args.tag.now b c.end_template.new.self c.end_template.result now ends (c.end_template.ensures.rule c.args.tag.now ends within b now stands)

pub returns-clause-rule : goal.returns-clause-rule
returns-clause-rule c within b current html closed stands =
    end_ignored_after_head c.args.name c.args.tag.now b c.args.self.now current (sym c.is_start.ensures ∙ c.if-is_start.false) (sym c.is_outer.ensures ∙ c.if-is_outer.false)
    (same_false the_type c.args.name Name.Template (sym c.eq.ensures ∙ c.if-eq.false)) stands
