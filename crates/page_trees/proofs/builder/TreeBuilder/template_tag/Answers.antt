use Rattle.std.proofs.Common.{rules, sym, subst, ◌∙◌, ◌≡◌}
use denote.Enum.Bare.{same_false, same_true}
use Rattle.page_trees.specs.contracts.name.Name.{the_type}
use Rattle.page_trees.specs.Constructs.{IsCurrentTag}
use Rattle.page_trees.specs.declared.name.Name.{Name}
use Rattle.page_trees.proofs.HeadModes.{end_ignored_in_template, template_ended}
use Rattle.page_trees.proofs.builder.TreeBuilder.template_tag.Goals as goal

pub returns-then-is_start-clause-rule : goal.returns-then-is_start-clause-rule
returns-then-is_start-clause-rule c = c.start_in_template.ensures.rule (sym c.is_start.ensures ∙ c.if-is_start.true)

pub returns-then-eq-clause-rule : goal.returns-then-eq-clause-rule
returns-then-eq-clause-rule c within b current stands =
    let e : c.args.name ≡ Name.Template = same_true the_type (search rules) c.args.name Name.Template (sym c.eq.ensures ∙ c.if-eq.true) in
    let now = subst (λ (n : Name). IsCurrentTag n c.args.tag.now b) e current in
    let ends = sym c.is_start.ensures ∙ c.if-is_start.false in
    template_ended c.args.tag.now b c.end_template.new.self c.end_template.result now ends (c.end_template.ensures.rule c.args.tag.now ends within b now stands)

pub returns-clause-rule : goal.returns-clause-rule
returns-clause-rule c within b current stands =
    end_ignored_in_template c.args.name c.args.tag.now b c.args.self.now current (sym c.is_start.ensures ∙ c.if-is_start.false)
    (same_false the_type c.args.name Name.Template (sym c.eq.ensures ∙ c.if-eq.false)) stands
