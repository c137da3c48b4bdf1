use Rattle.std.proofs.Common.{refl, sym, subst, ◌∙◌}
use Rattle.page_trees.specs.Constructs.{IsCurrentTag, Outcome}
use Rattle.page_trees.specs.declared.builder.Next.{Next}
use Rattle.page_trees.specs.declared.name.Name.{Name}
use Rattle.standard_trees.specs.RuleWords.{InHead}
use Rattle.page_trees.proofs.HeadModes.{head_end_ignored, head_ended, head_left_by_end}
use Rattle.page_trees.proofs.builder.TreeBuilder.head_tag.Goals as goal

pub returns-then-is_start-clause-rule : goal.returns-then-is_start-clause-rule
returns-then-is_start-clause-rule c = c.start_in_head.ensures.rule (sym c.is_start.ensures ∙ c.if-is_start.true)

pub returns-then-is_outer-clause-rule : goal.returns-then-is_outer-clause-rule
returns-then-is_outer-clause-rule c within b current html stands =
    subst (λ (next : Next). Outcome InHead b c.leave_for.new.self next) (sym c.leave_for.ensures.next)
    (head_left_by_end c.args.name c.args.tag.now b c.leave_for.new.self current (sym c.is_start.ensures ∙ c.if-is_start.false) (sym c.is_outer.ensures ∙ c.if-is_outer.true)
    (c.leave_for.ensures.rule refl within b stands))

pub returns-in-Head-clause-rule : goal.returns-in-Head-clause-rule
returns-in-Head-clause-rule c within b current html stands =
    let now = subst (λ (n : Name). IsCurrentTag n c.args.tag.now b) c.in-Head.is current in
    subst (λ (next : Next). Outcome InHead b c.end_in_mode.new.self next) (sym c.end_in_mode.ensures.next)
    (head_ended c.args.tag.now b c.end_in_mode.new.self now (sym c.is_start.ensures ∙ c.if-is_start.false) (c.end_in_mode.ensures.rule refl within b stands))

pub returns-in-Template-clause-rule : goal.returns-in-Template-clause-rule
returns-in-Template-clause-rule c within b current html stands =
    let now = subst (λ (n : Name). IsCurrentTag n c.args.tag.now b) c.in-Template.is current in
    c.end_template.ensures.rule c.args.tag.now (sym c.is_start.ensures ∙ c.if-is_start.false) within b now stands

pub returns-in_default-clause-rule : goal.returns-in_default-clause-rule
returns-in_default-clause-rule c within b current html stands =
    head_end_ignored c.args.name c.args.tag.now b c.args.self.now current (sym c.is_start.ensures ∙ c.if-is_start.false) (sym c.is_outer.ensures ∙ c.if-is_outer.false)
    c.in_default.not-Head c.in_default.not-Template stands
