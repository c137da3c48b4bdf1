use Rattle.std.proofs.Common.{refl, sym, subst, ◌∙◌}
use Rattle.page_trees.specs.Constructs.{IsCurrentTag, Outcome}
use Rattle.page_trees.specs.declared.builder.Next.{Next}
use Rattle.page_trees.specs.declared.name.Name.{Name}
use Rattle.standard_trees.specs.RuleWords.{InHeadNoscript}
use Rattle.page_trees.proofs.HeadModes.{noscript_end_ignored, noscript_ended, noscript_left_by_br}
use Rattle.page_trees.proofs.builder.TreeBuilder.noscript_tag.Goals as goal

pub returns-then-is_start-clause-rule : goal.returns-then-is_start-clause-rule
returns-then-is_start-clause-rule c = c.start_in_noscript.ensures.rule (sym c.is_start.ensures ∙ c.if-is_start.true)

pub returns-in-Noscript-clause-rule : goal.returns-in-Noscript-clause-rule
returns-in-Noscript-clause-rule c within b current html stands =
    let now = subst (λ (n : Name). IsCurrentTag n c.args.tag.now b) c.in-Noscript.is current in
    subst (λ (next : Next). Outcome InHeadNoscript b c.end_in_mode.new.self next) (sym c.end_in_mode.ensures.next)
    (noscript_ended c.args.tag.now b c.end_in_mode.new.self now (sym c.is_start.ensures ∙ c.if-is_start.false) (c.end_in_mode.ensures.rule refl within b stands))

pub returns-in-Br-clause-rule : goal.returns-in-Br-clause-rule
returns-in-Br-clause-rule c within b current html stands =
    let now = subst (λ (n : Name). IsCurrentTag n c.args.tag.now b) c.in-Br.is current in
    subst (λ (next : Next). Outcome InHeadNoscript b c.leave_for.new.self next) (sym c.leave_for.ensures.next)
    (noscript_left_by_br c.args.tag.now b c.leave_for.new.self now (sym c.is_start.ensures ∙ c.if-is_start.false) (c.leave_for.ensures.rule refl within b stands))

pub returns-in_default-clause-rule : goal.returns-in_default-clause-rule
returns-in_default-clause-rule c within b current html stands =
    noscript_end_ignored c.args.name c.args.tag.now b c.args.self.now current (sym c.is_start.ensures ∙ c.if-is_start.false)
    c.in_default.not-Noscript c.in_default.not-Br stands
