use Rattle.std.proofs.Common.{refl, rules, sym, subst, ◌∙◌, ◌≡◌}
use denote.Enum.Bare.{same_false, same_true}
use Rattle.page_trees.specs.contracts.name.Name.{the_type}
use Rattle.page_trees.specs.Constructs.{IsCurrentTag, Outcome}
use Rattle.page_trees.specs.declared.builder.Next.{Next}
use Rattle.page_trees.specs.declared.name.Name.{Name}
use Rattle.standard_trees.specs.RuleWords.{AfterFrameset}
use Rattle.page_trees.specs.declared.builder.Mode.{Mode}
use Rattle.page_trees.proofs.BuilderSteps.{entered}
use Rattle.page_trees.proofs.FramesetTags.{end_ignored_after, html_end_after}
use Rattle.page_trees.proofs.builder.TreeBuilder.after_frameset_tag.Goals as goal

pub returns-then-is_start-clause-rule : goal.returns-then-is_start-clause-rule
returns-then-is_start-clause-rule c = c.start_after_framesets.ensures.rule AfterFrameset refl (sym c.is_start.ensures ∙ c.if-is_start.true)

pub returns-then-eq-clause-rule : goal.returns-then-eq-clause-rule
returns-then-eq-clause-rule c within b current html stands =
    let e : c.args.name ≡ Name.Html = same_true the_type (search rules) c.args.name Name.Html (sym c.eq.ensures ∙ c.if-eq.true) in
    let now = subst (λ (n : Name). IsCurrentTag n c.args.tag.now b) e current in
    subst (λ (next : Next). Outcome AfterFrameset b c.done_in.new.self next) (sym c.done_in.ensures.next)
    (html_end_after c.args.tag.now b c.done_in.new.self now (sym c.is_start.ensures ∙ c.if-is_start.false) (entered _ _ Mode.AfterAfterFrameset c.done_in.ensures.mode refl b stands))

pub returns-clause-rule : goal.returns-clause-rule
returns-clause-rule c within b current html stands =
    end_ignored_after c.args.name c.args.tag.now b c.args.self.now current (sym c.is_start.ensures ∙ c.if-is_start.false)
    (same_false the_type c.args.name Name.Html (sym c.eq.ensures ∙ c.if-eq.false)) stands
