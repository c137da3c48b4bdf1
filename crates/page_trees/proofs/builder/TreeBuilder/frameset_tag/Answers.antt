use Rattle.std.proofs.Common.{rules, sym, subst, ◌∙◌, ◌≡◌}
use denote.Enum.Bare.{same_false, same_true}
use Rattle.page_trees.specs.contracts.name.Name.{the_type}
use Rattle.page_trees.specs.Constructs.{IsCurrentTag, Outcome}
use Rattle.page_trees.specs.declared.builder.Next.{Next}
use Rattle.page_trees.specs.declared.name.Name.{Name}
use Rattle.standard_trees.specs.RuleWords.{InFrameset}
use Rattle.page_trees.proofs.FramesetTags.{end_ignored_in_frameset, end_in_frameset}
use Rattle.page_trees.proofs.builder.TreeBuilder.frameset_tag.Goals as goal

pub returns-then-is_start-clause-rule : goal.returns-then-is_start-clause-rule
returns-then-is_start-clause-rule c = c.start_in_frameset.ensures.rule (sym c.is_start.ensures ∙ c.if-is_start.true)

pub returns-then-eq-clause-rule : goal.returns-then-eq-clause-rule
returns-then-eq-clause-rule c within b current html stands =
    let e : c.args.name ≡ Name.Frameset = same_true the_type (search rules) c.args.name Name.Frameset (sym c.eq.ensures ∙ c.if-eq.true) in
    let now = subst (λ (n : Name). IsCurrentTag n c.args.tag.now b) e current in
    subst (λ (next : Next). Outcome InFrameset b c.end_frameset.new.self next) (sym c.end_frameset.ensures.next)
    (end_in_frameset c.args.tag.now b c.end_frameset.new.self now (sym c.is_start.ensures ∙ c.if-is_start.false) (c.end_frameset.ensures.rule within b html stands))

pub returns-clause-rule : goal.returns-clause-rule
returns-clause-rule c within b current html stands =
    end_ignored_in_frameset c.args.name c.args.tag.now b c.args.self.now current (sym c.is_start.ensures ∙ c.if-is_start.false)
    (same_false the_type c.args.name Name.Frameset (sym c.eq.ensures ∙ c.if-eq.false)) stands
