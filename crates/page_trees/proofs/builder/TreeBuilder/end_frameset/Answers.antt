use Rattle.std.proofs.Common.{arith, ap, ◌∙◌, length, List}
use Rattle.page_trees.proofs.BuilderSteps.{popped_one}
use Rattle.page_trees.proofs.FramesetTags.{kept_frameset, popped_frameset, single_tells}
use Rattle.page_trees.specs.declared.stack.Open.{Open}
use Rattle.page_trees.proofs.builder.TreeBuilder.end_frameset.Goals as goal

pub returns-then-len-le1-clause-rule : goal.returns-then-len-le1-clause-rule
returns-then-len-le1-clause-rule c within b html stands =
    kept_frameset c.args.self.now b ((single_tells c.args.self.now.tree b html stands.tree c.len.result (c.len.ensures ∙ ap (λ (os : List Open). length os) c.open.ensures.elements)).0 (omega (arith, c.if-len-le1.true))) stands

pub returns-clause-rule : goal.returns-clause-rule
returns-clause-rule c within b html stands =
    popped_frameset c.leave_framesets.new.self b
    ((single_tells c.args.self.now.tree b html stands.tree c.len.result (c.len.ensures ∙ ap (λ (os : List Open). length os) c.open.ensures.elements)).1 (omega (arith, c.if-len-le1.false)))
    (c.leave_framesets.ensures.rule _ (popped_one c.args.self.now c.pop.new.self c.pop.ensures b stands))
