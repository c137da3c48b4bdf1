use Rattle.std.proofs.Common.{refl, sym, ◌∙◌}
use Rattle.standard_trees.specs.RuleWords.{AfterAfterFrameset}
use Rattle.page_trees.proofs.FramesetTags.{end_ignored_behind_all}
use Rattle.page_trees.proofs.builder.TreeBuilder.after_after_frameset_tag.Goals as goal

pub returns-then-is_start-clause-rule : goal.returns-then-is_start-clause-rule
returns-then-is_start-clause-rule c = c.start_after_framesets.ensures.rule AfterAfterFrameset refl (sym c.is_start.ensures ∙ c.if-is_start.true)

pub returns-clause-rule : goal.returns-clause-rule
returns-clause-rule c within b current html stands =
    end_ignored_behind_all c.args.name c.args.tag.now b c.args.self.now current (sym c.is_start.ensures ∙ c.if-is_start.false) stands
