use Rattle.std.proofs.Common.{refl}
use Rattle.page_trees.proofs.HeadEdits.{template_popped}
use Rattle.page_trees.proofs.builder.TreeBuilder.leave_template.Goals as goal

pub returns-clause-rule : goal.returns-clause-rule
returns-clause-rule c within b stands =
    c.reset_mode.ensures.rule within _ (c.pop_template_mode.ensures.rule (c.reset_mode.ensures.limits within) _
    (template_popped c.args.self.now c.pop_to.new.self c.clear_to_marker.new.self (c.pop_to.ensures refl) c.clear_to_marker.ensures.rule b stands))
