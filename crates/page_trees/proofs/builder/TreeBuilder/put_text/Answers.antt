use Rattle.std.proofs.Common.{◌∷◌}
use Rattle.page_trees.proofs.RunSteps.{chars_put}
use Rattle.page_trees.proofs.TokenStates.{edit_limits}
use Rattle.page_trees.proofs.builder.TreeBuilder.put_text.Goals as goal

pub returns-clause-limits : goal.returns-clause-limits
returns-clause-limits c = edit_limits c.args.self.now _ _ _ c.keep.ensures

pub returns-clause-rule : goal.returns-clause-rule
returns-clause-rule c x xs spelt within b stands =
    chars_put c.args.self.now _ _ _ (x ∷ xs) c.keep.ensures (λ in_head. c.put_text-put.ensures.rule x xs in_head spelt) within b stands
