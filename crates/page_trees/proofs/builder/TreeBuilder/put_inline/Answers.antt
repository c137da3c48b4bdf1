use Rattle.std.proofs.Common.{◌∷◌}
use Rattle.page_trees.proofs.RunSteps.{inline_put}
use Rattle.page_trees.proofs.builder.TreeBuilder.put_inline.Goals as goal

pub returns-clause-limits : goal.returns-clause-limits
returns-clause-limits c within = c.reconstruct.ensures.limits (c.put_text.ensures.limits within)

pub returns-clause-rule : goal.returns-clause-rule
returns-clause-rule c x xs spelt = inline_put c.args.self.now c.reconstruct.new.self _ (x ∷ xs) c.put_text.ensures.limits c.reconstruct.ensures.rule (c.put_text.ensures.rule x xs spelt)
