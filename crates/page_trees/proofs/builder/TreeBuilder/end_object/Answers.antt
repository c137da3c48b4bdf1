use Rattle.std.proofs.Common.{[], ◌∷◌}
use Rattle.page_trees.specs.Names.{text_of}
use Rattle.page_trees.proofs.ObjectEnds.{object_cleared, object_kept}
use Rattle.page_trees.proofs.builder.TreeBuilder.end_object.Goals as goal

pub returns-then-close-clause-rule : goal.returns-then-close-clause-rule
returns-then-close-clause-rule c known =
    object_cleared c.args.self.now c.close.new.self c.clear_to_marker.new.self (text_of c.args.name ∷ []) c.close.result c.if-close.true (c.close.ensures.rule known)
    (c.close.ensures.found known) c.clear_to_marker.ensures.rule

pub returns-else-close-clause-rule : goal.returns-else-close-clause-rule
returns-else-close-clause-rule c known =
    object_kept c.args.self.now c.close.new.self (text_of c.args.name ∷ []) c.close.result c.if-close.false (c.close.ensures.rule known) (c.close.ensures.found known)
