use Rattle.page_trees.proofs.ClosedEntries.{marked_as}
use Rattle.page_trees.proofs.builder.TreeBuilder.push_marker.Goals as goal

pub returns-clause-rule : goal.returns-clause-rule
returns-clause-rule c = marked_as c.args.self.now c.keep.new.self c.push_marker-pushed.result c.push_marker-pushed.new.self c.keep.ensures c.push_marker-pushed.ensures.rule
