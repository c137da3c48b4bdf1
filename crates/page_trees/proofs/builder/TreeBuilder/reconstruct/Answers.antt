use Rattle.page_trees.proofs.ClosedEntries.{reconstructed_as}
use Rattle.page_trees.proofs.DepthNoted.{noted}
use Rattle.page_trees.proofs.ElementSteps.{noted_limits}
use Rattle.page_trees.proofs.builder.TreeBuilder.reconstruct.Goals as goal

pub returns-clause-limits : goal.returns-clause-limits
returns-clause-limits c = noted_limits c.args.self.now c.keep.new.self c.note_depth.new.self c.reconstruct-opened.result c.reconstruct-opened.new.self c.keep.ensures (noted _ _ c.note_depth.ensures)

pub returns-clause-rule : goal.returns-clause-rule
returns-clause-rule c =
    reconstructed_as c.args.self.now c.keep.new.self c.note_depth.new.self c.reconstruct-opened.result c.reconstruct-opened.new.self c.keep.ensures
    (noted _ _ c.note_depth.ensures) c.reconstruct-opened.ensures
