use Rattle.page_trees.proofs.DepthNoted.{noted}
use Rattle.page_trees.proofs.ElementSteps.{noted_limits}
use Rattle.page_trees.proofs.HeadPlaces.{noted_in_head}
use Rattle.page_trees.proofs.builder.TreeBuilder.insert_into_head.Goals as goal

pub returns-clause-limits : goal.returns-clause-limits
returns-clause-limits c = noted_limits c.args.self.now _ _ _ _ c.keep.ensures (noted _ _ c.note_depth.ensures)

pub returns-clause-rule : goal.returns-clause-rule
returns-clause-rule c written attrs is within b stands =
    noted_in_head c.args.self.now _ _ _ _ written attrs c.keep.ensures (noted _ _ c.note_depth.ensures) (c.insert-inserted.ensures.rule written attrs is) within b stands
