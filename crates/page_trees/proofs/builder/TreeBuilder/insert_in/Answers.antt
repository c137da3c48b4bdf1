use Rattle.page_trees.specs.Sets.{local_for, space_of}
use Rattle.page_trees.proofs.DepthNoted.{noted}
use Rattle.page_trees.proofs.ElementSteps.{noted_element, noted_limits}
use Rattle.page_trees.proofs.builder.TreeBuilder.insert_in.Goals as goal

pub returns-clause-limits : goal.returns-clause-limits
returns-clause-limits c = noted_limits c.args.self.now _ _ _ _ c.keep.ensures (noted _ _ c.note_depth.ensures)

pub returns-clause-rule : goal.returns-clause-rule
returns-clause-rule c written attrs is within b stands =
    noted_element c.args.self.now _ _ _ _ (space_of c.args.ns) (local_for c.args.ns written) attrs c.keep.ensures (noted _ _ c.note_depth.ensures)
    (c.insert-inserted.ensures.rule written attrs is) within b stands
