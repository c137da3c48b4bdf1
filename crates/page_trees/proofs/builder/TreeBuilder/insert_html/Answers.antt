use Rattle.page_trees.proofs.DepthNoted.{noted}
use Rattle.page_trees.proofs.ElementSteps.{noted_limits, noted_root, root_of_tag}
use Rattle.page_trees.proofs.builder.TreeBuilder.insert_html.Goals as goal

pub returns-clause-limits : goal.returns-clause-limits
returns-clause-limits c = noted_limits c.args.self.now _ _ _ _ c.keep.ensures (noted _ _ c.note_depth.ensures)

pub returns-clause-element : goal.returns-clause-element
returns-clause-element c written attrs is within b stands =
    noted_root c.args.self.now _ _ _ _ written attrs c.keep.ensures (noted _ _ c.note_depth.ensures)
    (c.insert_html-inserted.ensures.rule written attrs is) within b stands

pub returns-clause-rule : goal.returns-clause-rule
returns-clause-rule c = root_of_tag c.args.tag.now c.args.self.now _ (returns-clause-element c)
