use Rattle.page_trees.proofs.MadeNodes.{copy_is_new, forest_copied, new_moves}
use Rattle.page_trees.proofs.StandingEdits.{copy_changes, copy_next}
use Rattle.page_trees.proofs.Ways.{fresh_copy, grows_put}
use Rattle.page_trees.proofs.growing.edits.put_copy.Goals as goal

pub move_to-requires : goal.move_to-requires
move_to-requires c = new_moves _ _ _ _ c.in_ok-copy.ensures.forest (copy_is_new _ _ _ c.in_ok-copy.ensures.ok) c.requires.gap

pub returns-clause-grows : goal.returns-clause-grows
returns-clause-grows c =
    let copy = c.in_ok-copy.ensures.ok in
    grows_put _ _ _ _ _ c.in_ok-copy.ensures.forest (forest_copied _ _ _ c.in_ok-copy.ensures.forest copy) (copy_is_new _ _ _ copy) c.requires.gap c.move_to.ensures

pub returns-clause-element : goal.returns-clause-element
returns-clause-element c = fresh_copy _ _ _ _ _ c.in_ok-copy.ensures.forest c.in_ok-copy.ensures.ok c.requires.gap c.move_to.ensures

pub returns-clause-made : goal.returns-clause-made
returns-clause-made c = copy_next _ _ _ c.args.element.id _ _ c.in_ok-copy.ensures.ok c.in_ok-copy.ensures.made c.move_to.ensures

pub returns-clause-rule : goal.returns-clause-rule
returns-clause-rule c =
    copy_changes _ _ _ c.args.element.id _ _ c.in_ok-copy.ensures.forest c.in_ok-copy.ensures.ok c.in_ok-copy.ensures.made c.requires.element c.requires.gap c.move_to.ensures
