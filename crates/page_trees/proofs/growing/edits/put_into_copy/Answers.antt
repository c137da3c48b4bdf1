use Rattle.page_trees.proofs.MadeNodes.{copy_takes}
use Rattle.page_trees.proofs.StandingEdits.{around_changes, around_next}
use Rattle.page_trees.proofs.Ways.{grows_around, is_around}
use Rattle.page_trees.proofs.growing.edits.put_into_copy.Goals as goal

pub move_to-requires : goal.move_to-requires
move_to-requires c = copy_takes _ _ _ _ c.in_ok-copy.ensures.forest c.requires.rooted c.requires.moved c.in_ok-copy.ensures.ok

pub returns-clause-grows : goal.returns-clause-grows
returns-clause-grows c = grows_around _ _ _ _ _ c.in_ok-copy.ensures.forest c.requires.moved c.in_ok-copy.ensures.ok c.move_to.ensures

pub returns-clause-element : goal.returns-clause-element
returns-clause-element c = is_around _ _ _ _ _ c.in_ok-copy.ensures.forest c.requires.moved c.in_ok-copy.ensures.ok c.move_to.ensures

pub returns-clause-made : goal.returns-clause-made
returns-clause-made c = around_next _ _ _ c.args.element.id _ _ c.in_ok-copy.ensures.ok c.in_ok-copy.ensures.made c.move_to.ensures

pub returns-clause-rule : goal.returns-clause-rule
returns-clause-rule c =
    around_changes _ _ _ c.args.element.id _ _ c.in_ok-copy.ensures.forest c.in_ok-copy.ensures.ok c.in_ok-copy.ensures.made c.requires.element c.requires.moved c.move_to.ensures
