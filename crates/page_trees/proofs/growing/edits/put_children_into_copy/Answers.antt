use Rattle.page_trees.proofs.MadeNodes.{copy_takes_children}
use Rattle.page_trees.proofs.StandingEdits.{inside_changes, inside_next}
use Rattle.page_trees.proofs.Ways.{copy_goes_back, grows_inside, is_inside}
use Rattle.page_trees.proofs.growing.edits.put_children_into_copy.Goals as goal

pub reparent-requires : goal.reparent-requires
reparent-requires c = copy_takes_children _ _ _ _ c.in_ok-copy.ensures.forest c.requires.parent c.in_ok-copy.ensures.ok

pub move_to-requires : goal.move_to-requires
move_to-requires c = copy_goes_back _ _ _ _ _ c.in_ok-copy.ensures.forest c.requires.parent c.in_ok-copy.ensures.ok c.reparent.ensures

pub returns-clause-grows : goal.returns-clause-grows
returns-clause-grows c =
    grows_inside _ _ _ _ _ _ c.in_ok-copy.ensures.forest c.is_forest.ensures c.requires.parent c.in_ok-copy.ensures.ok c.reparent.ensures c.move_to.ensures

pub returns-clause-element : goal.returns-clause-element
returns-clause-element c =
    is_inside _ _ _ _ _ _ c.in_ok-copy.ensures.forest c.is_forest.ensures c.requires.parent c.in_ok-copy.ensures.ok c.reparent.ensures c.move_to.ensures

pub returns-clause-made : goal.returns-clause-made
returns-clause-made c = inside_next _ _ _ _ c.args.element.id _ _ c.in_ok-copy.ensures.ok c.in_ok-copy.ensures.made c.reparent.ensures c.move_to.ensures

pub returns-clause-rule : goal.returns-clause-rule
returns-clause-rule c plain =
    inside_changes _ _ _ _ c.args.element.id _ _ c.in_ok-copy.ensures.forest c.in_ok-copy.ensures.ok c.in_ok-copy.ensures.made c.requires.element c.requires.parent plain c.reparent.ensures c.move_to.ensures
