use Rattle.page_trees.proofs.MadeNodes.{new_moves}
use Rattle.page_trees.proofs.StandingEdits.{put_forest}
use Rattle.page_trees.proofs.Ways.{fresh_made, grows_put}
use Rattle.page_trees.proofs.growing.edits.put_made.Goals as goal

pub move_to-requires : goal.move_to-requires
move_to-requires c = new_moves _ _ _ _ c.is_forest.ensures c.in_ok-made.ensures.ok.node c.requires

pub returns-clause-grows : goal.returns-clause-grows
returns-clause-grows c = grows_put _ _ _ _ _ c.is_forest.ensures c.is_forest-2.ensures c.in_ok-made.ensures.ok.node c.requires c.move_to.ensures

pub returns-clause-element : goal.returns-clause-element
returns-clause-element c = fresh_made _ _ _ _ _ c.is_forest.ensures c.is_forest-2.ensures c.in_ok-made.ensures.ok c.requires c.move_to.ensures

pub returns-clause-made : goal.returns-clause-made
returns-clause-made c =
    let number = c.in_ok-made.ensures.ok.node.number in
    record { number = number; forest = put_forest c.args.tree.now _ _ _ _ _ c.move_to.ensures number c.in_ok-made.ensures.made }
