use Rattle.page_trees.proofs.MadeNodes.{new_moves}
use Rattle.page_trees.proofs.StandingEdits.{comment_changes, put_forest}
use Rattle.page_trees.proofs.Ways.{grows_put}
use Rattle.page_trees.proofs.growing.edits.put_comment.Goals as goal

pub move_to-requires : goal.move_to-requires
move_to-requires c = new_moves _ _ _ _ c.is_forest.ensures c.in_ok-comment.ensures.ok c.requires

pub returns-clause-grows : goal.returns-clause-grows
returns-clause-grows c = grows_put _ _ _ _ _ c.is_forest.ensures c.is_forest-2.ensures c.in_ok-comment.ensures.ok c.requires c.move_to.ensures

pub returns-clause-made : goal.returns-clause-made
returns-clause-made c = put_forest c.args.tree.now _ _ _ _ _ c.move_to.ensures c.in_ok-comment.ensures.ok.number c.in_ok-comment.ensures.made

pub returns-clause-rule : goal.returns-clause-rule
returns-clause-rule c =
    comment_changes _ _ _ _ c.is_forest.ensures c.utf8.text c.requires
    (put_forest c.args.tree.now _ _ _ _ _ c.move_to.ensures c.in_ok-comment.ensures.ok.number c.in_ok-comment.ensures.made)
