use Rattle.page_trees.proofs.MadeNodes.{comment_call}
use Rattle.page_trees.proofs.growing.edits.create_comment.Goals as goal

pub returns-clause-ok : goal.returns-clause-ok
returns-clause-ok c = comment_call _ _ _ _ _ c.made.ensures c.new_comment.ensures
