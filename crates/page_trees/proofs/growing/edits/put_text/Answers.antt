use Rattle.page_trees.proofs.StandingEdits.{text_changes, text_forest}
use Rattle.page_trees.proofs.Ways.{text_call}
use Rattle.page_trees.proofs.growing.edits.put_text.Goals as goal

pub returns-clause-grows : goal.returns-clause-grows
returns-clause-grows c = text_call _ _ _ _ _ c.is_forest.ensures c.requires c.add_text_at.ensures

pub returns-clause-made : goal.returns-clause-made
returns-clause-made c = text_forest _ _ _ _ _ _ c.settled.ensures c.add_text_at.ensures

pub returns-clause-rule : goal.returns-clause-rule
returns-clause-rule c =
    text_changes _ _ _ _ c.args.text.now c.is_forest.ensures c.requires c.utf8.text (text_forest _ _ _ _ _ _ c.settled.ensures c.add_text_at.ensures)
