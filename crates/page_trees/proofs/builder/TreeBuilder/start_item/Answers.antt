use Rattle.page_trees.specs.Closing.{item_texts}
use Rattle.page_trees.proofs.BodyStarts.{item_acts}
use Rattle.page_trees.proofs.builder.TreeBuilder.start_item.Goals as goal

pub returns-clause-rule : goal.returns-clause-rule
returns-clause-rule c =
    item_acts c.args.name c.args.tag.now c.args.self.now c.close_item.new.self c.end_paragraph.new.self c.insert_done.new.self (item_texts c.args.name) c.close_item.ensures
    c.end_paragraph.ensures.rule c.insert_done.ensures.limits c.insert_done.ensures.rule
