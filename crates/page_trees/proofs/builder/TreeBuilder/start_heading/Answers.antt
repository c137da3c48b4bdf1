use Rattle.page_trees.proofs.BodyStarts.{heading_acts}
use Rattle.page_trees.proofs.builder.TreeBuilder.start_heading.Goals as goal

pub returns-clause-rule : goal.returns-clause-rule
returns-clause-rule c =
    heading_acts c.args.name c.args.tag.now c.args.self.now c.pop_heading.new.self c.insert_done.new.self c.pop_heading.ensures c.insert_done.ensures.rule
