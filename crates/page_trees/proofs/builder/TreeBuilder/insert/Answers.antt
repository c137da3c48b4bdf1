use Rattle.page_trees.proofs.ElementSteps.{element_of_tag}
use Rattle.page_trees.proofs.builder.TreeBuilder.insert.Goals as goal

pub returns-clause-rule : goal.returns-clause-rule
returns-clause-rule c = element_of_tag c.args.name c.args.tag.now c.args.self.now _ c.insert_in.ensures.rule
