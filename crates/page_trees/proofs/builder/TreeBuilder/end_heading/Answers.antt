use Rattle.standard_trees.specs.NameLists.{headings}
use Rattle.standard_trees.specs.RuleWords.{Scope as DefaultScope}
use Rattle.page_trees.proofs.BodyEnds.{closing_step}
use Rattle.page_trees.proofs.builder.TreeBuilder.end_heading.Goals as goal

pub returns-clause-rule : goal.returns-clause-rule
returns-clause-rule c = closing_step c.args.self.now c.close_heading.new.self DefaultScope headings c.close_heading.ensures
