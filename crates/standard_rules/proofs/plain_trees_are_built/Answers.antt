use Rattle.standard_rules.proofs.PagesBuilt.{fragment_built, page_built}
use Rattle.standard_rules.proofs.plain_trees_are_built.Goals as goal

pub returns-clause-page : goal.returns-clause-page
returns-clause-page c = page_built

pub returns-clause-fragment : goal.returns-clause-fragment
returns-clause-fragment c = fragment_built
