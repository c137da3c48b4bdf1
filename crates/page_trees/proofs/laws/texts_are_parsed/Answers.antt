use Rattle.page_trees.proofs.FinishedPages.{texts_parsed}
use Rattle.page_trees.proofs.laws.texts_are_parsed.Goals as goal

pub returns : goal.returns
returns c = texts_parsed c.texts_are_built_of_tokens.ensures.document c.texts_are_built_of_tokens.ensures.fragment
