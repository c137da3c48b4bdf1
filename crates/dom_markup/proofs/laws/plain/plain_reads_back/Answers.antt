use Rattle.dom_markup.proofs.plain.PlainForest.{plain_document_spells}
use Rattle.dom_markup.proofs.laws.plain.plain_reads_back.Goals as goal

pub returns : goal.returns
returns c = λ forest good plain. (plain.trees, plain.below, plain_document_spells forest good (c.trees_of_a_forest.ensures forest good) plain)
