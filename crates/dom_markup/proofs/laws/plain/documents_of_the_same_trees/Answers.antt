use Rattle.dom_markup.proofs.plain.SameLemmas.{documents_same}
use Rattle.dom_markup.proofs.laws.plain.documents_of_the_same_trees.Goals as goal

pub returns : goal.returns
returns c = λ one other good fine. documents_same one other good fine (c.trees_of_a_forest.ensures one good) (c.trees_of_a_forest.ensures other fine)
