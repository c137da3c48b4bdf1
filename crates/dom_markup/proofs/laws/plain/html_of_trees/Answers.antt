use Rattle.dom_markup.proofs.plain.PlainForest.{represented-text, document-text}
use Rattle.dom_markup.proofs.laws.plain.html_of_trees.Goals as goal

pub returns : goal.returns
returns c = record {
  nodes = λ forest good. represented-text forest good (c.trees_of_a_forest.ensures forest good);
  document = λ forest good. document-text forest good (c.trees_of_a_forest.ensures forest good);
}
