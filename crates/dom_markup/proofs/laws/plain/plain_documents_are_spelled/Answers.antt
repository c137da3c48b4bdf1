use Rattle.dom_markup.specs.Numbered.{document_of}
use Rattle.dom_markup.proofs.rows.DocumentSound.{document_sound}
use Rattle.dom_markup.proofs.plain.PlainForest.{plain_document_inside_spells, plain_document_spells}
use Rattle.dom_markup.proofs.plain.SameLemmas.{plain_same}
use Rattle.dom_markup.proofs.laws.plain.plain_documents_are_spelled.Goals as goal

pub returns : goal.returns
returns c = record {
  root = λ forest good plain. record {
    trees = plain.trees;
    spelled = plain_document_spells forest good (c.trees_of_a_forest.ensures forest good) plain;
    same = plain_same forest good (c.trees_of_a_forest.ensures forest good) (λ trees. c.trees_of_a_forest.ensures (document_of trees) (document_sound trees)) plain;
  };
  children = λ forest good plain. record {
    trees = plain.trees;
    spelled = plain_document_inside_spells forest good (c.trees_of_a_forest.ensures forest good) plain;
    same = plain_same forest good (c.trees_of_a_forest.ensures forest good) (λ trees. c.trees_of_a_forest.ensures (document_of trees) (document_sound trees)) plain;
  };
}
