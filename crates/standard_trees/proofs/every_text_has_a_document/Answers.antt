use Rattle.standard_trees.proofs.EveryText.{every_text_has_a_document, every_text_has_a_fragment}
use Rattle.standard_trees.proofs.every_text_has_a_document.Goals as goal

pub returns-clause-documents : goal.returns-clause-documents
returns-clause-documents c = every_text_has_a_document

pub returns-clause-fragments : goal.returns-clause-fragments
returns-clause-fragments c = every_text_has_a_fragment
