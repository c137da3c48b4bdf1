use Rattle.dom_markup.proofs.plain.PlainRows.{document-represents}
use Rattle.dom_markup.proofs.laws.plain.documents_stand_for_their_trees.Goals as goal

pub returns : goal.returns
returns c = document-represents
