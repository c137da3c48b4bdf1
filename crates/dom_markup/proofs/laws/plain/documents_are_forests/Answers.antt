use Rattle.dom_markup.proofs.rows.DocumentSound.{document_sound}
use Rattle.dom_markup.proofs.laws.plain.documents_are_forests.Goals as goal

pub returns : goal.returns
returns c = document_sound
