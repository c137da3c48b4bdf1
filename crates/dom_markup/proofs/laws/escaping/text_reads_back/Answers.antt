use Rattle.dom_markup.proofs.html.ReadBack.{text_reads_back}
use Rattle.dom_markup.proofs.laws.escaping.text_reads_back.Goals as goal

pub returns : goal.returns
returns c = text_reads_back
