use Rattle.dom_markup.proofs.html.ReadBack.{value_reads_back}
use Rattle.dom_markup.proofs.laws.escaping.value_reads_back.Goals as goal

pub returns : goal.returns
returns c = value_reads_back
