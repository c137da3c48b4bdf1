use Rattle.dom_links.proofs.texts.JoinedTwice.{read_alike_then}
use Rattle.dom_links.proofs.laws.joining_keeps_readings.Goals as goal

pub returns : goal.returns
returns c = λ x forest reading good known joins. read_alike_then forest x good reading joins known
