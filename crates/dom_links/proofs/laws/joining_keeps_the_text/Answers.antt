use Rattle.dom_links.proofs.texts.JoinedTwice.{text_stays}
use Rattle.dom_links.proofs.laws.joining_keeps_the_text.Goals as goal

pub returns : goal.returns
returns c = λ x forest good. text_stays forest x good
