use Rattle.dom_links.proofs.texts.JoinedTwice.{joined_again}
use Rattle.dom_links.proofs.laws.joining_twice_is_once.Goals as goal

pub returns : goal.returns
returns c = λ x forest good. joined_again forest x good
