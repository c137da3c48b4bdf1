use Rattle.dom_links.proofs.moves.Stripping.{is_stripped}
use Rattle.dom_links.proofs.laws.stripping_twice_is_once.Goals as goal

pub returns : goal.returns
returns c = λ names x forest good. is_stripped names x forest good
