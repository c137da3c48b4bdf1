use Rattle.dom_markup.proofs.plain.PlainOnce.{represents_same}
use Rattle.dom_markup.proofs.laws.plain.one_meaning.Goals as goal

pub returns : goal.returns
returns c = represents_same
