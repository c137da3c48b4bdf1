use Rattle.dom_markup.proofs.html.InertLemmas.{no_quote}
use Rattle.dom_markup.proofs.laws.escaping.value_is_inert.Goals as goal

pub returns : goal.returns
returns c = no_quote
