use Rattle.dom_markup.proofs.html.InertLemmas.{no_less, no_greater}
use Rattle.dom_markup.proofs.laws.escaping.text_is_inert.Goals as goal

pub returns : goal.returns
returns c = record { less = no_less; greater = no_greater }
