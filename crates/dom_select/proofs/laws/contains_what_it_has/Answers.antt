use Rattle.dom_select.proofs.JoinedLemmas.{joined_if_one}
use Rattle.dom_select.proofs.laws.contains_what_it_has.Goals as goal

pub returns : goal.returns
returns c forest text n h = joined_if_one forest text n h
