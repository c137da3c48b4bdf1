use Rattle.dom_selectors.proofs.SelectorLemmas.{stands_once}
use Rattle.dom_selectors.proofs.laws.one_reading.Goals as goal

pub returns : goal.returns
returns c = stands_once
