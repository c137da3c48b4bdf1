use Rattle.dom_select.proofs.SelectionLemmas.{selection_of}
use Rattle.dom_select.proofs.laws.selected_exactly.Goals as goal

pub returns : goal.returns
returns c = selection_of
