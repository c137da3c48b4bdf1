use Rattle.dom_select.proofs.SelectionLemmas.{selected_once}
use Rattle.dom_select.proofs.laws.one_selection.Goals as goal

pub returns : goal.returns
returns c = selected_once
