use Rattle.dom_links.proofs.forest.Changing.{are_changes}
use Rattle.dom_links.proofs.laws.changes_of_data.Goals as goal

pub returns : goal.returns
returns c = are_changes
