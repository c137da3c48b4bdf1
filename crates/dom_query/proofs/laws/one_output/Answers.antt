use Rattle.dom_query.proofs.Outputs.{output-once}
use Rattle.dom_query.proofs.laws.one_output.Goals as goal

pub returns : goal.returns
returns c = output-once c.one_reading.ensures c.one_reading-2.ensures c.one_selection.ensures c.one_clean.ensures
