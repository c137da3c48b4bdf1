use Rattle.dom_nodes.proofs.LawLemmas.{attr_of-with_attr, attr_of-with_attr-other, attr_of-without_name}
use Rattle.dom_nodes.proofs.laws.values_after_changes.Goals as goal

pub returns : goal.returns
returns c = record { set = attr_of-with_attr; kept = attr_of-with_attr-other; removed = attr_of-without_name }
