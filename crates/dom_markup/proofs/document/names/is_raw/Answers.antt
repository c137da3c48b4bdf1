use Rattle.dom_markup.specs.Names.{raw_names}
use Rattle.dom_markup.proofs.document.names.is_raw.Goals as goal

pub returns : goal.returns
unfolding raw_names
returns c = c.is_one_of.ensures
