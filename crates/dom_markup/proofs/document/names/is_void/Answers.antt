use Rattle.dom_markup.specs.Names.{void_names}
use Rattle.dom_markup.proofs.document.names.is_void.Goals as goal

pub returns : goal.returns
unfolding void_names
returns c = c.is_one_of.ensures
