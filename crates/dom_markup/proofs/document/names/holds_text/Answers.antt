use Rattle.dom_markup.specs.Names.{text_names}
use Rattle.dom_markup.proofs.document.names.holds_text.Goals as goal

pub returns : goal.returns
unfolding text_names
returns c = c.is_one_of.ensures
