use Rattle.dom_markup.proofs.rows.BareRows.{bare_document}
use Rattle.dom_markup.proofs.laws.plain.documents_without_identifiers_are_plain.Goals as goal

pub returns : goal.returns
returns c = λ text trees utf8 spells bare. c.what_is_read_is_plain.ensures text trees utf8 spells (bare_document trees bare)
