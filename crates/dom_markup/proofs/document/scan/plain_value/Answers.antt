use Rattle.dom_markup.proofs.grammar.Reading.{quoted_value}
use Rattle.dom_markup.proofs.document.scan.plain_value.Goals as goal

pub returns-clause-some : goal.returns-clause-some
returns-clause-some c = quoted_value _ _ _ _ c.in_ok-inner.ensures.some c.in_ok-value.ensures.some
