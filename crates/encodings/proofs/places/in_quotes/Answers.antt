use Rattle.std.proofs.Common.{sym, ◌∙◌}
use Rattle.encodings.proofs.Parts.{quotes_found, quotes_not, quotes_nothing}
use Rattle.encodings.proofs.places.in_quotes.Goals as goal

pub returns-in_err-quote : goal.returns-in_err-quote
returns-in_err-quote c = rw c.from_residual.ensures (quotes_nothing c.args.bytes.now c.in_err-quote.ensures.cases)

pub returns-then-not-is_quote : goal.returns-then-not-is_quote
returns-then-not-is_quote c = quotes_not _ c.args.bytes.now _ c.in_ok-quote.ensures.cases.0 (sym c.is_quote.ensures ∙ c.if-not-is_quote.true)

pub returns : goal.returns
returns c = quotes_found _ c.args.bytes.now _ _ c.in_ok-quote.ensures.cases.0 (sym c.is_quote.ensures ∙ c.if-not-is_quote.false) c.cut_at.ensures
