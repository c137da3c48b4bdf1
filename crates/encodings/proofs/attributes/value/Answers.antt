use Rattle.std.proofs.Common.{sym, ◌∙◌}
use Rattle.encodings.proofs.Parts.{value_bare, value_cut, value_quoted}
use Rattle.encodings.proofs.attributes.value.Goals as goal

pub returns-then-begins_with_quote : goal.returns-then-begins_with_quote
returns-then-begins_with_quote c = λ name. value_quoted name c.args.bytes.now _ (sym c.begins_with_quote.ensures ∙ c.if-begins_with_quote.true) c.in_quotes.ensures

pub returns-in-Some : goal.returns-in-Some
returns-in-Some c = λ name.
    value_bare name c.args.bytes.now _ _ _ _ (sym c.begins_with_quote.ensures ∙ c.if-begins_with_quote.false) c.split.ensures.front c.split.ensures.rest c.in-Some.ensures.cases.0

pub returns-in-None : goal.returns-in-None
returns-in-None c = λ name. value_cut name c.args.bytes.now _ (sym c.begins_with_quote.ensures ∙ c.if-begins_with_quote.false) c.split.ensures.rest c.in-None.ensures.cases
