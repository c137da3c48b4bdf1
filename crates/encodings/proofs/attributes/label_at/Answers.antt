use Rattle.std.proofs.Common.{sym, ◌∙◌}
use Rattle.encodings.proofs.Parts.{label_bare, label_nothing, label_quoted}
use Rattle.encodings.proofs.attributes.label_at.Goals as goal

pub returns-then-begins_with_quote : goal.returns-then-begins_with_quote
returns-then-begins_with_quote c = label_quoted c.args.bytes.now _ (sym c.begins_with_quote.ensures ∙ c.if-begins_with_quote.true) c.quoted.ensures

pub returns-in-Some : goal.returns-in-Some
returns-in-Some c = label_bare c.args.bytes.now _ _ _ (sym c.begins_with_quote.ensures ∙ c.if-begins_with_quote.false) c.in-Some.ensures.cases.0 c.split.ensures.front

pub returns-in-None : goal.returns-in-None
returns-in-None c = label_nothing c.args.bytes.now c.in-None.ensures.cases
