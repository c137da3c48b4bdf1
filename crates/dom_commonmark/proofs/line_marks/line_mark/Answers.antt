use Rattle.std.proofs.Common.{sym, ◌∙◌}
use Rattle.dom_commonmark.proofs.LineLemmas.{number_mark, sign_mark}
use Rattle.dom_commonmark.proofs.line_marks.line_mark.Goals as goal

pub returns-then-begins_number : goal.returns-then-begins_number
returns-then-begins_number c = rw c.leading_digits.ensures (number_mark c.args.bytes.now (sym c.begins_number.ensures ∙ c.if-begins_number.true))

pub returns-then-begins_sign : goal.returns-then-begins_sign
returns-then-begins_sign c = sign_mark c.args.bytes.now (sym c.begins_sign.ensures ∙ c.if-begins_sign.true)
