use Rattle.std.proofs.Common.{sym, ◌∙◌}
use Rattle.encodings.proofs.Parts.{charset_found, charset_not}
use Rattle.encodings.proofs.attributes.behind_charset.Goals as goal

pub returns-then-not-begins_with_word : goal.returns-then-not-begins_with_word
returns-then-not-begins_with_word c = charset_not c.args.bytes.now (sym c.begins_with_word.ensures ∙ c.if-not-begins_with_word.true)

pub returns : goal.returns
returns c = charset_found c.args.bytes.now _ _ _ (sym c.begins_with_word.ensures ∙ c.if-not-begins_with_word.false) c.behind.ensures c.skip.ensures c.behind_equals.ensures
