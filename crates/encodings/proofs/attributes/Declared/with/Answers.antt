use Rattle.std.proofs.Common.{map, sym, ◌∙◌}
use Rattle.std.specs.Char.{to_ascii_lowercase}
use Rattle.std.specs.Prelude.{codes}
use Rattle.encodings.proofs.MetaLemmas.{noted_word, others_read}
use Rattle.encodings.proofs.Parts.{word_is}
use Rattle.encodings.proofs.attributes.Declared.with.Goals as goal

pub returns-then-is_word : goal.returns-then-is_word
returns-then-is_word c = λ meta read.
    noted_word _ meta c.args.attribute.name.now c.args.attribute.value.now (codes "http-equiv") (word_is c.args.attribute.name.now _ _ c.is_word.ensures c.if-is_word.true) (c.with_http_equiv.ensures meta read)

pub returns-then-is_word-2 : goal.returns-then-is_word-2
returns-then-is_word-2 c = λ meta read.
    noted_word _ meta c.args.attribute.name.now c.args.attribute.value.now (codes "content") (word_is c.args.attribute.name.now _ _ c.is_word-2.ensures c.if-is_word-2.true) (c.with_content.ensures meta read)

pub returns-then-is_word-3 : goal.returns-then-is_word-3
returns-then-is_word-3 c = λ meta read.
    noted_word _ meta c.args.attribute.name.now c.args.attribute.value.now (codes "charset") (word_is c.args.attribute.name.now _ _ c.is_word-3.ensures c.if-is_word-3.true) (c.with_charset.ensures meta read)

pub returns : goal.returns
returns c = λ meta read.
    others_read _ meta (map to_ascii_lowercase c.args.attribute.name.now) c.args.attribute.value.now (sym c.is_word.ensures ∙ c.if-is_word.false) (sym c.is_word-2.ensures ∙ c.if-is_word-2.false) (sym c.is_word-3.ensures ∙ c.if-is_word-3.false) read
