use Rattle.memchr.specs.Find.{is_byte}
use Rattle.dom_clean.proofs.PlainTexts.{none_found, plain_escaped}
use Rattle.dom_clean.proofs.values.is_plain.Goals as goal

pub returns-in-None : goal.returns-in-None
returns-in-None c = λ none. plain_escaped c.args.text.now c.utf8.text (rw c.as_bytes.ensures.value at c.in-None.ensures)
    (none_found (is_byte 194) c.args.text.now c.memchr.result c.is_none.result c.is_none.ensures none (rw c.as_bytes-in-None.ensures.value at c.memchr.ensures))
