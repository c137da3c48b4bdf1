use Rattle.dom_markup.proofs.grammar.Texts.{take_front, text_boundary}
use Rattle.dom_markup.proofs.document.scan.split_text.Goals as goal

pub split_at-requires : goal.split_at-requires
split_at-requires c = rw (c.text_len.ensures, c.as_bytes.ensures.value) (text_boundary c.args.text.now)

pub returns-clause-front : goal.returns-clause-front
returns-clause-front c = rw (c.split_at.ensures.front, c.text_len.ensures, c.as_bytes.ensures.value) (take_front c.args.text.now)
