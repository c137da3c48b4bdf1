use Rattle.dom_markup.proofs.grammar.Texts.{take_front, text_boundary}
use Rattle.dom_markup.proofs.grammar.ReferenceLemmas.{decoded-front}
use Rattle.dom_markup.proofs.document.scan.split_plain.Goals as goal

pub split_at-requires : goal.split_at-requires
split_at-requires c = rw (c.in_ok-len.ensures.len, c.as_bytes.ensures.value) (text_boundary c.args.text.now)

pub returns-clause-front : goal.returns-clause-front
returns-clause-front c = rw (c.split_at.ensures.front, c.in_ok-len.ensures.len, c.as_bytes.ensures.value) (take_front c.args.text.now)

pub returns-clause-plain : goal.returns-clause-plain
returns-clause-plain c =
    let none = rw c.as_bytes.ensures.value at c.in_ok-len.ensures.plain in
    rw c.split_at.ensures.front (decoded-front c.args.text.now c.in_ok-len.len none)
