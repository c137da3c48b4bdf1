use Rattle.dom_md.proofs.WrittenLemmas.{after_change, cut_change}
use Rattle.dom_md.proofs.serializer.words.cut_change.Goals as goal

pub range-requires-2-clause-end_boundary : goal.range-requires-2-clause-end_boundary
range-requires-2-clause-end_boundary c = after_change c.args.escape c.args.text.now c.in_ok-at.at c.utf8.text (rw c.as_bytes.ensures.value at c.in_ok-at.ensures)

pub range_from-requires : goal.range_from-requires
range_from-requires c = λ some. after_change c.args.escape c.args.text.now c.in_ok-at.at c.utf8.text (rw c.as_bytes.ensures.value at c.in_ok-at.ensures)

pub returns : goal.returns
returns c =
    let found = rw c.as_bytes.ensures.value at c.in_ok-at.ensures in
    cut_change c.args.escape c.args.text.now _ _ _ c.in_ok-at.at found c.range.ensures.value c.range-2.ensures.value c.range_from.ensures.value
