use Rattle.std.proofs.Common.{arith}
use Rattle.dom_commonmark.proofs.StepLemmas.{after_mark, cut_whole}
use Rattle.dom_commonmark.proofs.escaping.cut_mark.Goals as goal

pub range-requires-2-clause-end_boundary : goal.range-requires-2-clause-end_boundary
range-requires-2-clause-end_boundary c = after_mark c.args.place c.args.text.now c.args.from c.in_ok-at.at c.utf8.text (rw c.as_bytes.ensures.value at c.in_ok-at.ensures)

pub returns : goal.returns
returns c =
    let found = rw c.as_bytes.ensures.value at c.in_ok-at.ensures in
    record {
      further = let past = found.past in omega arith;
      within = let within = found.within in omega arith;
      boundary = after_mark c.args.place c.args.text.now c.args.from c.in_ok-at.at c.utf8.text found;
      whole = cut_whole c.args.place c.args.text.now _ _ c.args.from c.in_ok-at.at found c.range.ensures.value c.range-2.ensures.value;
    }
