use Rattle.std.proofs.Common.{◌+◌, arith, length-drop}
use Rattle.dom_markup.specs.Bytes.{folded}
use Rattle.dom_markup.proofs.grammar.Ends.{next_less, no_less_left, first_end, goes_past}
use Rattle.dom_markup.proofs.document.raw.split_raw.Goals as goal

pub returns-in-Some-after_end-clause-some : goal.returns-in-Some-after_end-clause-some
returns-in-Some-after_end-clause-some c =
    let found = rw (c.bytes_from.ensures, c.as_bytes.ensures.value) at c.in-Some.ensures in
    let s = c.loop-found.invariant.searched in
    let past = next_less (folded c.args.name.now) c.args.text.now c.loop-found.at c.in-Some.found s found.0 in
    first_end _ _ _ _ c.in-Some-after_end.field-0.now (c.loop-found.at + c.in-Some.found) c.split_at.ensures.front c.split_at.ensures.back
    (let within = s.within in omega (arith, found.0.high, length-drop c.loop-found.at c.args.text.now)) c.in-Some-after_end.ensures.some past

pub loop-found-preserved : goal.loop-found-preserved
loop-found-preserved c =
    let found = rw (c.bytes_from.ensures, c.as_bytes.ensures.value) at c.in-Some.ensures in
    let s = c.loop-found.invariant.searched in
    let past = next_less (folded c.args.name.now) c.args.text.now c.loop-found.at c.in-Some.found s found.0 in
    record {
      searched = goes_past _ _ c.split_at.result.1.now (c.loop-found.at + c.in-Some.found)
          (let within = s.within in omega (arith, found.0.high, length-drop c.loop-found.at c.args.text.now)) c.split_at.ensures.back c.in_default-after_end.ensures.none past;
    }

pub returns-clause-none : goal.returns-clause-none
returns-clause-none c =
    no_less_left (folded c.args.name.now) c.args.text.now c.loop-found.at c.loop-found.invariant.searched (rw (c.bytes_from.ensures, c.as_bytes.ensures.value) at c.in_default.ensures)
