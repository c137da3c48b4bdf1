use Rattle.std.proofs.Common.{◌+◌, ◌∙◌, ap, arith, get_or, sym}
use Rattle.std.specs.Prelude.{◌&&◌, ◌||◌, nat_le}
use Rattle.dom_md.specs.Written.{is_special}
use Rattle.dom_md.proofs.BlockLemmas.{kept-low, or_none}
use Rattle.dom_md.proofs.LaneLemmas.{tested_lane}
use Rattle.dom_md.proofs.WrittenLemmas.{and_none}
use Rattle.dom_md.proofs.serializer.words.same_run.Goals as goal

pub returns-then-escape-clause-same : goal.returns-then-escape-clause-same
returns-then-escape-clause-same c = λ k l.
    let within = c.unmarked_len.ensures.within in
    let room = c.requires in
    let text = c.args.bytes.now in
    let v = c.past_spaces.result in
    let here = c.load-here.result in
    let marks = c.either.ensures (λ k. nat_le (get_or v k 0) 32) (λ k. is_special (get_or here k 0)) c.at_most-gaps.ensures c.special.ensures in
    let none = or_none (nat_le (get_or v k 0) 32) (is_special (get_or here k 0)) (c.unmarked_len.ensures.unmarked (λ k. nat_le (get_or v k 0) 32 || is_special (get_or here k 0)) marks k l) in
    let lane = tested_lane text c.args.at k here c.load.result v c.load-here.ensures c.load.ensures c.past_spaces.ensures (omega (arith, within, l)) in
    let byte = c.load-here.ensures.each k (omega (arith, within, l)) in
    kept-low c.args.escape text (c.args.at + k) (omega (arith, room, within, l)) (ap (λ x. nat_le x 32) (sym lane) ∙ none.0) (and_none c.args.escape _ (ap is_special (sym byte) ∙ none.1))

pub returns-clause-same : goal.returns-clause-same
returns-clause-same c = λ k l.
    let within = c.unmarked_len-2.ensures.within in
    let room = c.requires in
    let text = c.args.bytes.now in
    let v = c.past_spaces.result in
    let none = c.unmarked_len-2.ensures.unmarked (λ k. nat_le (get_or v k 0) 32) c.at_most-gaps.ensures k l in
    let lane = tested_lane text c.args.at k c.load-here.result c.load.result v c.load-here.ensures c.load.ensures c.past_spaces.ensures (omega (arith, within, l)) in
    kept-low c.args.escape text (c.args.at + k) (omega (arith, room, within, l)) (ap (λ x. nat_le x 32) (sym lane) ∙ none) (ap (λ e. e && is_special (get_or text (c.args.at + k) 0)) c.if-escape.false)
