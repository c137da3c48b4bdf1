use Rattle.std.proofs.Common.{◌+◌, ◌∙◌, ap, arith, get_or, sym}
use Rattle.std.specs.Prelude.{not}
use Rattle.dom_md.specs.Visible.{is_visible}
use Rattle.dom_md.proofs.LaneLemmas.{tested_lane}
use Rattle.dom_md.proofs.SpacedLemmas.{stays-tested}
use Rattle.dom_md.proofs.formatting.steps.same_run.Goals as goal

pub returns-clause-stay : goal.returns-clause-stay
returns-clause-stay c = λ k l.
    let within = c.unmarked_len.ensures.within in
    let v = c.past_spaces-tested.result in
    let none = c.unmarked_len.ensures.unmarked (λ k. not (is_visible (get_or v k 0))) c.not_visible.ensures k l in
    let lane = tested_lane c.args.bytes.now c.args.at k c.load.result c.load-2.result v c.load.ensures c.load-2.ensures c.past_spaces-tested.ensures (omega arith) in
    stays-tested c.args.bytes.now (c.args.at + k) (let room = c.requires in omega (arith, room, within, l)) (ap (λ x. not (is_visible x)) (sym lane) ∙ none)
