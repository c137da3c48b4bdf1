use Rattle.std.proofs.Common.{◌≡◌, ℕ, ◌+◌, List, ◌∙◌, ap, arith, get_or, reverse, sym, take}
use Rattle.dom_commonmark.specs.Escaping.{is_marked}
use Rattle.dom_commonmark.proofs.StepLemmas.{marked_at, plain_more, tail_all}
use Rattle.dom_commonmark.proofs.escaping.find_mark.Goals as goal

pub loop-at-preserved : goal.loop-at-preserved
loop-at-preserved c =
    let past = c.loop-at.invariant.0 in
    let text = c.args.bytes.now in
    let at = c.loop-at.at in
    let same : marked_at c.args.place text at ≡ c.is_marked.result =
    ap (λ (t : List ℕ). is_marked c.args.place (reverse (take at text)) (get_or text at 0) t) (sym (tail_all text (at + 1))) ∙ sym c.is_marked.ensures in
    (omega arith, plain_more c.args.place text c.args.from at past c.loop-at-test.true c.loop-at.invariant.1 (same ∙ c.if-is_marked.false))
