use Rattle.std.proofs.Common.{sym, ◌∙◌, subst}
use Rattle.std.proofs.lemmas.Result.{MatchResult-weaker}
use Rattle.dom_selectors.specs.Nth.{SpellsAfterNumber}
use Rattle.dom_selectors.specs.Spelling.{SpellsNone}
use Rattle.dom_selectors.proofs.FaultLemmas.{refuses_more}
use Rattle.dom_selectors.proofs.LargeLemmas.{large_within, number_within}
use Rattle.dom_selectors.proofs.NthLemmas.{unsigned_from, unsigned_no_after}
use Rattle.dom_selectors.proofs.nth.take_unsigned.Goals as goal

pub returns : goal.returns
returns c =
    let text = c.args.text.now in
    let mid = c.in_ok-number.after.now in
    let number = c.in_ok-number.number in
    let no_n = sym c.begins_n.ensures ∙ c.if-begins_n.false in
    MatchResult-weaker c.take_after_number-2.result c.take_after_number-2.ensures
    (λ p h. unsigned_from c.args.is_negative text mid number no_n c.in_ok-number.ensures p.0 p.1.now (subst (λ s. SpellsAfterNumber s p.0 mid p.1.now) c.signed-2.ensures h))
    (λ e why. refuses_more e _ _ _ _ (large_within mid text (number_within text mid number c.in_ok-number.ensures))
    (λ refused. unsigned_no_after c.args.is_negative text mid number no_n c.in_ok-number.ensures (subst (λ s. SpellsNone (SpellsAfterNumber s) mid) c.signed-2.ensures refused)) why)
