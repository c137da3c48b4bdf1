use Rattle.std.proofs.Common.{sym, ap, ◌∙◌, subst, drop}
use Rattle.dom_selectors.specs.Characters.{after_white, begins}
use Rattle.dom_selectors.specs.Nth.{SpellsNumber, is_sign}
use Rattle.dom_selectors.specs.Spelling.{SpellsNone}
use Rattle.dom_selectors.proofs.FaultLemmas.{passes_on, refuses_more}
use Rattle.dom_selectors.proofs.LargeLemmas.{behind_first, large_within, offset_within}
use Rattle.dom_selectors.proofs.NthLemmas.{offset_no_number}
use Rattle.dom_selectors.proofs.nth.take_offset.Goals as goal

pub returns-in_err-number : goal.returns-in_err-number
returns-in_err-number c =
    let text = c.args.text.now in
    let is = c.after_white.ensures ∙ ap after_white (behind_first c.after_white-sign.result.now) ∙ ap (λ t. after_white (drop 1 t)) c.after_white-sign.ensures in
    let sign = sym (c.begins_sign.ensures ∙ ap (begins is_sign) c.after_white-sign.ensures) ∙ c.if-not-begins_sign.false in
    passes_on c.from_residual.result _ _ c.from_residual.ensures.1
    (refuses_more _ _ _ _ _ (large_within c.after_white.result.now text (offset_within c.after_white.result.now text is))
    (λ refused. offset_no_number text sign (subst (SpellsNone SpellsNumber) is refused)) c.in_err-number.ensures)
