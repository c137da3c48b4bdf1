use Rattle.std.proofs.Common.{sym, ◌∙◌, subst}
use Rattle.std.proofs.lemmas.Result.{MatchResult-weaker}
use Rattle.dom_selectors.specs.Characters.{begins}
use Rattle.dom_selectors.specs.Nth.{after_sign, is_minus, SpellsUnsigned}
use Rattle.dom_selectors.proofs.FaultLemmas.{refuses_more}
use Rattle.dom_selectors.proofs.LargeLemmas.{large_within, sign_within}
use Rattle.dom_selectors.proofs.NthLemmas.{nth_from_unsigned, unsigned_from_nth}
use Rattle.dom_selectors.proofs.nth.take_nth.Goals as goal

pub returns : goal.returns
returns c =
    let text = c.args.text.now in
    let even = sym c.begins_even.ensures ∙ c.if-begins_even.false in
    let odd = sym c.begins_odd.ensures ∙ c.if-begins_odd.false in
    MatchResult-weaker c.take_unsigned.result c.take_unsigned.ensures
    (λ p h. nth_from_unsigned text even odd p.0 p.1.now (subst (λ n. SpellsUnsigned n p.0 (after_sign text) p.1.now) c.begins_minus.ensures (subst (λ t. SpellsUnsigned c.begins_minus.result p.0 t p.1.now) c.after_sign.ensures h)))
    (λ e why. refuses_more e _ _ _ _ (large_within c.after_sign.result.now text (sign_within c.after_sign.result.now text c.after_sign.ensures))
    (λ none v rest h. none v rest (subst (λ n. SpellsUnsigned n v c.after_sign.result.now rest) (sym c.begins_minus.ensures) (subst (λ t. SpellsUnsigned (begins is_minus text) v t rest) (sym c.after_sign.ensures) (unsigned_from_nth text even odd v rest h)))) why)
