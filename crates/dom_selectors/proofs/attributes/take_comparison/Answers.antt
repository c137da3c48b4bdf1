use Rattle.std.proofs.Common.{subst}
use Rattle.dom_selectors.specs.Spelling.{no_other, SpellsNone}
use Rattle.dom_selectors.specs.Attributes.{SpellsValue, SpellsCase}
use Rattle.dom_selectors.proofs.FaultLemmas.{passes_on, refuses_wider}
use Rattle.dom_selectors.proofs.AttributeLemmas.{comparison_no_case}
use Rattle.dom_selectors.proofs.attributes.take_comparison.Goals as goal

pub returns-in_err-case_sensitivity : goal.returns-in_err-case_sensitivity
returns-in_err-case_sensitivity c =
    passes_on c.from_residual-in_err-case_sensitivity.result _ _ c.from_residual-in_err-case_sensitivity.ensures.1
    (refuses_wider _ no_other _ _ (λ none. comparison_no_case c.args.text.now c.in-Some.after_operator.now c.in_ok-value.after_value.now c.in-Some.operator _ c.in-Some.ensures
    (subst (λ t. SpellsValue c.in_ok-value.value t c.in_ok-value.after_value.now) c.after_white.ensures c.in_ok-value.ensures) (subst (SpellsNone SpellsCase) c.after_white-2.ensures none)) c.in_err-case_sensitivity.ensures)
