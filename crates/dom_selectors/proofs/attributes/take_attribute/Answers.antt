use Rattle.std.proofs.Common.{subst}
use Rattle.dom_selectors.specs.Spelling.{no_other, SpellsNone}
use Rattle.dom_selectors.specs.Names.{SpellsName}
use Rattle.dom_selectors.specs.Attributes.{SpellsAsked}
use Rattle.dom_selectors.proofs.FaultLemmas.{passes_on, refuses_wider}
use Rattle.dom_selectors.proofs.AttributeLemmas.{attribute_no_name, attribute_no_asked}
use Rattle.dom_selectors.proofs.attributes.take_attribute.Goals as goal

pub returns-in_err-name : goal.returns-in_err-name
returns-in_err-name c =
    passes_on c.from_residual.result _ _ c.from_residual.ensures.1
    (refuses_wider _ no_other _ _ (λ none. attribute_no_name c.args.text.now (subst (SpellsNone SpellsName) c.after_white.ensures none)) c.in_err-name.ensures)

pub returns-in_err-comparison : goal.returns-in_err-comparison
returns-in_err-comparison c =
    passes_on c.from_residual-in_err-comparison.result _ _ c.from_residual-in_err-comparison.ensures.1
    (refuses_wider _ no_other _ _ (λ none. attribute_no_asked c.args.text.now _ c.in_ok-name.after_name.now (subst (λ t. SpellsName c.in_ok-name.name t c.in_ok-name.after_name.now) c.after_white.ensures c.in_ok-name.ensures)
    (subst (SpellsNone SpellsAsked) c.after_white-2.ensures none)) c.in_err-comparison.ensures)
