-- A fault of a part is a fault of the whole.
use Rattle.std.proofs.Common.{◌≡◌, Result, MatchResult}
use Rattle.std.specs.Result.{IsErrAnd}
use Rattle.std.proofs.lemmas.Result.{err_from_is_err_and}
use Rattle.dom_selectors.specs.declared.fault.SelectorFault.{SelectorFault}
use Rattle.dom_selectors.specs.declared.fault.SelectorFault.TheVariants.{Syntax, UnknownPseudoClass, Number, NestedHas, TooDeep, Memory}
use Rattle.dom_selectors.specs.Spelling.{Refuses, no_other}

pub refuses_more : (e : SelectorFault) (cause cause' : SelectorFault → Type 0) (P Q : Type 0) → ((f : SelectorFault) → cause f → cause' f) → (P → Q) → Refuses cause e P → Refuses cause' e Q
refuses_more Syntax cause cause' P Q f h t = h t
refuses_more UnknownPseudoClass cause cause' P Q f h t = (f UnknownPseudoClass t.0, h t.1)
refuses_more Number cause cause' P Q f h t = (f Number t.0, h t.1)
refuses_more NestedHas cause cause' P Q f h t = (f NestedHas t.0, h t.1)
refuses_more TooDeep cause cause' P Q f h t = (f TooDeep t.0, h t.1)
refuses_more Memory cause cause' P Q f h t = tt

-- the same causes
pub refuses_wider : (e : SelectorFault) (cause : SelectorFault → Type 0) (P Q : Type 0) → (P → Q) → Refuses cause e P → Refuses cause e Q
refuses_wider e cause P Q h t = refuses_more e cause cause P Q (λ f k. k) h t

-- a fault where there was no pseudo-class
pub refuses_without_cause : (e : SelectorFault) (cause : SelectorFault → Type 0) (P Q : Type 0) → (P → Q) → Refuses no_other e P → Refuses cause e Q
refuses_without_cause e cause P Q h t = refuses_more e no_other cause P Q (λ f n. absurd n) h t

-- the exit of a `?` that passes a fault on
pub passes_on : {T : Type 0} (r : Result T SelectorFault) (P : T → Type 0) (F : SelectorFault → Type 0) {e : SelectorFault} → IsErrAnd r (λ y. y ≡ e) → F e → MatchResult r P F
passes_on r P F given t = let err = err_from_is_err_and r given in rw err.1 (rw err.2 t)
