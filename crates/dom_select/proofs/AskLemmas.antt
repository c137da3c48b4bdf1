-- A text asked of a node: by its one reading, and false where it has none.
use Rattle.std.proofs.Common.{◌≡◌, ℕ, List, Bool, true, false, Result, Ok, Err, IfOk, MatchBool, refl, subst, true≢false}
use Rattle.dom_nodes.specs.declared.fault.OutOfMemory.{OutOfMemory}
use Rattle.dom_links.specs.Forest.{Forest}
use Rattle.dom_selectors.specs.declared.fault.SelectorFault.{SelectorFault}
use Rattle.dom_selectors.specs.declared.fault.SelectorFault.TheVariants.{Syntax, UnknownPseudoClass, Number, NestedHas, TooDeep, Memory}
use Rattle.dom_selectors.specs.Grammar.{Refused, StandsFor}
use Rattle.dom_select.specs.Descendants.{IsMatch}
use Rattle.dom_selectors.specs.Syntax.{SelectorList}
use Rattle.dom_selectors.proofs.SelectorLemmas.{stands_once}

module _ (text : List ℕ) (forest : Forest) (n : ℕ) where
  -- some reading of the text means the node, or none does
  abbrev pub Asked : Bool → Type 0
  Asked answer = MatchBool answer ((list : SelectorList) × StandsFor text list × IsMatch list forest n) ((list : SelectorList) → StandsFor text list → IsMatch list forest n → ⊥)

  pub asked_once : (answer : Bool) (list : SelectorList) → StandsFor text list → MatchBool answer (IsMatch list forest n) (IsMatch list forest n → ⊥) → Asked answer
  asked_once true list stands h = (list, stands, h)
  asked_once false list stands h = λ other also met. h (subst (λ l. IsMatch l forest n) (stands_once text other list also stands) met)

  outside : (fault : SelectorFault) → Refused text fault → (fault ≡ Memory → ⊥) → (list : SelectorList) → StandsFor text list → ⊥
  outside Syntax h some list stands = h list stands
  outside UnknownPseudoClass h some list stands = h.1 list stands
  outside Number h some list stands = h.1 list stands
  outside NestedHas h some list stands = h.1 list stands
  outside TooDeep h some list stands = h.1 list stands
  outside Memory h some list stands = some refl

  pub asked_none : (r : Result Bool OutOfMemory) (fault : SelectorFault) → Refused text fault → IfOk r (λ answer. (answer ≡ false) × (fault ≡ Memory → ⊥)) → IfOk r Asked
  asked_none (Ok true) fault h given = absurd (true≢false given.0)
  asked_none (Ok false) fault h given = λ list stands met. outside fault h given.1 list stands
  asked_none (Err e) fault h given = tt
