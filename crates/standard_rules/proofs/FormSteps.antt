-- The tags of `form`, whose rules ask the form element pointer.
use Rattle.std.specs.Prelude.{◌≡◌, false, Option, Some, None, codes, refl, List}
use Rattle.std.specs.Option.{option_and_then}
use mathlib.Core.Path.{ap}
use Rattle.standard_rules.specs.Building.{Building, act, done, form_ended, in_scope, inserted, run, taken}
use Rattle.standard_rules.specs.RuleWords.{Mode, InBody, InCaption, InCell}
use Rattle.standard_rules.specs.TreeRules.{rules}
use Rattle.standard_tokens.specs.Tokens.{Attr, AnEnd, AStart}
use Rattle.standard_rules.proofs.RuleShapes.{NoP, Runs}
use Rattle.standard_rules.proofs.TextSteps.{from_body}

stays : Option Building → Option Building
stays r = option_and_then (λ c. Some c) (option_and_then (λ c. Some c) r)

pub form_closes : (b c : Building) → form_ended b.form b ≡ Some c → Runs (AnEnd (codes "form")) b c
unfolding run rules taken act in_scope stays
form_closes b c h = (ap stays h, ap stays h, ap stays h)

form_done : (attrs : List Attr) (b : Building) → b.form ≡ None → NoP b → (again : Mode → Building → Option Building) →
    done again (taken (AStart (codes "form") attrs false) b (rules InBody)) (AStart (codes "form") attrs false) b ≡ Some (record (inserted (codes "form") attrs b) { form = Some b.next })
unfolding rules taken act
form_done attrs b h k again = rw (h, k) refl

form_by : (attrs : List Attr) (b : Building) (again : Mode → Building → Option Building) →
    (done again (taken (AStart (codes "form") attrs false) b (rules InCaption)) (AStart (codes "form") attrs false) b ≡ again InBody b)
    × (done again (taken (AStart (codes "form") attrs false) b (rules InCell)) (AStart (codes "form") attrs false) b ≡ again InBody b)
unfolding rules taken
form_by attrs b again = (refl, refl)

pub form_opens : (attrs : List Attr) (b : Building) → b.form ≡ None → NoP b → Runs (AStart (codes "form") attrs false) b (record (inserted (codes "form") attrs b) { form = Some b.next })
form_opens attrs b h k = from_body (AStart (codes "form") attrs false) b (record (inserted (codes "form") attrs b) { form = Some b.next }) (form_done attrs b h k) (form_by attrs b)
