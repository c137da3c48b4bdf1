use Rattle.std.proofs.Common.{◌≡◌, ◌∙◌, Bool, map, sym, ap}
use Rattle.std.specs.List.{list_all}
use Rattle.dom_selectors.specs.MiniSyntax.{Asked, asked_of}
use Rattle.dom_selectors.specs.MiniTruth.{asked_holds}
use Rattle.dom_selectors.proofs.MiniTruthLemmas.{all_shown}
use Rattle.dom_selectors.proofs.mini_selector.selector.MiniSelector.has_attrs.Goals as goal

pub returns : goal.returns
returns c =
    let P : Asked → Bool = λ asked. asked_holds c.args.element.now asked.key asked.test in
    let shown : c.args.self.now.attrs ≡ map asked_of c.self.inside.attrs.items = ap (λ mini. mini.attrs) (sym c.self.view_is) in
    c.attrs_hold.ensures ∙ (ap (λ attrs. list_all (λ attr. P (asked_of attr)) attrs) c.as_slice.ensures.value ∙ (all_shown P asked_of c.self.inside.attrs.items ∙ ap (λ attrs. list_all P attrs) (sym shown)))
