use Rattle.std.proofs.Common.{◌≡◌, ◌∙◌, ℕ, List, Bool, sym, ap, Bor}
use Rattle.std.specs.List.{list_all}
use Rattle.dom_nodes.specs.Words.{class_words, is_among}
use Rattle.dom_selectors.specs.MiniSyntax.{texts_of}
use Rattle.dom_selectors.proofs.MiniTruthLemmas.{all_shown}
use Rattle.dom_selectors.proofs.mini_selector.selector.MiniSelector.has_classes.Goals as goal

pub returns : goal.returns
returns c =
    let P : List ℕ → Bool = λ class. is_among class (class_words c.args.element.now.attrs) in
    let text : Bor (List ℕ) → List ℕ = λ slice. slice.now in
    let shown : c.args.self.now.classes ≡ texts_of c.self.inside.classes.items = ap (λ mini. mini.classes) (sym c.self.view_is) in
    c.classes_hold.ensures ∙ (ap (λ classes. list_all (λ class. P (text class)) classes) c.as_slice.ensures.value ∙ (all_shown P text c.self.inside.classes.items ∙ ap (λ classes. list_all P classes) (sym shown)))
