-- What a text stands for decides.
use Rattle.std.proofs.Common.{ℕ, ◌≡◌, ◌≢◌, ◌∙◌, ◌∷◌, [], List, Bool, Option, Some, None, true, false, ap, chars, subst}
use Rattle.std.specs.Prelude.{MatchBool, MatchOption}
use Rattle.dom_links.specs.Forest.{Forest}
use Rattle.dom_trees.specs.declared.node_ref.NodeRef.{NodeRef}
use Rattle.dom_selectors.specs.Grammar.{StandsFor}
use Rattle.dom_selectors.specs.Syntax.{SelectorList}
use Rattle.dom_selectors.proofs.SelectorLemmas.{stands_once}
use Rattle.dom_select.specs.ByText.{ByText, NotByText}
use Rattle.dom_selection.specs.Selecting.{Selects, SelectsIn, SelectsNothing, SelectsNothingIn}

pub asked_text : (text : List ℕ) (Does : SelectorList → Type 0) (answer : Bool) (list : SelectorList) → StandsFor (chars text) list → MatchBool answer (Does list) (Does list → ⊥)
    → MatchBool answer (ByText text Does) (NotByText text Does)
asked_text text Does true list stands h = (list, stands, h)
asked_text text Does false list stands h = λ other also met. h (subst Does (stands_once (chars text) other list also stands) met)

-- what is selected below the root alone is what is selected in its forest
selects_in : (forest : Forest) (root : NodeRef) (nodes : List NodeRef) → root.id ≡ 0 → root.tree.now ≡ forest → nodes ≡ root ∷ [] → (list : SelectorList) (found : List NodeRef) → Selects list nodes found → SelectsIn list forest found
selects_in forest root nodes zero same is list found h =
    (root.tree, same, subst (λ ns. Selects list ns found) (is ∙ ap (λ (n : ℕ). record { id = n; tree = root.tree } ∷ []) zero) h)

pub some_in : (text : List ℕ) (forest : Forest) (root : NodeRef) (nodes : List NodeRef) → root.id ≡ 0 → root.tree.now ≡ forest → nodes ≡ root ∷ [] → (found : Option (List NodeRef))
    → MatchOption found (SelectsNothing text nodes) (λ some. (some ≢ []) × ByText text (λ list. Selects list nodes some))
    → MatchOption found (SelectsNothingIn text forest) (λ some. (some ≢ []) × ByText text (λ list. SelectsIn list forest some))
some_in text forest root nodes zero same is None h = λ list stands. selects_in forest root nodes zero same is list [] (h list stands)
some_in text forest root nodes zero same is (Some some) (filled, (list, stands, h)) = (filled, (list, stands, selects_in forest root nodes zero same is list some h))
