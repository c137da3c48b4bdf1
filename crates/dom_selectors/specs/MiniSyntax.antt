-- Mini selectors as values.
use Rattle.std.specs.Prelude.{ℕ, List, [], ◌∷◌, Bool, true, false, ◌||◌, Option, None, Some, is_some, map, unwrap_or}
use Rattle.std.specs.Borrow.{Bor}
use Rattle.std.specs.Option.{option_map}
use Rattle.dom_selectors.specs.declared.syntax.Combinator.{Combinator}
use Rattle.dom_selectors.specs.declared.syntax.Combinator.TheVariants.{Descendant}
use Rattle.dom_selectors.specs.declared.syntax.AttrOperator.{AttrOperator}
use Rattle.dom_selectors.specs.declared.mini_selector.selector.MiniAttr.{MiniAttr}

-- an attribute's name, with an operator and a value if there is a comparison
pub record Asked : Type 0 where
  pub key : List ℕ
  pub test : Option (AttrOperator × List ℕ)

-- a mini selector; a part that is missing in the text is `None` or an empty list
pub record Mini : Type 0 where
  pub lead : Option Combinator
  pub name : Option (List ℕ)
  pub id : Option (List ℕ)
  pub classes : List (List ℕ)
  pub attrs : List Asked

-- the mini selector with a name alone
abbrev pub named : List ℕ → Mini
named name = record { lead = None; name = Some name; id = None; classes = []; attrs = [] }

-- the texts of slices
abbrev pub texts_of : List (Bor (List ℕ)) → List (List ℕ)
texts_of slices = map (λ slice. slice.now) slices

abbrev pub shown_test : AttrOperator × Bor (List ℕ) → AttrOperator × List ℕ
shown_test test = (test.0, test.1.now)

abbrev pub asked_of : MiniAttr → Asked
asked_of attr = record { key = attr.key.now; test = option_map shown_test attr.test }

-- the combinator; without a sign it is the descendant combinator
abbrev pub combinator_of : Mini → Combinator
combinator_of mini = unwrap_or mini.lead Descendant

abbrev pub is_some_of : {A : Type 0} → List A → Bool
is_some_of [] = false
is_some_of (x ∷ xs) = true

abbrev pub has_part : Mini → Bool
has_part mini = is_some mini.lead || is_some mini.name || is_some mini.id || is_some_of mini.classes || is_some_of mini.attrs
