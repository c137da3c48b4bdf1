-- Lists of selectors and their parts, converted to the trees of `Syntax`.
use Rattle.std.specs.Prelude.{List, [], ◌∷◌}
use Rattle.dom_selectors.specs.declared.syntax.Combinator.{Combinator}
use Rattle.dom_selectors.specs.declared.syntax.Part.{Part}
use Rattle.dom_selectors.specs.Syntax.{CompoundSelector, NestedLists, no_lists, nested, NestedList, SelectorList, no_selectors, alternative, Steps, no_steps, step}

-- what a compound selector may have after its type selector
pub data Item : Type 0 where
  simple : Part → Item
  two_parts : Part → Part → Item
  listed : NestedList → Item

-- the simple selectors and the nested lists among the items, each in order
abbrev pub parts_among : List Item → List Part
parts_among [] = []
parts_among (simple part ∷ items) = part ∷ parts_among items
parts_among (two_parts part other ∷ items) = part ∷ other ∷ parts_among items
parts_among (listed list ∷ items) = parts_among items

abbrev pub lists_among : List Item → NestedLists
lists_among [] = no_lists
lists_among (simple part ∷ items) = lists_among items
lists_among (two_parts part other ∷ items) = lists_among items
lists_among (listed list ∷ items) = nested list (lists_among items)

abbrev pub lists_of : List NestedList → NestedLists
lists_of [] = no_lists
lists_of (l ∷ ls) = nested l (lists_of ls)

abbrev pub steps_of : List (Combinator × CompoundSelector) → Steps
steps_of [] = no_steps
steps_of (s ∷ ss) = step s.0 s.1 (steps_of ss)

abbrev pub selector_list : List (Combinator × CompoundSelector × Steps) → SelectorList
selector_list [] = no_selectors
selector_list (s ∷ ss) = alternative s.0 s.1 s.2 (selector_list ss)
