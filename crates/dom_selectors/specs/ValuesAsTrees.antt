-- The tree of a selector that the program holds.
use Rattle.std.specs.Prelude.{◌≡◌, List, [], ◌∷◌, ◌++◌, map}
use Rattle.std.specs.Global.{Vec}
use Rattle.dom_selectors.specs.declared.syntax.Combinator.{Combinator}
use Rattle.dom_selectors.specs.declared.syntax.Part.{Part}
use Rattle.dom_selectors.specs.declared.syntax.Item as items
use Rattle.dom_selectors.specs.declared.syntax.Item.TheVariants.{Simple, Two, Listed}
use Rattle.dom_selectors.specs.declared.syntax.Compound.{Compound, Compound-F, fold-Compound}
use Rattle.dom_selectors.specs.declared.syntax.Nested.{Nested, Nested-F, fold-Nested}
use Rattle.dom_selectors.specs.declared.syntax.Selector.{Selector, Selector-F, fold-Selector}
use Rattle.dom_selectors.specs.declared.syntax.Step.{Step, Step-F, fold-Step}
use Rattle.dom_selectors.specs.Syntax.{CompoundSelector, compound, NestedLists, NestedList, is_list, not_list, has_list, SelectorList, Steps}
use Rattle.dom_selectors.specs.ListsAsTrees.{Item, simple, two_parts, listed, lists_of, steps_of, selector_list}

-- one level of a value, in which the children are already trees
abbrev pub nested_layer : Nested-F NestedList CompoundSelector (Combinator × CompoundSelector × Steps) (Combinator × CompoundSelector) → NestedList
nested_layer (Nested-F.Is list) = is_list (selector_list list.items)
nested_layer (Nested-F.Not list) = not_list (selector_list list.items)
nested_layer (Nested-F.Has list) = has_list (selector_list list.items)

abbrev pub compound_layer : Compound-F NestedList CompoundSelector (Combinator × CompoundSelector × Steps) (Combinator × CompoundSelector) → CompoundSelector
compound_layer c = compound c.parts.items (lists_of c.nested.items)

abbrev pub selector_layer : Selector-F NestedList CompoundSelector (Combinator × CompoundSelector × Steps) (Combinator × CompoundSelector) → Combinator × CompoundSelector × Steps
selector_layer s = (s.lead, s.first, steps_of s.rest.items)

abbrev pub step_layer : Step-F NestedList CompoundSelector (Combinator × CompoundSelector × Steps) (Combinator × CompoundSelector) → Combinator × CompoundSelector
step_layer s = (s.combinator, s.compound)

abbrev pub read_nested : Nested → NestedList
read_nested = fold-Nested _ _ _ _ nested_layer compound_layer selector_layer step_layer

abbrev pub read_compound : Compound → CompoundSelector
read_compound = fold-Compound _ _ _ _ nested_layer compound_layer selector_layer step_layer

abbrev pub read_selector : Selector → Combinator × CompoundSelector × Steps
read_selector = fold-Selector _ _ _ _ nested_layer compound_layer selector_layer step_layer

abbrev pub read_step : Step → Combinator × CompoundSelector
read_step = fold-Step _ _ _ _ nested_layer compound_layer selector_layer step_layer

abbrev pub read_list : List Selector → SelectorList
read_list selectors = selector_list (map read_selector selectors)

abbrev pub read_lists : List Nested → NestedLists
read_lists lists = lists_of (map read_nested lists)

abbrev pub read_steps : List Step → Steps
read_steps steps = steps_of (map read_step steps)

-- the tree of a vector of selectors
abbrev pub read_selectors : Vec Selector → SelectorList
read_selectors selectors = read_list selectors.items

abbrev pub read_item : items.Item → Item
read_item (Simple part) = simple part
read_item (Two part other) = two_parts part other
read_item (Listed list) = listed (read_nested list)

-- a simple selector is appended to the parts, and a list to the lists
abbrev pub PushesItem : Item → List Part → List NestedList → List Part → List NestedList → Type 0
PushesItem (simple part) parts lists new_parts made_lists = (new_parts ≡ parts ++ part ∷ []) × (made_lists ≡ lists)
PushesItem (two_parts part other) parts lists new_parts made_lists = (new_parts ≡ parts ++ part ∷ other ∷ []) × (made_lists ≡ lists)
PushesItem (listed list) parts lists new_parts made_lists = (new_parts ≡ parts) × (made_lists ≡ lists ++ list ∷ [])
