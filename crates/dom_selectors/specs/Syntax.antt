-- Selectors as trees. The terms are those of Selectors Level 4.
use Rattle.std.specs.Prelude.{List}
use Rattle.dom_selectors.specs.declared.syntax.Combinator.{Combinator}
use Rattle.dom_selectors.specs.declared.syntax.Part.{Part}

mutual
  -- a compound selector: simple selectors and nested selector lists, all of which have to match one node
  pub data CompoundSelector : Type 0 where
    compound : List Part → NestedLists → CompoundSelector

  -- the selector lists nested in a compound selector
  pub data NestedLists : Type 0 where
    no_lists : NestedLists
    nested : NestedList → NestedLists → NestedLists

  pub data NestedList : Type 0 where
    -- the lists of `:is` and `:where`, and of `:not`
    is_list : SelectorList → NestedList
    not_list : SelectorList → NestedList
    -- the list of `:has`
    has_list : SelectorList → NestedList

  pub data SelectorList : Type 0 where
    no_selectors : SelectorList
    -- A complex selector, and the others of the list. The combinator comes before its first compound selector; it counts in
    -- `:has` alone.
    alternative : Combinator → CompoundSelector → Steps → SelectorList → SelectorList

  -- the compound selectors after the first, each with the combinator before it
  pub data Steps : Type 0 where
    no_steps : Steps
    step : Combinator → CompoundSelector → Steps → Steps
