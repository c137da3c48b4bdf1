-- How many compound selectors a selector list has, including those in nested lists.
use Rattle.std.specs.Prelude.{ℕ, ◌+◌}
use Rattle.dom_selectors.specs.Syntax.{CompoundSelector, compound, NestedLists, no_lists, nested, NestedList, is_list, not_list, has_list, SelectorList, no_selectors, alternative, Steps, no_steps, step}

abbrev mutual
  pub compound_count : CompoundSelector → ℕ
  compound_count (compound parts lists) = 1 + lists_count lists

  pub lists_count : NestedLists → ℕ
  lists_count no_lists = 0
  lists_count (nested list more) = list_count list + lists_count more

  pub list_count : NestedList → ℕ
  list_count (is_list list) = selectors_count list
  list_count (not_list list) = selectors_count list
  list_count (has_list list) = selectors_count list

  pub selectors_count : SelectorList → ℕ
  selectors_count no_selectors = 0
  selectors_count (alternative lead first rest more) = (compound_count first + steps_count rest) + selectors_count more

  pub steps_count : Steps → ℕ
  steps_count no_steps = 0
  steps_count (step k c more) = compound_count c + steps_count more
