-- A number that falls from a selector to its parts.
use Rattle.std.proofs.Common.{ℕ, ◌+◌}
use Rattle.dom_selectors.specs.Syntax.{CompoundSelector, compound, NestedLists, no_lists, nested, NestedList, is_list, not_list, has_list, SelectorList, no_selectors, alternative, Steps, no_steps, step}

abbrev mutual
  pub compound_weight : CompoundSelector → ℕ
  compound_weight (compound parts lists) = 1 + lists_weight lists

  pub lists_weight : NestedLists → ℕ
  lists_weight no_lists = 0
  lists_weight (nested list more) = 1 + list_weight list + lists_weight more

  pub list_weight : NestedList → ℕ
  list_weight (is_list list) = 1 + selectors_weight list
  list_weight (not_list list) = 1 + selectors_weight list
  list_weight (has_list list) = 1 + selectors_weight list

  pub selectors_weight : SelectorList → ℕ
  selectors_weight no_selectors = 0
  selectors_weight (alternative lead first rest more) = 12 + compound_weight first + steps_weight rest + selectors_weight more

  pub steps_weight : Steps → ℕ
  steps_weight no_steps = 0
  steps_weight (step k c more) = 2 + compound_weight c + steps_weight more
