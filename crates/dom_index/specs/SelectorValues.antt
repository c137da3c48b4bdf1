-- What a selector that the program holds means, and how many compound selectors it has.
use Rattle.std.specs.Prelude.{ℕ, ◌+◌, List}
use Rattle.dom_links.specs.Forest.{Forest}
use Rattle.dom_selectors.specs.declared.syntax.Combinator.{Combinator}
use Rattle.dom_selectors.specs.declared.syntax.Compound.{Compound}
use Rattle.dom_selectors.specs.declared.syntax.Nested.{Nested}
use Rattle.dom_selectors.specs.declared.syntax.Selector.{Selector}
use Rattle.dom_selectors.specs.declared.syntax.Step.{Step}
use Rattle.dom_selectors.specs.ValuesAsTrees.{read_compound, read_list, read_lists, read_nested, read_steps}
use Rattle.dom_select.specs.Meaning.{ChainMatches, Holds, ListsHold, RelativeMatches}
use Rattle.dom_index.specs.CompoundCounts.{compound_count, list_count, lists_count, selectors_count, steps_count}

-- the compound selector matches `n`
abbrev pub CompoundHolds : Compound → Forest → ℕ → Type 0
CompoundHolds c forest n = Holds (read_compound c) forest n

-- each of the nested lists matches `n`
abbrev pub NestedHold : List Nested → Forest → ℕ → Type 0
NestedHold lists forest n = ListsHold (read_lists lists) forest n

-- the complex selector matches `n`
abbrev pub ChainHolds : Compound → List Step → Forest → ℕ → Type 0
ChainHolds first steps forest n = ChainMatches (Holds (read_compound first) forest) (read_steps steps) forest n n

-- the relative selector matches an element, with `n` as the anchor
abbrev pub RelativeHolds : Combinator → Compound → List Step → Forest → ℕ → Type 0
RelativeHolds lead first steps forest n = RelativeMatches lead (read_compound first) (read_steps steps) forest n

-- The number of compound selectors, including those in nested lists: in a compound selector, in nested lists, in one of them, in
-- steps, in a complex selector, and in a list of selectors.
abbrev pub compounds_in : Compound → ℕ
compounds_in c = compound_count (read_compound c)

abbrev pub compounds_nested : List Nested → ℕ
compounds_nested lists = lists_count (read_lists lists)

abbrev pub compounds_listed : Nested → ℕ
compounds_listed list = list_count (read_nested list)

abbrev pub compounds_behind : List Step → ℕ
compounds_behind steps = steps_count (read_steps steps)

abbrev pub compounds_of : Compound → List Step → ℕ
compounds_of first steps = compounds_in first + compounds_behind steps

abbrev pub compounds_among : List Selector → ℕ
compounds_among selectors = selectors_count (read_list selectors)
