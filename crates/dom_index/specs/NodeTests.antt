-- Prepared tests of compound selectors.
use Rattle.std.specs.Prelude.{ℕ, ◌≡◌, List, Some, map, slice_get, IfSome}
use Rattle.std.specs.Option.{option_map_or}
use Rattle.dom_selectors.specs.declared.syntax.Combinator.{Combinator}
use Rattle.dom_selectors.specs.declared.syntax.Combinator.TheVariants.{Descendant}
use Rattle.dom_selectors.specs.declared.syntax.Selector.{Selector, out-Selector}
use Rattle.dom_selectors.specs.declared.syntax.Step.{Step}
use Rattle.dom_selectors.specs.ValuesAsTrees.{read_compound, read_step}
use Rattle.dom_index.specs.declared.node_tests.NodeTest.{NodeTest}
use Rattle.dom_index.specs.FlagRows.{AreAlong}
use Rattle.dom_index.specs.TypeBytes.{IsTypeFilterOf}

-- its type filter belongs to its compound selector
abbrev pub IsReady : NodeTest → Type 0
IsReady test = IfSome test.name (IsTypeFilterOf (read_compound test.compound.now))

-- the combinator of the first step; without steps any combinator will do
abbrev pub way_of : List Step → Combinator
way_of steps = option_map_or (λ (s : Step). s.combinator) (slice_get steps 0) Descendant

-- the combinators are only whitespace and `>`, or only `+` and `~`
abbrev pub IsPlain : List Step → Type 0
IsPlain steps = AreAlong (way_of steps) (map read_step steps)

abbrev pub ArePlain : List Selector → Type 0
ArePlain selectors = (i : ℕ) (s : Selector) → slice_get selectors i ≡ Some s → IsPlain (out-Selector s).rest.items
