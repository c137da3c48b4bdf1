-- Selectors in a traversal.
use Rattle.std.specs.Prelude.{ℕ, ◌≡◌, ◌⊎◌, ◌+◌, ◌*◌, ◌++◌, Bool, true, false, List, [], ◌∷◌, Option, None, Some, length, map, slice_get, slice_index_or, take}
use Rattle.dom_links.specs.Forest.{Forest}
use Rattle.dom_links.specs.ListMoves.{element_at}
use Rattle.dom_links.specs.Lists.{first}
use Rattle.dom_selectors.specs.declared.syntax.Combinator.{Combinator}
use Rattle.dom_selectors.specs.declared.syntax.Selector.{Selector, out-Selector}
use Rattle.dom_selectors.specs.Spelling.{Decides}
use Rattle.dom_selectors.specs.Syntax.{CompoundSelector}
use Rattle.dom_selectors.specs.ValuesAsTrees.{read_compound, read_step}
use Rattle.dom_select.specs.Leftward.{left_of, line}
use Rattle.dom_index.specs.declared.chains.Chain.{Chain}
use Rattle.dom_index.specs.declared.node_tests.NodeTest.{NodeTest}
use Rattle.dom_index.specs.declared.streaming.Rows.{Rows}
use Rattle.dom_index.specs.FlagRows.{AreAlong, AreFlags, PropagatesFrom, StepsReach, compound_at}
use Rattle.dom_index.specs.NodeSets.{in_set}
use Rattle.dom_index.specs.NodeTests.{IsReady}

-- the steps of a chain, and its first compound selector
abbrev pub steps_in : Chain → List (Combinator × CompoundSelector)
steps_in chain = map read_step chain.steps.now

abbrev pub first_in : Chain → CompoundSelector
first_in chain = read_compound chain.first.now

-- a test for each of its compounds; its combinators go one way
pub record IsPrepared (chain : Chain) : Type 0 where
  pub count : length chain.tests.items ≡ length chain.steps.now + 1
  pub tests : (i : ℕ) (test : NodeTest) → slice_get chain.tests.items i ≡ Some test → IsReady test × (compound_at (first_in chain) (steps_in chain) i ≡ Some (read_compound test.compound.now))
  pub along : AreAlong chain.way (steps_in chain)

abbrev pub ArePrepared : List Chain → Type 0
ArePrepared chains = (i : ℕ) (chain : Chain) → slice_get chains i ≡ Some chain → IsPrepared chain

-- the next node to the left of `n` in the direction of the chain, and all nodes in that direction
abbrev pub left_in : Chain → Forest → ℕ → Option ℕ
left_in chain forest n = left_of forest chain.way n

abbrev pub line_in : Chain → Forest → ℕ → List ℕ
line_in chain forest n = line forest chain.way n

-- the flags at the nodes whose next node to the left is `left`; with `None`, at a node that has none
abbrev pub FlagsRight : Chain → Forest → Option ℕ → List Bool → Type 0
FlagsRight chain forest left flags = AreFlags forest (first_in chain) (steps_in chain) left flags

-- the flag of the step at this index, at the nodes to the right of `n`
abbrev pub IsStepFlag : Chain → Forest → ℕ → ℕ → Bool → Type 0
IsStepFlag chain forest n i flag =
    (s : Combinator × CompoundSelector) → slice_get (steps_in chain) i ≡ Some s → Decides flag (PropagatesFrom forest s.0 (StepsReach forest (first_in chain) (take i (steps_in chain))) (Some n))

-- the row of `n` stores that flag at this index
abbrev pub IsStepFlagAt : Chain → Forest → ℕ → List Bool → ℕ → Type 0
IsStepFlagAt chain forest n flags i = IsStepFlag chain forest n i (slice_index_or flags (n * length chain.steps.now + i) false)

-- the flags are those at a node of the forest, and the caches belong to the forest
pub record AreFlagsAt (chain : Chain) (forest : Forest) (n : ℕ) (flags : List Bool) (caches : Forest) : Type 0 where
  pub prepared : IsPrepared chain
  pub flags_are : FlagsRight chain forest (left_in chain forest n) flags
  pub caches_are : caches ≡ forest

-- The row of `n` is as long as there are steps, and starts at `n` times that length. It has the flags at the nodes to the right
-- of `n`.
abbrev pub IsRow : Chain → Forest → ℕ → List Bool → Type 0
IsRow chain forest n flags = (j : ℕ) → IsStepFlagAt chain forest n flags j

-- the row of the node is filled, if there is a node
abbrev pub IsFilledAt : List Bool → Option ℕ → Type 0
IsFilledAt filled None = Unit {0}
IsFilledAt filled (Some n) = in_set filled n ≡ true

-- Each filled row has the flags of its node, and `none` is the row at a node with no node to its left.
pub record IsTracked (chain : Chain) (forest : Forest) (rows : Rows) : Type 0 where
  pub none : FlagsRight chain forest None rows.none.items
  pub long : length rows.flags.items ≡ length forest.content * length chain.steps.now
  pub count : length rows.filled.items ≡ length forest.content
  pub rows_are : (n : ℕ) → in_set rows.filled.items n ≡ true → IsRow chain forest n rows.flags.items

-- the selector matches the node
abbrev pub Reaches : Chain → Forest → ℕ → Type 0
Reaches chain forest n = StepsReach forest (first_in chain) (steps_in chain) n

-- The nodes to the left of `n` are the missing ones, and then one whose row is filled, if any is left.
abbrev pub IsOnWay : Chain → Forest → ℕ → List Bool → List ℕ → Type 0
IsOnWay chain forest n filled missing = (rest : List ℕ) × (line_in chain forest n ≡ missing ++ rest) × IsFilledAt filled (first rest)

-- the chain is prepared, its rows are those of the forest, and the caches belong to the forest
pub record IsFollowing (chain : Chain) (rows : Rows) (forest caches : Forest) : Type 0 where
  pub prepared : IsPrepared chain
  pub tracked : IsTracked chain forest rows
  pub caches_are : caches ≡ forest

-- several chains: each is tracked by the rows at its index, and in `AreFollowing` all are prepared, too
abbrev pub AreTracked : List Chain → Forest → List Rows → Type 0
AreTracked chains forest all = (i : ℕ) (chain : Chain) (rows : Rows) → slice_get chains i ≡ Some chain → slice_get all i ≡ Some rows → IsTracked chain forest rows

pub record AreFollowing (chains : List Chain) (all : List Rows) (forest caches : Forest) : Type 0 where
  pub prepared : ArePrepared chains
  pub long : length all ≡ length chains
  pub tracked : AreTracked chains forest all
  pub caches_are : caches ≡ forest

-- one of the selectors matches the node
abbrev pub SomeReaches : List Chain → Forest → ℕ → Type 0
SomeReaches [] forest n = ⊥
SomeReaches (chain ∷ chains) forest n = Reaches chain forest n ⊎ SomeReaches chains forest n

-- the node is an element, and one of the selectors matches it
abbrev pub IsReached : List Chain → Forest → ℕ → Type 0
IsReached chains forest n = (element_at forest n ≡ true) × SomeReaches chains forest n

-- the chain of a selector, and the chains of several
pub record IsChainOf (s : Selector) (chain : Chain) : Type 0 where
  pub prepared : IsPrepared chain
  pub first : first_in chain ≡ read_compound (out-Selector s).first
  pub steps : steps_in chain ≡ map read_step (out-Selector s).rest.items

abbrev pub AreChainsOf : List Selector → List Chain → Type 0
AreChainsOf [] chains = chains ≡ []
AreChainsOf (s ∷ ss) [] = ⊥
AreChainsOf (s ∷ ss) (chain ∷ chains) = IsChainOf s chain × AreChainsOf ss chains
