-- The number of tests of a selection by node sets: one for each compound selector at each node of its set.
use Rattle.std.specs.Prelude.{ℕ, ◌≡◌, ◌<◌, ◌+◌, ◌^◌, Bool, true, List, Result, IfOk, length, replicate}
use Rattle.std.specs.List.{count_by}
use Rattle.dom_links.specs.Forest.{Forest}
use Rattle.dom_selectors.specs.Syntax.{CompoundSelector, compound, NestedLists, no_lists, nested, NestedList, is_list, not_list, has_list, SelectorList, no_selectors, alternative, Steps, no_steps, step}
use Rattle.dom_select.specs.Meaning.{Holds, ListHolds}
use Rattle.dom_index.specs.RestMatches.{RestMatches}
use Rattle.dom_index.specs.NodeSets.{IsPrefiltered, IsSetOf, HasLeftOperand, in_set}

-- the number of nodes in a set
abbrev pub cardinality : List Bool → ℕ
cardinality table = count_by (λ b. b) table

-- the set of all nodes
abbrev pub everywhere : Forest → List Bool
everywhere forest = replicate (length forest.content) true

-- the nodes of the set that a nested list matches
abbrev pub IsFilteredByList : NestedList → Forest → List Bool → List Bool → Type 0
IsFilteredByList list forest wanted left = IsSetOf left (length forest.content) (λ n. (in_set wanted n ≡ true) × ListHolds list forest n)

-- the nodes of the set that a compound selector matches
abbrev pub IsFilteredByCompound : CompoundSelector → Forest → List Bool → List Bool → Type 0
IsFilteredByCompound c forest wanted held = IsSetOf held (length forest.content) (λ n. (in_set wanted n ≡ true) × Holds c forest n)

-- The last compound selector is tested only at nodes of the set, and every other one wherever the combinators lead.
abbrev pub IsNeeded : Steps → List Bool → ℕ → Type 0
IsNeeded no_steps wanted n = in_set wanted n ≡ true
IsNeeded (step k c more) wanted n = Unit {0}

abbrev mutual
  -- A compound selector is tested once at each node of the set. Its nested lists are tested at some of these, at least at those
  -- that it matches.
  pub CompoundTests : CompoundSelector → Forest → List Bool → ℕ → Type 0
  CompoundTests (compound parts lists) forest wanted tests =
      (left : List Bool) × (more : ℕ) × IsPrefiltered forest (compound parts lists) left wanted × ListsTests lists forest left more × (tests ≡ cardinality wanted + more)

  -- each nested list is tested at the nodes that the lists before it match
  pub ListsTests : NestedLists → Forest → List Bool → ℕ → Type 0
  ListsTests no_lists forest wanted tests = tests ≡ 0
  ListsTests (nested list more) forest wanted tests =
      (left : List Bool) × (one : ℕ) × (others : ℕ) × IsFilteredByList list forest wanted left × ListTests list forest wanted one × ListsTests more forest left others × (tests ≡ one + others)

  pub ListTests : NestedList → Forest → List Bool → ℕ → Type 0
  ListTests (is_list list) forest wanted tests = SelectorsTests list forest wanted tests
  ListTests (not_list list) forest wanted tests = SelectorsTests list forest wanted tests
  ListTests (has_list list) forest wanted tests = HasTests list forest tests

  -- each selector is tested from its first compound selector on
  pub SelectorsTests : SelectorList → Forest → List Bool → ℕ → Type 0
  SelectorsTests no_selectors forest wanted tests = tests ≡ 0
  SelectorsTests (alternative lead first rest more) forest wanted tests =
      (here : List Bool) × (held : List Bool) × (one : ℕ) × (behind : ℕ) × (others : ℕ) × IsSetOf here (length forest.content) (IsNeeded rest wanted)
      × CompoundTests first forest here one × IsFilteredByCompound first forest here held × StepsTests rest forest held wanted behind × SelectorsTests more forest wanted others × (tests ≡ (one + behind) + others)

  -- each later compound selector is tested at the nodes that its combinator relates to matches of the one before
  pub StepsTests : Steps → Forest → List Bool → List Bool → ℕ → Type 0
  StepsTests no_steps forest before wanted tests = tests ≡ 0
  StepsTests (step k c more) forest before wanted tests =
      (here : List Bool) × (held : List Bool) × (one : ℕ) × (behind : ℕ) × IsSetOf here (length forest.content) (λ n. HasLeftOperand forest k before n × IsNeeded more wanted n)
      × CompoundTests c forest here one × IsFilteredByCompound c forest here held × StepsTests more forest held wanted behind × (tests ≡ one + behind)

  -- in `:has`, each compound selector is tested at the nodes from which the later ones can be matched
  pub HasTests : SelectorList → Forest → ℕ → Type 0
  HasTests no_selectors forest tests = tests ≡ 0
  HasTests (alternative lead first rest more) forest tests =
      (here : List Bool) × (one : ℕ) × (behind : ℕ) × (others : ℕ) × IsSetOf here (length forest.content) (RestMatches rest forest)
      × CompoundTests first forest here one × RestTests rest forest behind × HasTests more forest others × (tests ≡ (behind + one) + others)

  pub RestTests : Steps → Forest → ℕ → Type 0
  RestTests no_steps forest tests = tests ≡ 0
  RestTests (step k c more) forest tests =
      (here : List Bool) × (one : ℕ) × (behind : ℕ) × IsSetOf here (length forest.content) (RestMatches more forest) × CompoundTests c forest here one × RestTests more forest behind × (tests ≡ behind + one)

-- the tests of one selector of a list, and those of one relative selector of `:has`
abbrev pub SelectorTests : CompoundSelector → Steps → Forest → List Bool → ℕ → Type 0
SelectorTests first rest forest wanted tests =
    (here : List Bool) × (held : List Bool) × (one : ℕ) × (behind : ℕ) × IsSetOf here (length forest.content) (IsNeeded rest wanted)
    × CompoundTests first forest here one × IsFilteredByCompound first forest here held × StepsTests rest forest held wanted behind × (tests ≡ one + behind)

abbrev pub RelativeTests : CompoundSelector → Steps → Forest → ℕ → Type 0
RelativeTests first rest forest tests =
    (here : List Bool) × (one : ℕ) × (behind : ℕ) × IsSetOf here (length forest.content) (RestMatches rest forest) × CompoundTests first forest here one × RestTests rest forest behind × (tests ≡ behind + one)

-- this many tests were added to `old`, unless the counter overflows
abbrev pub AddsTests : ℕ → ℕ → (ℕ → Type 0) → Type 0
AddsTests old new Asks = (asked : ℕ) × Asks asked × (old + asked < 2 ^ 128 → new ≡ old + asked)

-- this many tests were added, if the call succeeds
abbrev pub Counts : {T E : Type 0} → Result T E → ℕ → ℕ → (ℕ → Type 0) → Type 0
Counts result old new Asks = IfOk result (λ _. AddsTests old new Asks)

-- one test for each node of the set
abbrev pub IsCardinality : List Bool → ℕ → Type 0
IsCardinality table tests = tests ≡ cardinality table

-- the tests of a selection among all nodes
abbrev pub SelectionTests : SelectorList → Forest → ℕ → Type 0
SelectionTests list forest tests = SelectorsTests list forest (everywhere forest) tests
