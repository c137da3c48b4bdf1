-- Rows of flags with one flag for each step of a selector. A flag at a node says whether the compound selectors before the step
-- match a node that the step's combinator relates to it.
use Rattle.std.specs.Prelude.{ℕ, suc, zero, ◌≡◌, ◌⊎◌, true, Bool, false, List, Option, Some, None, length, take, slice_get, slice_index_or}
use Rattle.std.specs.Option.{option_map}
use Rattle.dom_links.specs.Forest.{Forest}
use Rattle.dom_selectors.specs.declared.syntax.Combinator.{Combinator}
use Rattle.dom_selectors.specs.declared.syntax.Combinator.TheVariants.{Descendant, Child, Adjacent, Sibling}
use Rattle.dom_selectors.specs.ListsAsTrees.{steps_of}
use Rattle.dom_selectors.specs.Spelling.{Decides}
use Rattle.dom_selectors.specs.Syntax.{CompoundSelector}
use Rattle.dom_select.specs.Leftward.{ends_at}
use Rattle.dom_select.specs.Meaning.{ChainMatches, CombinatorHolds, Holds}
use Rattle.dom_index.specs.NodeSets.{may_be_operand}

-- the first compound selector and the steps match `n`
abbrev pub StepsReach : Forest → CompoundSelector → List (Combinator × CompoundSelector) → ℕ → Type 0
StepsReach forest first steps n = ChainMatches (Holds first forest) (steps_of steps) forest n n

-- the combinator relates a node to `n` on its left for which `Q` holds
abbrev pub HasLeft : Forest → Combinator → (ℕ → Type 0) → ℕ → Type 0
HasLeft forest k Q n = (v : ℕ) × CombinatorHolds forest k v n × ((may_be_operand forest k v ≡ true) × Q v)

-- `v` is an allowed operand for which `Q` holds, or passes on that such a node is farther to its left
abbrev pub Propagates : Forest → Combinator → (ℕ → Type 0) → ℕ → Type 0
Propagates forest k Q v = ((may_be_operand forest k v ≡ true) × Q v) ⊎ ((ends_at forest k v ≡ true → ⊥) × HasLeft forest k Q v)

-- there is a next node to the left, and it is such an operand or passes on that one is farther to its left
abbrev pub PropagatesFrom : Forest → Combinator → (ℕ → Type 0) → Option ℕ → Type 0
PropagatesFrom forest k Q None = ⊥
PropagatesFrom forest k Q (Some v) = Propagates forest k Q v

-- the combinator relates siblings
abbrev pub is_sideways : Combinator → Bool
is_sideways Descendant = false
is_sideways Child = false
is_sideways Adjacent = true
is_sideways Sibling = true

-- all combinators of the steps go to ancestors, or all go to previous siblings
abbrev pub AreAlong : Combinator → List (Combinator × CompoundSelector) → Type 0
AreAlong way steps = (j : ℕ) (s : Combinator × CompoundSelector) → slice_get steps j ≡ Some s → is_sideways s.0 ≡ is_sideways way

-- the flags of the steps at the nodes whose next node to the left is `left`; with `None`, at a node that has none
pub record AreFlags (forest : Forest) (first : CompoundSelector) (steps : List (Combinator × CompoundSelector)) (left : Option ℕ) (flags : List Bool) : Type 0 where
  pub long : length flags ≡ length steps
  pub each : (j : ℕ) (s : Combinator × CompoundSelector) → slice_get steps j ≡ Some s → Decides (slice_index_or flags j false) (PropagatesFrom forest s.0 (StepsReach forest first (take j steps)) left)

-- the compound selector at this index: 0 is the first, and the others are those of the steps
abbrev pub compound_at : CompoundSelector → List (Combinator × CompoundSelector) → ℕ → Option CompoundSelector
compound_at first steps zero = Some first
compound_at first steps (suc j) = option_map (λ s. s.1) (slice_get steps j)

-- whether that compound selector is reached; the first one is reached everywhere
abbrev pub reached_at : List Bool → ℕ → Bool
reached_at flags zero = true
reached_at flags (suc j) = slice_index_or flags j false
