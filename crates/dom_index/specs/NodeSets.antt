-- Sets of nodes, stored as one flag for each node.
use Rattle.std.specs.Prelude.{ℕ, ◌≡◌, ◌<◌, ◌&&◌, ◌||◌, not, Bool, true, false, List, Option, None, Some, length, slice_index_or, slice_set}
use Rattle.std.specs.Option.{option_map_or}
use Rattle.dom_links.specs.Forest.{Forest}
use Rattle.dom_links.specs.ListMoves.{element_at}
use Rattle.dom_selectors.specs.declared.syntax.Combinator.{Combinator}
use Rattle.dom_selectors.specs.declared.syntax.Combinator.TheVariants.{Descendant, Child, Adjacent, Sibling}
use Rattle.dom_selectors.specs.Spelling.{Decides}
use Rattle.dom_select.specs.Leftward.{ends_at, left_of}
use Rattle.dom_select.specs.Meaning.{Holds, CombinatorHolds}
use Rattle.dom_selectors.specs.Syntax.{CompoundSelector}

abbrev pub in_set : List Bool → ℕ → Bool
in_set table n = slice_index_or table n false

-- the set contains exactly those ids below `count` for which the statement holds
pub record IsSetOf (table : List Bool) (count : ℕ) (P : ℕ → Type 0) : Type 0 where
  pub long : length table ≡ count
  pub each : (n : ℕ) → n < count → Decides (in_set table n) (P n)

-- of the ids in the set `wanted`, the set contains exactly those for which the statement holds; the flags of other ids do not
-- matter
pub record IsSetWithin (wanted table : List Bool) (count : ℕ) (P : ℕ → Type 0) : Type 0 where
  pub long : length table ≡ count
  pub each : (n : ℕ) → n < count → in_set wanted n ≡ true → Decides (in_set table n) (P n)

-- a subset that lacks only nodes that the compound selector doesn't match
pub record IsPrefiltered (forest : Forest) (c : CompoundSelector) (table other : List Bool) : Type 0 where
  pub long : length table ≡ length other
  pub answer : (n : ℕ) → n < length other → in_set table n ≡ true → in_set other n ≡ true
  pub kept : (n : ℕ) → n < length other → in_set other n ≡ true → Holds c forest n → in_set table n ≡ true

-- the compound selector matches each node of the set
abbrev pub AllHold : Forest → CompoundSelector → List Bool → Type 0
AllHold forest c table = (n : ℕ) → n < length forest.content → in_set table n ≡ true → Holds c forest n

-- whether the node may be an operand of the combinator: beside `+` and `~` it has to be an element
abbrev pub may_be_operand : Forest → Combinator → ℕ → Bool
may_be_operand forest Descendant v = true
may_be_operand forest Child v = true
may_be_operand forest Adjacent v = element_at forest v
may_be_operand forest Sibling v = element_at forest v

-- the node is in the set and may be an operand of the combinator
abbrev pub IsOperandIn : Forest → Combinator → List Bool → ℕ → Type 0
IsOperandIn forest k table v = (may_be_operand forest k v && in_set table v) ≡ true

-- the combinator relates a node of the set to `n` on its right
abbrev pub HasLeftOperand : Forest → Combinator → List Bool → ℕ → Type 0
HasLeftOperand forest k table n = (v : ℕ) × CombinatorHolds forest k v n × IsOperandIn forest k table v

-- the combinator relates `n` on its left to a node of the set
abbrev pub HasRightOperand : Forest → Combinator → List Bool → ℕ → Type 0
HasRightOperand forest k table n = (v : ℕ) × CombinatorHolds forest k n v × IsOperandIn forest k table v

-- `v` is an allowed operand in the set, or passes its own flag on
abbrev pub propagates : Forest → Combinator → List Bool → List Bool → ℕ → Bool
propagates forest k table flags v = (may_be_operand forest k v && in_set table v) || (not (ends_at forest k v) && in_set flags v)

-- the flag of a node, computed from the next node to its left
abbrev pub reached_from : Forest → Combinator → List Bool → List Bool → Option ℕ → Bool
reached_from forest k table flags left = option_map_or (propagates forest k table flags) left false

-- the flag of `n`
abbrev pub is_reached : Forest → Combinator → List Bool → List Bool → ℕ → Bool
is_reached forest k table flags n = reached_from forest k table flags (left_of forest k n)

-- the set with one more node, if there is one
abbrev pub with_node : List Bool → Option ℕ → List Bool
with_node table None = table
with_node table (Some n) = slice_set table n true

-- the intersection of two sets, their union, and the complement of a set
pub record IsIntersection (table one other : List Bool) : Type 0 where
  pub long : length table ≡ length one
  pub each : (n : ℕ) → n < length one → in_set table n ≡ (in_set one n && in_set other n)

pub record IsUnion (table one other : List Bool) : Type 0 where
  pub long : length table ≡ length one
  pub each : (n : ℕ) → n < length one → in_set table n ≡ (in_set one n || in_set other n)

pub record IsComplement (table other : List Bool) : Type 0 where
  pub long : length table ≡ length other
  pub each : (n : ℕ) → n < length other → in_set table n ≡ not (in_set other n)

-- the nodes of the other set that may be operands of the combinator
pub record AreOperands (forest : Forest) (k : Combinator) (table other : List Bool) : Type 0 where
  pub long : length table ≡ length other
  pub each : (n : ℕ) → n < length other → in_set table n ≡ (in_set other n && may_be_operand forest k n)
