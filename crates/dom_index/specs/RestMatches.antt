-- Matching the rest of a selector from a node that is not the anchor.
use Rattle.std.specs.Prelude.{ℕ, ◌≡◌, true}
use Rattle.dom_links.specs.Forest.{Forest}
use Rattle.dom_links.specs.ListMoves.{element_at}
use Rattle.dom_selectors.specs.declared.syntax.Combinator.{Combinator}
use Rattle.dom_selectors.specs.Syntax.{CompoundSelector, Steps, no_steps, step}
use Rattle.dom_select.specs.Meaning.{Holds, CombinatorHolds}
use Rattle.dom_index.specs.NodeSets.{may_be_operand}

-- the steps can be matched from `n` to their end, at an element
abbrev pub RestMatches : Steps → Forest → ℕ → Type 0
RestMatches no_steps forest n = element_at forest n ≡ true
RestMatches (step k c more) forest n =
    (may_be_operand forest k n ≡ true) × ((v : ℕ) × CombinatorHolds forest k n v × (may_be_operand forest k v ≡ true) × Holds c forest v × RestMatches more forest v)

-- the combinator relates `n` to a node that the compound selector matches, and from there the other steps can be matched
abbrev pub StepMatches : Combinator → CompoundSelector → Steps → Forest → ℕ → Type 0
StepMatches k c more forest n =
    (v : ℕ) × CombinatorHolds forest k n v × (may_be_operand forest k v ≡ true) × Holds c forest v × RestMatches more forest v
