-- What is so of skipping a line feed and of switching the tokenizer wherever a turn of tree construction (13.2.6) begins, whatever tokens
-- come.
use Rattle.std.specs.Prelude.{◌≡◌, ◌&&◌, Bool, List, None, Option, Some, false, not, true, ℕ}
use Rattle.standard_tokens.specs.Tokens.{Token}
use Rattle.standard_trees.specs.Building.{Building}
use Rattle.standard_trees.specs.RuleWords.{TextState}
use Rattle.standard_order.specs.Beginnings.{Beginning, first_building}
use Rattle.standard_order.specs.Turns.{tree_steps_while}

abbrev pub is_unswitched : Option TextState → Bool
is_unswitched None = true
is_unswitched (Some state) = false

-- no line feed is to be skipped, and the tokenizer is not switched since the token before
abbrev pub is_begun : Building → Bool
is_begun b = not b.skip && is_unswitched b.tokenizer

-- the state passes a test, and that is so
abbrev pub begun_too : (Building → Bool) → Building → Bool
begun_too test b = test b && is_begun b

-- What a rule says of the next token, it says last: where turns that pass a test lead, turns lead that also begin in such states.
abbrev pub TurnsAreBegun : Type 0
TurnsAreBegun = (test : Building → Bool) (depth : ℕ) (beginning : Beginning) (tokens : List Token) (end : Building) →
    tree_steps_while test depth (first_building beginning) tokens ≡ Some end →
    tree_steps_while (begun_too test) depth (first_building beginning) tokens ≡ Some end
