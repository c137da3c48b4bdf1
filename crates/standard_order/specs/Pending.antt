-- What is so of the pending table character tokens (13.2.6.4.10) wherever a turn of tree construction begins, whatever tokens come.
use Rattle.std.specs.Prelude.{◌≡◌, ◌==◌, ◌&&◌, Bool, List, Some, not, ℕ}
use Rattle.std.specs.List.{list_all}
use Rattle.standard_tokens.specs.Tokens.{Token}
use Rattle.standard_trees.specs.Building.{Building}
use Rattle.standard_order.specs.Beginnings.{Beginning, first_building}
use Rattle.standard_order.specs.Turns.{tree_steps_while}

-- none of these characters is a null
abbrev pub without_nulls : List ℕ → Bool
without_nulls cs = list_all (λ c. not (c == 0)) cs

-- the state passes a test, and no pending table character token is a null
abbrev pub without_nulls_too : (Building → Bool) → Building → Bool
without_nulls_too test b = test b && without_nulls b.pending

-- No null becomes pending: where turns that pass a test lead, turns lead that also begin where no pending character is a null.
abbrev pub NoNullIsPending : Type 0
NoNullIsPending = (test : Building → Bool) (depth : ℕ) (beginning : Beginning) (tokens : List Token) (end : Building) →
    tree_steps_while test depth (first_building beginning) tokens ≡ Some end →
    tree_steps_while (without_nulls_too test) depth (first_building beginning) tokens ≡ Some end
