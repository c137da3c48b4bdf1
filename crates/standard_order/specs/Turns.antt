-- Tree construction (13.2.6) turn by turn: a turn begins where the dispatcher begins with a token, and each must begin in a state that
-- passes a test. None comes where one begins in another state.
use Rattle.std.specs.Prelude.{Bool, List, None, Option, Some, [], false, not, suc, true, zero, ℕ, ◌&&◌, ◌∷◌}
use Rattle.std.specs.Option.{option_and_then}
use Rattle.standard_tokens.specs.Tokens.{Token}
use Rattle.standard_trees.specs.Building.{Building, is_line_feed, perform, performed, taken, with_next}
use Rattle.standard_trees.specs.RuleWords.{Dispatcher, Mode}
use Rattle.standard_trees.specs.TreeRules.{rules}

abbrev pub is_dispatcher : Mode → Bool
is_dispatcher Dispatcher = true
is_dispatcher _ = false

-- a turn begins there, and the state doesn't pass
abbrev pub is_barred : (Building → Bool) → Mode → Building → Bool
is_barred test mode b = is_dispatcher mode && not (test b)

-- process the current token using the rules for a mode, as `run` does
unfoldable pub run_while : (Building → Bool) → ℕ → Mode → Building → Option Building
unfolding rules taken perform
run_while test zero mode b = None
run_while test (suc depth) mode b =
    elim (is_barred test mode b) [ true ↦ None | false ↦ performed (run_while test depth) (taken b (rules mode)) b ]

-- process a token, as `tree_step` does
unfoldable pub tree_step_while : (Building → Bool) → ℕ → Building → Token → Option Building
unfolding run_while
tree_step_while test depth b token =
    elim (b.skip && is_line_feed token) [
      | true ↦ Some (with_next token b)
      | false ↦ run_while test depth Dispatcher (with_next token b)
    ]

-- process tokens in their order, as `tree_steps` does
abbrev pub tree_steps_while : (Building → Bool) → ℕ → Building → List Token → Option Building
tree_steps_while test depth b [] = Some b
tree_steps_while test depth b (token ∷ more) =
    option_and_then (λ after. tree_steps_while test depth after more) (tree_step_while test depth b token)
