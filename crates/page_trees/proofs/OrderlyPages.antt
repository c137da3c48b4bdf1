-- Of a covered page nothing is asked that is so wherever a turn begins.
use Rattle.std.specs.Prelude.{◌≡◌, refl, ℕ, zero, suc, Bool, true, false, not, ◌&&◌, List, [], ◌∷◌, Option, None, Some}
use Rattle.standard_tokens.specs.Tokens.{Token}
use Rattle.standard_trees.specs.Building.{Building, is_line_feed, performed, taken, with_next}
use Rattle.standard_trees.specs.RuleWords.{Dispatcher}
use Rattle.standard_trees.specs.TreeRules.{rules}
use Rattle.standard_order.specs.Beginnings.{first_building}
use Rattle.standard_order.specs.Begun.{begun_too, is_begun}
use Rattle.standard_order.specs.CurrentNodes.{current_too, has_current}
use Rattle.standard_order.specs.FormattingListed.{formatting_too, lists_formatting}
use Rattle.standard_order.specs.ListedOnce.{listed_too, lists_each_once}
use Rattle.standard_order.specs.Order.{in_order_too, is_in_order}
use Rattle.standard_order.specs.Pending.{without_nulls, without_nulls_too}
use Rattle.standard_order.proofs.BegunTurns.{turns_are_begun}
use Rattle.standard_order.proofs.CurrentNodes.{current_nodes_are_known}
use Rattle.standard_order.proofs.FormattingTurns.{only_formatting_is_listed}
use Rattle.standard_order.proofs.PendingNulls.{no_null_is_pending}
use Rattle.standard_order.proofs.ListedTurns.{listing_needs_no_test}
use Rattle.standard_order.proofs.TurnsRun.{order_needs_no_test}
use Rattle.page_trees.specs.CoveredTurns.{keeps_plainly}
use Rattle.page_trees.specs.OrderlyTurns.{TurnsAreOrderly, orderly_too}
use Rattle.standard_order.specs.Turns.{is_dispatcher, run_while, tree_step_while, tree_steps_while}
use Rattle.page_trees.proofs.ReturnModes.{returning_too, turns_return}
use Rattle.page_trees.proofs.DeeperRuns.{BelowIn, performed_below, then_below}

-- where one test is passed, so is the other
abbrev pub IsNarrower : (Building → Bool) → (Building → Bool) → Type 0
IsNarrower test other = (b : Building) → test b ≡ true → other b ≡ true

narrower_below : (w x y : Bool) → (x ≡ true → y ≡ true) → (o p : Option Building) → ((c : Building) → o ≡ Some c → p ≡ Some c) →
    (c : Building) → elim (w && not x) [ true ↦ None | false ↦ o ] ≡ Some c → elim (w && not y) [ true ↦ None | false ↦ p ] ≡ Some c
narrower_below false x y narrow o p below c h = below c h
narrower_below true false y narrow o p below c h = cc
narrower_below true true true narrow o p below c h = below c h
narrower_below true true false narrow o p below c h = (let e : false ≡ true = narrow refl in cc)

pub narrower_runs : (test other : Building → Bool) → IsNarrower test other → (d : ℕ) → BelowIn (run_while test d) (run_while other d)
unfolding run_while
narrower_runs test other narrow zero mode b c h = cc
narrower_runs test other narrow (suc d) mode b c h =
    narrower_below (is_dispatcher mode) (test b) (other b) (narrow b) (performed (run_while test d) (taken b (rules mode)) b)
    (performed (run_while other d) (taken b (rules mode)) b)
    (λ x k. performed_below (run_while test d) (run_while other d) (narrower_runs test other narrow d) (taken b (rules mode)) b x k) c h

narrower_step : (test other : Building → Bool) → IsNarrower test other → (d : ℕ) (token : Token) (b c : Building) →
    tree_step_while test d b token ≡ Some c → tree_step_while other d b token ≡ Some c
unfolding tree_step_while
narrower_step test other narrow d token b c h = by (b.skip && is_line_feed token) h
  where
    by : (x : Bool) → elim x [ true ↦ Some (with_next token b) | false ↦ run_while test d Dispatcher (with_next token b) ] ≡ Some c →
        elim x [ true ↦ Some (with_next token b) | false ↦ run_while other d Dispatcher (with_next token b) ] ≡ Some c
    by true k = k
    by false k = narrower_runs test other narrow d Dispatcher (with_next token b) c k

pub narrower_steps : (test other : Building → Bool) → IsNarrower test other → (d : ℕ) (tokens : List Token) (b c : Building) →
    tree_steps_while test d b tokens ≡ Some c → tree_steps_while other d b tokens ≡ Some c
narrower_steps test other narrow d [] b c h = h
narrower_steps test other narrow d (token ∷ more) b c h =
    then_below (λ after. tree_steps_while test d after more) (λ after. tree_steps_while other d after more)
    (λ x y k. narrower_steps test other narrow d more x y k) (tree_step_while test d b token) (tree_step_while other d b token)
    (λ x k. narrower_step test other narrow d token b x k) c h

-- what is so wherever a turn begins, one after another
abbrev pub all_too : (Building → Bool) → Building → Bool
all_too test = formatting_too (current_too (begun_too (listed_too (without_nulls_too (in_order_too (returning_too test))))))

all_orderly : (test : Building → Bool) → IsNarrower (all_too test) (orderly_too test)
all_orderly test b h =
    by (test b) (keeps_plainly b) (is_in_order b) (without_nulls b.pending) (lists_each_once b) (is_begun b) (has_current b)
    (lists_formatting b) h
  where
    by : (x y z w v u s r : Bool) → ((((((x && y) && z) && w) && v) && u) && s) && r ≡ true →
        x && (y && (z && (w && (v && (u && (s && r)))))) ≡ true
    by true true true true true true s r k = k
    by true true true true true false s r k = k
    by true true true true false u s r k = k
    by true true true false v u s r k = k
    by true true false w v u s r k = k
    by true false z w v u s r k = k
    by false y z w v u s r k = k

pub turns_are_orderly : TurnsAreOrderly
turns_are_orderly test depth beginning tokens end h =
    narrower_steps (all_too test) (orderly_too test) (all_orderly test) depth tokens (first_building beginning) end
    (only_formatting_is_listed (current_too (begun_too listed)) depth beginning tokens end
    (current_nodes_are_known (begun_too listed) depth beginning tokens end
    (turns_are_begun listed depth beginning tokens end
    (listing_needs_no_test (without_nulls_too (in_order_too (returning_too test))) depth beginning tokens end
    (no_null_is_pending (in_order_too (returning_too test)) depth beginning tokens end
    (order_needs_no_test (returning_too test) depth beginning tokens end (turns_return test depth beginning tokens end h)))))))
  where
    listed : Building → Bool
    listed = listed_too (without_nulls_too (in_order_too (returning_too test)))
