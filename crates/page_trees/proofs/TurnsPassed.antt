-- What tree construction comes to where each turn passes a test.
use Rattle.std.specs.Prelude.{◌≡◌, ℕ, zero, suc, Bool, true, false, ◌&&◌, not, List, [], ◌∷◌, ◌++◌, Option, None, Some, refl}
use Rattle.std.specs.Option.{option_and_then}
use Rattle.std.proofs.lemmas.Option.{same_Some}
use mathlib.Core.Path.{◌∙◌, sym}
use Rattle.standard_tokens.specs.Tokens.{Token}
use Rattle.standard_trees.specs.Building.{Building, is_line_feed, performed, run, taken, tree_step, tree_steps, with_next}
use Rattle.standard_trees.specs.RuleWords.{Dispatcher, Mode}
use Rattle.standard_trees.specs.TreeRules.{rules}
use Rattle.standard_order.specs.Turns.{is_barred, is_dispatcher, run_while, tree_step_while, tree_steps_while}
use Rattle.page_trees.proofs.DeeperRuns.{BelowIn, more, performed_below, run_left, run_right, then_below}

-- ---- one turn

-- where one gives a result behind the test, so does the other
barred_below : (x : Bool) (o p : Option Building) → ((c : Building) → o ≡ Some c → p ≡ Some c) → (c : Building) → elim x [ true ↦ None | false ↦ o ] ≡ Some c →
    elim x [ true ↦ None | false ↦ p ] ≡ Some c
barred_below true o p below c h = h
barred_below false o p below c h = below c h

-- a test that bars nothing
open_below : (x : Bool) (o p : Option Building) → ((c : Building) → o ≡ Some c → p ≡ Some c) → (c : Building) → elim x [ true ↦ None | false ↦ o ] ≡ Some c → p ≡ Some c
open_below true o p below c h = cc
open_below false o p below c h = below c h

-- ---- what the turns come to, the rules come to

pub while_runs : (test : Building → Bool) (d : ℕ) → BelowIn (run_while test d) (run d)
unfolding run run_while
while_runs test zero mode b c h = cc
while_runs test (suc d) mode b c h =
    open_below (is_barred test mode b) (performed (run_while test d) (taken b (rules mode)) b) (performed (run d) (taken b (rules mode)) b)
    (λ x k. performed_below (run_while test d) (run d) (while_runs test d) (taken b (rules mode)) b x k) c h

pub while_steps : (test : Building → Bool) (d : ℕ) (token : Token) (b c : Building) → tree_step_while test d b token ≡ Some c → tree_step d b token ≡ Some c
unfolding tree_step tree_step_while
while_steps test d token b c h = by_skip (b.skip && is_line_feed token) h
  where
    by_skip : (x : Bool) → elim x [ true ↦ Some (with_next token b) | false ↦ run_while test d Dispatcher (with_next token b) ] ≡ Some c →
        elim x [ true ↦ Some (with_next token b) | false ↦ run d Dispatcher (with_next token b) ] ≡ Some c
    by_skip true h = h
    by_skip false h = while_runs test d Dispatcher (with_next token b) c h

pub while_all_steps : (test : Building → Bool) (d : ℕ) (tokens : List Token) (b c : Building) → tree_steps_while test d b tokens ≡ Some c → tree_steps d b tokens ≡ Some c
while_all_steps test d [] b c h = h
while_all_steps test d (token ∷ tokens) b c h =
    then_below (λ after. tree_steps_while test d after tokens) (λ after. tree_steps d after tokens) (λ x y k. while_all_steps test d tokens x y k)
    (tree_step_while test d b token) (tree_step d b token) (λ x k. while_steps test d token b x k) c h

-- ---- where turns pass any test, they come to what the rules come to

abbrev pub always : Building → Bool
always b = true

unbarred_below : (x : Bool) (o p : Option Building) → ((c : Building) → o ≡ Some c → p ≡ Some c) → (c : Building) → o ≡ Some c →
    elim (x && false) [ true ↦ None | false ↦ p ] ≡ Some c
unbarred_below true o p below c h = below c h
unbarred_below false o p below c h = below c h

runs_always : (d : ℕ) → BelowIn (run d) (run_while always d)
unfolding run run_while
runs_always zero mode b c h = cc
runs_always (suc d) mode b c h =
    unbarred_below (is_dispatcher mode) (performed (run d) (taken b (rules mode)) b) (performed (run_while always d) (taken b (rules mode)) b)
    (λ x k. performed_below (run d) (run_while always d) (runs_always d) (taken b (rules mode)) b x k) c h

step_always : (d : ℕ) (token : Token) (b c : Building) → tree_step d b token ≡ Some c → tree_step_while always d b token ≡ Some c
unfolding tree_step tree_step_while
step_always d token b c h = by_skip (b.skip && is_line_feed token) h
  where
    by_skip : (x : Bool) → elim x [ true ↦ Some (with_next token b) | false ↦ run d Dispatcher (with_next token b) ] ≡ Some c →
        elim x [ true ↦ Some (with_next token b) | false ↦ run_while always d Dispatcher (with_next token b) ] ≡ Some c
    by_skip true h = h
    by_skip false h = runs_always d Dispatcher (with_next token b) c h

pub steps_always : (d : ℕ) (tokens : List Token) (b c : Building) → tree_steps d b tokens ≡ Some c → tree_steps_while always d b tokens ≡ Some c
steps_always d [] b c h = h
steps_always d (token ∷ tokens) b c h =
    then_below (λ after. tree_steps d after tokens) (λ after. tree_steps_while always d after tokens) (λ x y k. steps_always d tokens x y k)
    (tree_step d b token) (tree_step_while always d b token) (λ x k. step_always d token b x k) c h

-- ---- a greater depth gives the same

pub while_next : (test : Building → Bool) (d : ℕ) → BelowIn (run_while test d) (run_while test (suc d))
unfolding run_while
while_next test zero mode b c h = cc
while_next test (suc d) mode b c h =
    barred_below (is_barred test mode b) (performed (run_while test d) (taken b (rules mode)) b) (performed (run_while test (suc d)) (taken b (rules mode)) b)
    (λ x k. performed_below (run_while test d) (run_while test (suc d)) (while_next test d) (taken b (rules mode)) b x k) c h

pub while_right : (test : Building → Bool) (d e : ℕ) → BelowIn (run_while test e) (run_while test (more d e))
while_right test zero e mode b c h = h
while_right test (suc d) e mode b c h = while_next test (more d e) mode b c (while_right test d e mode b c h)

pub while_left : (test : Building → Bool) (d e : ℕ) → BelowIn (run_while test d) (run_while test (more d e))
unfolding run_while
while_left test zero e mode b c h = cc
while_left test (suc d) e mode b c h =
    barred_below (is_barred test mode b) (performed (run_while test d) (taken b (rules mode)) b) (performed (run_while test (more d e)) (taken b (rules mode)) b)
    (λ x k. performed_below (run_while test d) (run_while test (more d e)) (while_left test d e) (taken b (rules mode)) b x k) c h

-- ---- there is one result

pub one_run : (d e : ℕ) (mode : Mode) (b x y : Building) → run d mode b ≡ Some x → run e mode b ≡ Some y → x ≡ y
one_run d e mode b x y h k = same_Some x y (sym (run_left d e mode b x h) ∙ run_right d e mode b y k)

-- what the rules come to, the turns come to, if they come to anything
pub while_is : (test : Building → Bool) (d e : ℕ) (mode : Mode) (b x y : Building) → run_while test d mode b ≡ Some x → run e mode b ≡ Some y → y ≡ x
while_is test d e mode b x y h k = one_run e d mode b y x k (while_runs test d mode b x h)

-- ---- a turn passes

-- no turn at depth 0
pub no_turn : (test : Building → Bool) (mode : Mode) (b c : Building) → run_while test zero mode b ≡ Some c → ⊥
unfolding run_while
no_turn test mode b c h = cc

pub turn_passes : (test : Building → Bool) (d : ℕ) (b c : Building) → run_while test d Dispatcher b ≡ Some c → test b ≡ true
unfolding run_while
turn_passes test zero b c h = cc
turn_passes test (suc d) b c h = by_test (test b) h
  where
    by_test : (x : Bool) → elim (true && not x) [ true ↦ None | false ↦ performed (run_while test d) (taken b (rules Dispatcher)) b ] ≡ Some c → x ≡ true
    by_test true h = refl
    by_test false h = cc

-- ---- tokens one after the other

pub then_one : (o : Option Building) (f g : Building → Option Building) → option_and_then g (option_and_then f o) ≡ option_and_then (λ x. option_and_then g (f x)) o
then_one None f g = refl
then_one (Some x) f g = refl

then_same : (o : Option Building) (f g : Building → Option Building) → ((x : Building) → f x ≡ g x) → option_and_then f o ≡ option_and_then g o
then_same None f g same = refl
then_same (Some x) f g same = same x

pub steps_joined : (test : Building → Bool) (d : ℕ) (xs ys : List Token) (b : Building) →
    tree_steps_while test d b (xs ++ ys) ≡ option_and_then (λ after. tree_steps_while test d after ys) (tree_steps_while test d b xs)
steps_joined test d [] ys b = refl
steps_joined test d (x ∷ xs) ys b =
    then_same (tree_step_while test d b x) (λ after. tree_steps_while test d after (xs ++ ys))
    (λ after. option_and_then (λ last. tree_steps_while test d last ys) (tree_steps_while test d after xs)) (λ after. steps_joined test d xs ys after)
    ∙ sym (then_one (tree_step_while test d b x) (λ after. tree_steps_while test d after xs) (λ last. tree_steps_while test d last ys))

-- a step that passes the first of two parts
pub first_steps : (test : Building → Bool) (d : ℕ) (xs ys : List Token) (b c : Building) → tree_steps_while test d b (xs ++ ys) ≡ Some c →
    (mid : Building) × (tree_steps_while test d b xs ≡ Some mid) × (tree_steps_while test d mid ys ≡ Some c)
first_steps test d xs ys b c h = by (tree_steps_while test d b xs) refl (sym (steps_joined test d xs ys b) ∙ h)
  where
    by : (o : Option Building) → tree_steps_while test d b xs ≡ o → option_and_then (λ after. tree_steps_while test d after ys) o ≡ Some c →
        (mid : Building) × (tree_steps_while test d b xs ≡ Some mid) × (tree_steps_while test d mid ys ≡ Some c)
    by None e k = cc
    by (Some mid) e k = (mid, e, k)
