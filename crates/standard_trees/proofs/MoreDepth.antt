-- Where a token is processed, a greater depth gives the same.
use Rattle.std.specs.Prelude.{◌≡◌, ◌≤◌, ℕ, zero, suc, Bool, true, false, ◌&&◌, List, [], ◌∷◌, reverse, Option, None, Some, option_map, refl}
use Rattle.std.specs.List.{list_all}
use Rattle.std.specs.Option.{option_and_then}
use Rattle.std.proofs.Common.{arith}
use mathlib.Core.Path.{◌∙◌, ap}
use Rattle.standard_tokens.specs.Tokens.{Token, AChar}
use Rattle.standard_trees.specs.Building.{Building, each_char, gone, is_line_feed, is_met, perform, performed, run, taken, tree_step, tree_steps}
use Rattle.standard_trees.specs.Building.{with_next, with_token}
use Rattle.standard_trees.specs.RuleWords.{Mode, Dispatcher, Way, Reprocess, Use, UseCurrentMode, UseForEachPending, Act, does, goes}
use Rattle.standard_trees.specs.TreeRules.{rules}

-- where one function gives a result, another gives the same
abbrev pub Below : {A : Type 0} → (A → Option Building) → (A → Option Building) → Type 0
Below {A} f g = (a : A) (c : Building) → f a ≡ Some c → g a ≡ Some c

abbrev pub BelowIn : (Mode → Building → Option Building) → (Mode → Building → Option Building) → Type 0
BelowIn again other = (mode : Mode) → Below (again mode) (other mode)

pub then_below : (f g : Building → Option Building) → Below f g → (o p : Option Building) → ((x : Building) → o ≡ Some x → p ≡ Some x) →
    (c : Building) → option_and_then f o ≡ Some c → option_and_then g p ≡ Some c
then_below f g below None p same c h = cc
then_below f g below (Some x) p same c h = ap (option_and_then g) (same x refl) ∙ below x c h

pub each_below : (again other : Building → Option Building) → Below again other → (cs : List ℕ) → Below (each_char again cs) (each_char other cs)
each_below again other below [] b c h = h
each_below again other below (d ∷ cs) b c h =
    then_below (each_char again cs) (each_char other cs) (each_below again other below cs) (again (with_token (AChar d) [] b))
    (other (with_token (AChar d) [] b)) (λ x e. below (with_token (AChar d) [] b) x e) c h

map_below : (f : Building → Building) (o p : Option Building) → ((x : Building) → o ≡ Some x → p ≡ Some x) → (c : Building) →
    option_map f o ≡ Some c → option_map f p ≡ Some c
map_below f None p same c h = cc
map_below f (Some x) p same c h = ap (option_map f) (same x refl) ∙ h

pub gone_below : (again other : Mode → Building → Option Building) → BelowIn again other → (way : Way) → Below (gone again way) (gone other way)
gone_below again other below Reprocess b c h = below Dispatcher b c h
gone_below again other below UseCurrentMode b c h = below b.mode b c h
gone_below again other below (Use mode) b c h = below mode b c h
gone_below again other below (UseForEachPending mode) b c h =
    map_below (with_token b.token b.attrs) (each_char (again mode) (reverse b.pending) b) (each_char (other mode) (reverse b.pending) b)
    (λ x e. each_below (again mode) (other mode) (below mode) (reverse b.pending) b x e) c h

pub performed_below : (again other : Mode → Building → Option Building) → BelowIn again other → (acts : List Act) →
    Below (performed again acts) (performed other acts)
performed_below again other below [] b c h = h
performed_below again other below (does action tests ∷ acts) b c h =
    performed_below again other below acts (elim (list_all (is_met b) tests) [ true ↦ perform action b | false ↦ b ]) c h
performed_below again other below (goes way ∷ acts) b c h =
    then_below (performed again acts) (performed other acts) (performed_below again other below acts) (gone again way b) (gone other way b)
    (λ x e. gone_below again other below way b x e) c h

-- ---- sums of bounds

abbrev pub more : ℕ → ℕ → ℕ
more zero d = d
more (suc k) d = suc (more k d)

run_next : (d : ℕ) → BelowIn (run d) (run (suc d))
unfolding run
run_next zero mode b c h = cc
run_next (suc d) mode b c h = performed_below (run d) (run (suc d)) (run_next d) (taken b (rules mode)) b c h

pub run_deeper : (d e : ℕ) → d ≤ e → BelowIn (run d) (run e)
unfolding run
run_deeper zero e few mode b c h = cc
run_deeper (suc d) zero few mode b c h = absurd (omega (arith, few))
run_deeper (suc d) (suc e) few mode b c h =
    performed_below (run d) (run e) (run_deeper d e (omega (arith, few))) (taken b (rules mode)) b c h

pub run_left : (d e : ℕ) → BelowIn (run d) (run (more d e))
unfolding run
run_left zero e mode b c h = cc
run_left (suc d) e mode b c h = performed_below (run d) (run (more d e)) (run_left d e) (taken b (rules mode)) b c h

pub run_right : (d e : ℕ) → BelowIn (run e) (run (more d e))
run_right zero e mode b c h = h
run_right (suc d) e mode b c h = run_next (more d e) mode b c (run_right d e mode b c h)

pub step_below : (d e : ℕ) → BelowIn (run d) (run e) → (token : Token) (b c : Building) → tree_step d b token ≡ Some c → tree_step e b token ≡ Some c
unfolding tree_step
step_below d e below token b c h = by_skip (b.skip && is_line_feed token) h
  where
    by_skip : (x : Bool) → elim x [ true ↦ Some (with_next token b) | false ↦ run d Dispatcher (with_next token b) ] ≡ Some c →
        elim x [ true ↦ Some (with_next token b) | false ↦ run e Dispatcher (with_next token b) ] ≡ Some c
    by_skip true h = h
    by_skip false h = below Dispatcher (with_next token b) c h

pub steps_below : (d e : ℕ) → BelowIn (run d) (run e) → (tokens : List Token) (b c : Building) → tree_steps d b tokens ≡ Some c →
    tree_steps e b tokens ≡ Some c
steps_below d e below [] b c h = h
steps_below d e below (token ∷ tokens) b c h =
    then_below (λ after. tree_steps d after tokens) (λ after. tree_steps e after tokens) (λ x y k. steps_below d e below tokens x y k)
    (tree_step d b token) (tree_step e b token) (λ x k. step_below d e below token b x k) c h
