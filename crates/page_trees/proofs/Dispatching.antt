-- The tree construction dispatcher (13.2.6): in HTML content, the rules for the current insertion mode process the token.
use Rattle.std.proofs.Common.{◌≡◌, Bool, true, false, ◌&&◌, [], ◌∷◌, refl, ap, suc, ◌∙◌, true≢false, sym}
use Rattle.std.specs.Option.{option_and_then}
use Rattle.std.specs.Prelude.{Some}
use Rattle.standard_trees.specs.Building.{Building, is_empty, performed, run, taken}
use Rattle.standard_trees.specs.GrowingTree.{adjusted_current}
use Rattle.standard_trees.specs.RuleWords.{Dispatcher, UseCurrentMode, goes}
use Rattle.standard_trees.specs.TreeRules.{rules}
use Rattle.standard_trees.specs.TreeStore.{is_html, space_in}
use Rattle.page_trees.specs.Constructs.{ComesTo, Outcome, Runs}
use Rattle.page_trees.specs.declared.builder.Next.{Next}
use Rattle.page_trees.specs.declared.builder.TreeBuilder.{TreeBuilder}
use Rattle.page_trees.proofs.RulesRun.{turn_goes, turn_passed_on}

-- one of the first two rules is taken
first_two : {A : Type 0} → (x y : Bool) (rule other : A) → y ≡ true →
    elim (x && true) [ true ↦ rule | false ↦ elim (y && true) [ true ↦ rule | false ↦ other ] ] ≡ rule
first_two true y rule other e = refl
first_two false true rule other e = refl
first_two false false rule other e = absurd (true≢false (sym e))

pub in_html : (b : Building) → is_html (space_in (adjusted_current b.tree)) ≡ true → taken b (rules Dispatcher) ≡ goes UseCurrentMode ∷ []
unfolding rules taken
in_html b e = first_two (is_empty b.tree.stack) (is_html (space_in (adjusted_current b.tree))) (goes UseCurrentMode ∷ []) _ e

pub comes_by_mode : (b c : Building) → taken b (rules Dispatcher) ≡ goes UseCurrentMode ∷ [] → ComesTo b.mode b c → ComesTo Dispatcher b c
unfolding run
comes_by_mode b c e h = (suc h.0, ap (λ acts. performed (run h.0) acts b) e ∙ ap (option_and_then (λ x. Some x)) h.1)

pub by_mode : (b : Building) (next : Next) (after : Building) → taken b (rules Dispatcher) ≡ goes UseCurrentMode ∷ [] → Runs b.mode b next after → Runs Dispatcher b next after
by_mode b Next.Done after e h = comes_by_mode b after e h
by_mode b Next.Again after e h =
    (h.0, λ c k. comes_by_mode b c e (h.1 c k), turn_passed_on Dispatcher b.mode b after (λ test d c k. turn_goes test d Dispatcher UseCurrentMode b c e k) h.2)

-- what comes of the token in the current insertion mode comes of it
pub dispatched : (b : Building) (new : TreeBuilder) (next : Next) → is_html (space_in (adjusted_current b.tree)) ≡ true → Outcome b.mode b new next →
    Outcome Dispatcher b new next
dispatched b new next e o = record { after = o.after; stands = o.stands; runs = by_mode b next o.after (in_html b e) o.runs }
