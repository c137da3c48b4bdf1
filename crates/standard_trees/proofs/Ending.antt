-- Rules that use rules come to an end: what `ends` of Routes computes is so.
use Rattle.std.specs.Prelude.{◌≡◌, ◌⊎◌, refl, ℕ, zero, suc, Bool, true, false, List, [], ◌∷◌, Option, None, Some}
use Rattle.std.proofs.Common.{inl, inr}
use Rattle.std.specs.List.{list_all}
use Rattle.std.specs.Option.{option_and_then}
use mathlib.Core.Path.{◌∙◌, sym, ap, subst}
use Rattle.standard_tokens.specs.Tokens.{Token, AnEof}
use Rattle.standard_trees.specs.RuleWords.{Act, Action, Dispatcher, ForeignContent, InBody, Mode, PopForeignElements, Reprocess, Use, UseCurrentMode}
use Rattle.standard_trees.specs.RuleWords.{UseForEachPending, Way, does, goes}
use Rattle.standard_trees.specs.TreeRules.{rules}
use Rattle.standard_trees.specs.Building.{Building, gone, perform, performed, run, taken}
use Rattle.standard_trees.specs.Laws.{is_real}
use Rattle.standard_trees.proofs.MoreDepth.{more, run_right}
use Rattle.standard_trees.proofs.Routes.{all_taken, are_quiet, change, dispatcher_passes, dispatches, ends, foreign_passes, is_foreign_or_quiet}
use Rattle.standard_trees.proofs.Routes.{is_quiet, leaves_foreign, may_do, may_go, may_perform, mode_after, passes_over, pops_foreign, rules_known}
use Rattle.standard_trees.proofs.Routes.{token_after}
use Rattle.standard_trees.proofs.KeptModes.{Good, Stands, after, at_from_stands, both, both_in_turn, either, good_after, stands_after, taken_of_all}
use Rattle.standard_trees.proofs.KeptModes.{taken_passes}

-- where rules use rules at most so deep, the rules for a mode come to an end, and the building is good then
abbrev pub Ends : ℕ → Mode → Building → Type 0
Ends d mode b = (c : Building) × (run d mode b ≡ Some c) × Good c

-- and so does what a rule says
abbrev pub ActsEnd : ℕ → List Act → Building → Type 0
ActsEnd d acts b = (c : Building) × (performed (run d) acts b ≡ Some c) × Good c

abbrev pub WayEnds : ℕ → Way → Building → Type 0
WayEnds d way b = (c : Building) × (gone (run d) way b ≡ Some c) × Good c

pub by_rules : (d : ℕ) (mode : Mode) (b : Building) → ActsEnd d (taken b (rules mode)) b → Ends (suc d) mode b
unfolding run
by_rules d mode b end = (end.0, end.1, end.2)

-- ---- greater depths

-- so many more
pub more_end : (k d : ℕ) (mode : Mode) (b : Building) → Ends d mode b → Ends (more k d) mode b
more_end k d mode b end = (end.0, run_right k d mode b end.0 end.1, end.2)

-- Each level of rules takes three: the rules for the mode, those of the dispatcher, and those for foreign content.
abbrev pub levels : ℕ → ℕ → ℕ
levels zero d = d
levels (suc n) d = more 3 (levels n d)

pub levels_end : (n d : ℕ) (mode : Mode) (b : Building) → Ends d mode b → Ends (levels n d) mode b
levels_end zero d mode b end = end
levels_end (suc n) d mode b end = more_end 3 (levels n d) mode b (levels_end n d mode b end)

-- ---- acts

pub then_some : {A B : Type 0} (f : A → Option B) (o : Option A) (x : A) (y : Option B) → o ≡ Some x → f x ≡ y → option_and_then f o ≡ y
then_some f o x y e h = ap (option_and_then f) e ∙ h

pub go_on : (d : ℕ) (way : Way) (acts : List Act) (b : Building) → (first : WayEnds d way b) → ActsEnd d acts first.0 → ActsEnd d (goes way ∷ acts) b
go_on d way acts b first rest = (rest.0, then_some (performed (run d) acts) (gone (run d) way b) first.0 (Some rest.0) first.1 rest.1, rest.2)

pub only_goes : (d : ℕ) (way : Way) (b : Building) → WayEnds d way b → ActsEnd d (goes way ∷ []) b
only_goes d way b first = go_on d way [] b first (first.0, refl, first.2)

-- ---- acts that are harmless

pub quiet_end : (d : ℕ) (acts : List Act) (b : Building) → are_quiet acts ≡ true → Good b → ActsEnd d acts b
quiet_end d [] b quiet good = (b, refl, good)
quiet_end d (does action tests ∷ acts) b quiet good =
    quiet_end d acts (after tests action b) (both (may_do AnEof None action) (list_all is_quiet acts) quiet).1
    (good_after AnEof None action tests b (both (may_do AnEof None action) (list_all is_quiet acts) quiet).0 tt good)
quiet_end d (goes way ∷ acts) b quiet good = cc

-- ---- the dispatcher

abbrev pub without_foreign : Building → Building
without_foreign b = perform PopForeignElements b

-- what the rules for foreign content say, if the current mode's rules come to an end
foreign_acts : (d : ℕ) (acts : List Act) (b : Building) → leaves_foreign acts ≡ true → Good b → Ends d b.mode b → Ends d b.mode (without_foreign b) → ActsEnd d acts b
unfolding perform
foreign_acts d (goes UseCurrentMode ∷ []) b leaves good here beyond = only_goes d UseCurrentMode b here
foreign_acts d (does action [] ∷ goes UseCurrentMode ∷ []) b leaves good here beyond = by_action action leaves
  where
    by_action : (one : Action) → pops_foreign one ≡ true → ActsEnd d (does one [] ∷ goes UseCurrentMode ∷ []) b
    by_action PopForeignElements h = only_goes d UseCurrentMode (without_foreign b) beyond
    by_action _ h = cc
foreign_acts d _ b leaves good here beyond = cc

foreign_ends : (d : ℕ) (b : Building) → Good b → Ends d b.mode b → Ends d b.mode (without_foreign b) → Ends (more 1 d) ForeignContent b
foreign_ends d b good here beyond =
    by_rules d ForeignContent b (by_kind (either (are_quiet acts) (leaves_foreign acts) (taken_of_all is_foreign_or_quiet refl b (rules ForeignContent) foreign_passes)))
  where
    acts : List Act
    acts = taken b (rules ForeignContent)

    by_kind : (are_quiet acts ≡ true) ⊎ (leaves_foreign acts ≡ true) → ActsEnd d acts b
    by_kind (inl quiet) = quiet_end d acts b quiet good
    by_kind (inr leaves) = foreign_acts d acts b leaves good here beyond

pub dispatch : (d : ℕ) (b : Building) → Good b → Ends d b.mode b → Ends d b.mode (without_foreign b) → Ends (more 2 d) Dispatcher b
dispatch d b good here beyond = by_rules (more 1 d) Dispatcher b (by_acts (taken b (rules Dispatcher)) (taken_of_all dispatches refl b (rules Dispatcher) dispatcher_passes))
  where
    by_acts : (acts : List Act) → dispatches acts ≡ true → ActsEnd (more 1 d) acts b
    by_acts [] h = (b, refl, good)
    by_acts (goes UseCurrentMode ∷ []) h = only_goes (more 1 d) UseCurrentMode b (more_end 1 d b.mode b here)
    by_acts (goes (Use ForeignContent) ∷ []) h = only_goes (more 1 d) (Use ForeignContent) b (foreign_ends d b good here beyond)
    by_acts _ h = cc

-- ---- what is computed is so

-- wherever such a building stands
abbrev pub IsSo : ℕ → List Mode → (Token → Mode → Mode → Bool) → Type 0
IsSo d modes again = (t : Token) (mode now : Mode) → again t mode now ≡ true → (b : Building) → Stands modes (Some now) t b → Good b → Ends d mode b

way_ends : (d : ℕ) (modes : List Mode) (again : Token → Mode → Mode → Bool) → IsSo d modes again → (t : Token) (now : Option Mode) (way : Way) (b : Building) →
    may_go again t now way ≡ true → Stands modes now t b → Good b → WayEnds (more 2 d) way b
unfolding perform
way_ends d modes again so t None way b may at good = cc
way_ends d modes again so t (Some now) Reprocess b may at good = dispatch d b good (in_mode b at good) (in_mode (without_foreign b) at good)
  where
    in_mode : (c : Building) → Stands modes (Some now) t c → Good c → Ends d c.mode c
    in_mode c at good = subst (λ mode. Ends d mode c) (sym at.0) (so t now now may c at good)
way_ends d modes again so t (Some now) UseCurrentMode b may at good =
    more_end 2 d b.mode b (subst (λ mode. Ends d mode b) (sym at.0) (so t now now may b at good))
way_ends d modes again so t (Some now) (Use mode) b may at good = more_end 2 d mode b (so t mode now may b at good)
way_ends d modes again so t (Some now) (UseForEachPending mode) b may at good = cc

acts_end : (d : ℕ) (modes : List Mode) (again : Token → Mode → Mode → Bool) → IsSo d modes again → (acts : List Act) (t : Token) (now : Option Mode) (b : Building) →
    may_perform again t now acts ≡ true → Stands modes now t b → Good b → ActsEnd (more 2 d) acts b
acts_end d modes again so [] t now b may at good = (b, refl, good)
acts_end d modes again so (does action tests ∷ acts) t now b may at good =
    acts_end d modes again so acts (token_after (change action) t) (mode_after (change action) tests now) (after tests action b) two.1
    (stands_after modes now t action tests b two.0 at) (good_after t now action tests b two.0 (at_from_stands modes now t b at) good)
  where
    two : (may_do t now action ≡ true) × (may_perform again (token_after (change action) t) (mode_after (change action) tests now) acts ≡ true)
    two = both_in_turn (may_do t now action) (may_perform again (token_after (change action) t) (mode_after (change action) tests now) acts) may
acts_end d modes again so (goes way ∷ acts) t now b may at good =
    let two : (may_go again t now way ≡ true) × (may_perform again t None acts ≡ true) = both_in_turn (may_go again t now way) (may_perform again t None acts) may in
    let first : WayEnds (more 2 d) way b = way_ends d modes again so t now way b two.0 at good in
    go_on (more 2 d) way acts b first (acts_end d modes again so acts t None first.0 two.1 tt first.2)

-- what is shown in another way
abbrev pub IsShown : ℕ → List Mode → (Token → Mode → Bool) → Type 0
IsShown d modes by_hand = (t : Token) (mode now : Mode) → by_hand t mode ≡ true → (b : Building) → Stands modes (Some now) t b → Good b → Ends d mode b

over_quiet : (mode : Mode) (acts : List Act) → passes_over mode acts ≡ true → are_quiet acts ≡ true
over_quiet InBody acts h = h
over_quiet _ acts h = cc

one_deeper : (n d : ℕ) (modes : List Mode) (by_hand : Token → Mode → Bool) → IsShown d modes by_hand → (again : Token → Mode → Mode → Bool) → IsSo (levels n d) modes again →
    (t : Token) (mode now : Mode) (b : Building) → Stands modes (Some now) t b → Good b → (x y : Bool) → by_hand t mode ≡ x → is_real mode ≡ y →
    elim x [
      | true ↦ true
      | false ↦ elim y [ true ↦ all_taken (passes_over mode) (may_perform again t (Some now)) t (rules mode) | false ↦ false ]
    ] ≡ true →
    Ends (more 3 (levels n d)) mode b
one_deeper n d modes by_hand shown again so t mode now b at good true y e f h = levels_end (suc n) d mode b (shown t mode now e b at good)
one_deeper n d modes by_hand shown again so t mode now b at good false false e f h = cc
one_deeper n d modes by_hand shown again so t mode now b at good false true e f h =
    by_rules (more 2 (levels n d)) mode b (by_kind (taken_passes (passes_over mode) (may_perform again t (Some now)) refl b (rules mode) (rules_known mode f)
    (subst (λ u. all_taken (passes_over mode) (may_perform again t (Some now)) u (rules mode) ≡ true) (sym at.1) h)))
  where
    acts : List Act
    acts = taken b (rules mode)

    by_kind : (passes_over mode acts ≡ true) ⊎ (may_perform again t (Some now) acts ≡ true) → ActsEnd (more 2 (levels n d)) acts b
    by_kind (inl over) = quiet_end (more 2 (levels n d)) acts b (over_quiet mode acts over) good
    by_kind (inr may) = acts_end (levels n d) modes again so acts t (Some now) b may at good

pub computed : (d : ℕ) (modes : List Mode) (by_hand : Token → Mode → Bool) → IsShown d modes by_hand → (n : ℕ) → IsSo (levels n d) modes (ends by_hand n)
computed d modes by_hand shown zero t mode now h b at good = cc
computed d modes by_hand shown (suc n) t mode now h b at good =
    one_deeper n d modes by_hand shown (ends by_hand n) (computed d modes by_hand shown n) t mode now b at good (by_hand t mode) (is_real mode) refl refl h
