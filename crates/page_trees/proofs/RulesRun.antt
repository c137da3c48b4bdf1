-- What comes of a token by the rule that is taken.
use Rattle.std.proofs.Common.{◌≡◌, ℕ, zero, suc, Bool, true, false, List, [], ◌∷◌, refl, sym, ap, ◌∙◌}
use Rattle.std.specs.Option.{option_and_then}
use Rattle.std.specs.Prelude.{None, Option, Some}
use Rattle.standard_trees.specs.Building.{Building, gone, perform, performed, run, taken}
use Rattle.standard_trees.specs.RuleWords.{Act, Action, Dispatcher, Mode as StandardMode, Reprocess, Use, Way, does, goes}
use Rattle.standard_trees.specs.TreeRules.{rules}
use Rattle.standard_order.specs.Turns.{is_barred, run_while}
use Rattle.page_trees.proofs.TurnsPassed.{no_turn, while_next}
use Rattle.page_trees.specs.Constructs.{ComesTo, Constructs, HaveOneToken, Outcome, Runs, TakesTurn, all_performed}
use Rattle.page_trees.specs.declared.builder.Next.{Next}
use Rattle.page_trees.specs.declared.builder.TreeBuilder.{TreeBuilder}

-- these actions are performed, whatever is met, and the token is done with or reprocessed
abbrev pub plainly : List Action → Next → List Act
plainly [] Next.Done = []
plainly [] Next.Again = goes Reprocess ∷ []
plainly (action ∷ actions) next = does action [] ∷ plainly actions next

plain_end : (actions : List Action) (b : Building) (d : ℕ) → performed (run d) (plainly actions Next.Done) b ≡ Some (all_performed actions b)
plain_end [] b d = refl
plain_end (action ∷ actions) b d = plain_end actions (perform action b) d

pub plain_again : (actions : List Action) (b : Building) (d : ℕ) (c : Building) → run d Dispatcher (all_performed actions b) ≡ Some c →
    performed (run d) (plainly actions Next.Again) b ≡ Some c
plain_again [] b d c h = ap (option_and_then (λ x. Some x)) h
plain_again (action ∷ actions) b d c h = plain_again actions (perform action b) d c h

-- ---- turn by turn

pub only_some : (o : Option Building) (c : Building) → option_and_then (λ x. Some x) o ≡ Some c → o ≡ Some c
only_some None c h = h
only_some (Some x) c h = h

-- the turn is not barred, since it comes to something
unbarred : (x : Bool) (o : Option Building) (c : Building) → elim x [ true ↦ None | false ↦ o ] ≡ Some c → o ≡ Some c
unbarred true o c h = absurd (cc)
unbarred false o c h = h

-- what the acts that are taken come to
pub turn_of : (test : Building → Bool) (depth : ℕ) (mode : StandardMode) (b c : Building) (acts : List Act) → taken b (rules mode) ≡ acts →
    run_while test (suc depth) mode b ≡ Some c → performed (run_while test depth) acts b ≡ Some c
unfolding run_while
turn_of test depth mode b c acts e h =
    sym (ap (λ x. performed (run_while test depth) x b) e) ∙ unbarred (is_barred test mode b) (performed (run_while test depth) (taken b (rules mode)) b) c h

turn_again : (test : Building → Bool) (actions : List Action) (b : Building) (d : ℕ) (c : Building) → performed (run_while test d) (plainly actions Next.Again) b ≡ Some c →
    run_while test d Dispatcher (all_performed actions b) ≡ Some c
turn_again test [] b d c h = only_some (run_while test d Dispatcher b) c h
turn_again test (action ∷ actions) b d c h = turn_again test actions (perform action b) d c h

-- where the token goes and nothing follows
pub turn_goes : (test : Building → Bool) (depth : ℕ) (mode : StandardMode) (way : Way) (b c : Building) → taken b (rules mode) ≡ goes way ∷ [] →
    run_while test (suc depth) mode b ≡ Some c → gone (run_while test depth) way b ≡ Some c
turn_goes test depth mode way b c e h = only_some (gone (run_while test depth) way b) c (turn_of test depth mode b c (goes way ∷ []) e h)

-- the rules for one mode send the token on to those for another
pub turn_passed_on : (mode other : StandardMode) (b after : Building) →
    ((test : Building → Bool) (depth : ℕ) (c : Building) → run_while test (suc depth) mode b ≡ Some c → run_while test depth other b ≡ Some c) →
    TakesTurn other b after → TakesTurn mode b after
turn_passed_on mode other b after passes turn test zero c h = absurd (no_turn test other b c (passes test zero c h))
turn_passed_on mode other b after passes turn test (suc d) c h = while_next test d Dispatcher after c (turn test d c (passes test (suc d) c h))

-- ---- what comes of a rule

-- a rule with these actions is taken
pub runs : (mode : StandardMode) (b : Building) (actions : List Action) (next : Next) → HaveOneToken b (all_performed actions b) →
    taken b (rules mode) ≡ plainly actions next → Runs mode b next (all_performed actions b)
unfolding run
runs mode b actions Next.Done same e = (suc zero, ap (λ acts. performed (run zero) acts b) e ∙ plain_end actions b zero)
runs mode b actions Next.Again same e = (
  same,
  λ c h. (suc h.0, ap (λ acts. performed (run h.0) acts b) e ∙ plain_again actions b h.0 c h.1),
  λ test d c h. turn_again test actions b d c (turn_of test d mode b c (plainly actions Next.Again) e h),
)

pub comes_by : (mode other : StandardMode) (b c : Building) → taken b (rules mode) ≡ goes (Use other) ∷ [] → ComesTo other b c → ComesTo mode b c
unfolding run
comes_by mode other b c e h = (suc h.0, ap (λ acts. performed (run h.0) acts b) e ∙ ap (option_and_then (λ x. Some x)) h.1)

-- "process the token using the rules for" another mode
pub uses : (mode other : StandardMode) (b : Building) (next : Next) (after : Building) → taken b (rules mode) ≡ goes (Use other) ∷ [] →
    Runs other b next after → Runs mode b next after
uses mode other b Next.Done after e h = comes_by mode other b after e h
uses mode other b Next.Again after e h =
    (h.0, λ c k. comes_by mode other b c e (h.1 c k), turn_passed_on mode other b after (λ test d c k. turn_goes test d mode (Use other) b c e k) h.2)

-- ---- what the code is to show

pub outcome : (mode : StandardMode) (b : Building) (new : TreeBuilder) (actions : List Action) (next : Next) → Constructs new (all_performed actions b) →
    HaveOneToken b (all_performed actions b) → taken b (rules mode) ≡ plainly actions next → Outcome mode b new next
outcome mode b new actions next stands same e = record { after = all_performed actions b; stands = stands; runs = runs mode b actions next same e }

pub outcome_by : (mode other : StandardMode) (b : Building) (new : TreeBuilder) (next : Next) → taken b (rules mode) ≡ goes (Use other) ∷ [] →
    Outcome other b new next → Outcome mode b new next
outcome_by mode other b new next e o = record { after = o.after; stands = o.stands; runs = uses mode other b next o.after e o.runs }
