-- Wherever the dispatcher begins with a token, no line feed is to be skipped and the tokenizer is not switched: a rule says so last.
use Rattle.std.specs.Prelude.{◌≡◌, ◌||◌, ◌&&◌, refl, ℕ, zero, suc, Bool, true, false, not, List, [], ◌∷◌, Option, None, Some, reverse}
use Rattle.std.specs.List.{list_all, list_any}
use Rattle.std.proofs.lemmas.Option.{same_Some}
use mathlib.Core.Path.{subst}
use Rattle.standard_tokens.specs.Tokens.{AChar, Token}
use Rattle.standard_trees.specs.NameLists.{svg_names}
use Rattle.standard_trees.specs.RuleWords.{Act, Action, AdjustSvgName, Anything, Character, Dispatcher, Mode, Null, Pattern, Rename, Reprocess}
use Rattle.standard_trees.specs.RuleWords.{Rule, SkipNextLineFeed, Test, TextState, TokenizerTo, Use, UseCurrentMode, UseForEachPending, Way}
use Rattle.standard_trees.specs.RuleWords.{AfterAfterBody, AfterAfterFrameset, AfterBody, AfterFrameset, AfterHead, BeforeHead, BeforeHtml}
use Rattle.standard_trees.specs.RuleWords.{ForeignContent, InBody, InCaption, InCell, InColumnGroup, InFrameset, InHead, InHeadNoscript}
use Rattle.standard_trees.specs.RuleWords.{InRow, InTable, InTableBody, InTableText, InTemplate, Initial, Text, WhiteSpace, does, goes, rule}
use Rattle.standard_trees.specs.TreeRules.{rules}
use Rattle.standard_trees.specs.Building.{Building, adjusted, each_char, fits, gone, is_line_feed, is_met, own_name, perform, performed}
use Rattle.standard_trees.specs.Building.{renamed, taken, with_next, with_token}
use Rattle.standard_order.specs.Begun.{TurnsAreBegun, begun_too, is_begun, is_unswitched}
use Rattle.standard_order.specs.Beginnings.{first_building}
use Rattle.standard_order.specs.Turns.{is_barred, run_while, tree_step_while, tree_steps_while}
use Rattle.standard_order.proofs.StandingStacks.{both, never}
use Rattle.standard_order.proofs.Follows.{Follows, barred_follows, mapped, passes_both, then_follows}
use Rattle.standard_order.proofs.LevelNext.{after}

abbrev pub Begun : Building → Type 0
Begun b = (b.skip ≡ false) × (b.tokenizer ≡ None)

begun_is : (b : Building) → Begun b → is_begun b ≡ true
begun_is b h = by b.skip b.tokenizer h.0 h.1
  where
    by : (x : Bool) (o : Option TextState) → x ≡ false → o ≡ None → not x && is_unswitched o ≡ true
    by false None e f = refl
    by false (Some s) e f = cc
    by true o e f = cc

abbrev pub is_char : Token → Bool
is_char (AChar c) = true
is_char _ = false

-- so it is, and the token is a character
abbrev pub BegunChar : Building → Type 0
BegunChar b = (is_char b.token ≡ true) × Begun b

-- ---- acts

-- something is said of the next token
abbrev pub says_next : Action → Bool
says_next SkipNextLineFeed = true
says_next (TokenizerTo state) = true
says_next _ = false

-- the acts say nothing of it
abbrev pub says_nothing : List Act → Bool
says_nothing [] = true
says_nothing (does action tests ∷ acts) = not (says_next action) && says_nothing acts
says_nothing (goes way ∷ acts) = says_nothing acts

abbrev pub is_each : Way → Bool
is_each (UseForEachPending mode) = true
is_each _ = false

-- the token goes nowhere after that is said
abbrev pub says_last : Bool → List Act → Bool
says_last begun [] = true
says_last begun (does action tests ∷ acts) = says_last (begun && not (says_next action)) acts
says_last begun (goes way ∷ acts) = begun && says_last (is_each way) acts

performs_begun : (action : Action) (b : Building) → not (says_next action) ≡ true → Begun b → Begun (perform action b)
unfolding perform
performs_begun SkipNextLineFeed b e h = cc
performs_begun (TokenizerTo state) b e h = cc
performs_begun action b e h = h

renamed_char : (name : List ℕ) (t : Token) → is_char t ≡ true → is_char (renamed name t) ≡ true
renamed_char name (AChar c) e = refl
renamed_char name _ e = cc

performs_char : (action : Action) (b : Building) → is_char b.token ≡ true → is_char (perform action b).token ≡ true
unfolding perform
performs_char (Rename name) b e = renamed_char name b.token e
performs_char AdjustSvgName b e = renamed_char (adjusted svg_names (own_name b.token)) b.token e
performs_char action b e = e

begun_after : (action : Action) (tests : List Test) (b : Building) → not (says_next action) ≡ true → Begun b → Begun (after tests action b)
begun_after action tests b e h = by (list_all (is_met b) tests)
  where
    by : (x : Bool) → Begun (elim x [ true ↦ perform action b | false ↦ b ])
    by true = performs_begun action b e h
    by false = h

char_after : (action : Action) (tests : List Test) (b : Building) → is_char b.token ≡ true → is_char (after tests action b).token ≡ true
char_after action tests b e = by (list_all (is_met b) tests)
  where
    by : (x : Bool) → is_char (elim x as (λ _. Building) [ true ↦ perform action b | false ↦ b ]).token ≡ true
    by true = performs_char action b e
    by false = e

-- ---- rules

abbrev pub may_fit : Pattern → Bool
may_fit WhiteSpace = true
may_fit Null = true
may_fit Character = true
may_fit Anything = true
may_fit _ = false

-- the rules for characters say nothing of the next token, and the others say it last
abbrev pub rules_say : List Rule → Bool
rules_say [] = true
rules_say (rule patterns tests acts ∷ more) =
    (says_last true acts && (not (list_any may_fit patterns) || says_nothing acts)) && rules_say more

all_say : (mode : Mode) → rules_say (rules mode) ≡ true
unfolding rules
all_say Dispatcher = refl
all_say Initial = refl
all_say BeforeHtml = refl
all_say BeforeHead = refl
all_say InHead = refl
all_say InHeadNoscript = refl
all_say AfterHead = refl
all_say InBody = refl
all_say Text = refl
all_say InTable = refl
all_say InTableText = refl
all_say InCaption = refl
all_say InColumnGroup = refl
all_say InTableBody = refl
all_say InRow = refl
all_say InCell = refl
all_say InTemplate = refl
all_say AfterBody = refl
all_say InFrameset = refl
all_say AfterFrameset = refl
all_say AfterAfterBody = refl
all_say AfterAfterFrameset = refl
all_say ForeignContent = refl

fits_may : (t : Token) → is_char t ≡ true → (p : Pattern) → fits p t ≡ true → may_fit p ≡ true
fits_may (AChar c) e WhiteSpace h = refl
fits_may (AChar c) e Null h = refl
fits_may (AChar c) e Character h = refl
fits_may (AChar c) e Anything h = refl
fits_may (AChar c) e _ h = cc
fits_may _ e p h = cc

either_more : (x y z w : Bool) → (x ≡ true → z ≡ true) → (y ≡ true → w ≡ true) → x || y ≡ true → z || w ≡ true
either_more true y true w f g h = refl
either_more true y false w f g h = never (f refl)
either_more false y true w f g h = refl
either_more false y false w f g h = g h

any_may : (t : Token) → is_char t ≡ true → (ps : List Pattern) → list_any (λ p. fits p t) ps ≡ true → list_any may_fit ps ≡ true
any_may t e [] h = cc
any_may t e (p ∷ ps) h =
    either_more (fits p t) (list_any (λ q. fits q t) ps) (may_fit p) (list_any may_fit ps) (fits_may t e p) (any_may t e ps) h

-- what is known of the acts that are taken
abbrev pub Says : Token → List Act → Type 0
Says token acts = (says_last true acts ≡ true) × (is_char token ≡ true → says_nothing acts ≡ true)

said : (x y : Bool) → (not x || y) ≡ true → x ≡ true → y ≡ true
said true y h e = h
said false y h e = cc

taken_says : (b : Building) (rs : List Rule) → rules_say rs ≡ true → Says b.token (taken b rs)
unfolding taken
taken_says b [] h = (refl, λ e. refl)
taken_says b (rule patterns tests acts ∷ more) h =
    by (list_any (λ pattern. fits pattern b.token) patterns) (list_all (is_met b) tests)
    (λ met. (here.0, λ e. said (list_any may_fit patterns) (says_nothing acts) here.1 (any_may b.token e patterns met)))
    (taken_says b more two.1)
  where
    two : ((says_last true acts && (not (list_any may_fit patterns) || says_nothing acts)) ≡ true) × (rules_say more ≡ true)
    two = both (says_last true acts && (not (list_any may_fit patterns) || says_nothing acts)) (rules_say more) h

    here : (says_last true acts ≡ true) × ((not (list_any may_fit patterns) || says_nothing acts) ≡ true)
    here = both (says_last true acts) (not (list_any may_fit patterns) || says_nothing acts) two.0

    by : (x y : Bool) → (x ≡ true → Says b.token acts) → Says b.token (taken b more) → Says b.token (elim x as (λ _. List Act) [
      | true ↦ elim y as (λ _. List Act) [ true ↦ acts | false ↦ taken b more ]
      | false ↦ taken b more
    ])
    by true true k l = k refl
    by true false k l = l
    by false y k l = l

-- ---- runs

-- what one run comes to, the other comes to; behind a character nothing is said of the next token
abbrev pub Behind : Building → Building → Type 0
Behind b c = is_char b.token ≡ true → BegunChar c

abbrev pub BegunRuns : (Mode → Building → Option Building) → (Mode → Building → Option Building) → Type 0
BegunRuns f g = (mode : Mode) (b : Building) → Begun b → Follows (Behind b) (f mode b) (g mode b)

weaker_follows : (P Q : Building → Type 0) (o p : Option Building) → ((x : Building) → P x → Q x) → Follows P o p → Follows Q o p
weaker_follows P Q o p weaker follows c h =
    let one : (p ≡ Some c) × P c = follows c h in
    (one.0, weaker c one.1)

each_run : (P : Building → Type 0) → ((x : Building) → BegunChar x → P x) → ((x : Building) → P x → Begun x) →
    (f g : Mode → Building → Option Building) → BegunRuns f g → (mode : Mode) (cs : List ℕ) (b : Building) → P b →
    Follows P (each_char (f mode) cs b) (each_char (g mode) cs b)
each_run P into out f g runs mode [] b h = λ c e. (e, subst P (same_Some b c e) h)
each_run P into out f g runs mode (x ∷ cs) b h =
    then_follows BegunChar P (each_char (f mode) cs) (each_char (g mode) cs) (λ y k. each_run P into out f g runs mode cs y (into y k))
    (f mode (with_token (AChar x) [] b)) (g mode (with_token (AChar x) [] b))
    (weaker_follows (Behind (with_token (AChar x) [] b)) BegunChar (f mode (with_token (AChar x) [] b)) (g mode (with_token (AChar x) [] b))
    (λ y k. k refl) (runs mode (with_token (AChar x) [] b) (out b h)))

run_char : (f g : Mode → Building → Option Building) → BegunRuns f g → (mode : Mode) (b : Building) → BegunChar b →
    Follows BegunChar (f mode b) (g mode b)
run_char f g runs mode b h = weaker_follows (Behind b) BegunChar (f mode b) (g mode b) (λ y k. k h.0) (runs mode b h.1)

gone_char : (f g : Mode → Building → Option Building) → BegunRuns f g → (way : Way) (b : Building) → BegunChar b →
    Follows BegunChar (gone f way b) (gone g way b)
gone_char f g runs Reprocess b h = run_char f g runs Dispatcher b h
gone_char f g runs UseCurrentMode b h = run_char f g runs b.mode b h
gone_char f g runs (Use mode) b h = run_char f g runs mode b h
gone_char f g runs (UseForEachPending mode) b h =
    mapped BegunChar (with_token b.token b.attrs) (λ x k. (h.0, k.1)) (each_char (f mode) (reverse b.pending) b)
    (each_char (g mode) (reverse b.pending) b)
    (each_run BegunChar (λ x k. k) (λ x k. k.1) f g runs mode (reverse b.pending) b h)

acts_char : (f g : Mode → Building → Option Building) → BegunRuns f g → (acts : List Act) (b : Building) → says_nothing acts ≡ true →
    BegunChar b → Follows BegunChar (performed f acts b) (performed g acts b)
acts_char f g runs [] b pass h = λ c e. (e, subst BegunChar (same_Some b c e) h)
acts_char f g runs (does action tests ∷ acts) b pass h =
    let two : (not (says_next action) ≡ true) × (says_nothing acts ≡ true) = both (not (says_next action)) (says_nothing acts) pass in
    acts_char f g runs acts (after tests action b) two.1 (char_after action tests b h.0, begun_after action tests b two.0 h.1)
acts_char f g runs (goes way ∷ acts) b pass h =
    then_follows BegunChar BegunChar (performed f acts) (performed g acts) (λ x k. acts_char f g runs acts x pass k) (gone f way b)
    (gone g way b) (gone_char f g runs way b h)

abbrev pub Free : Building → Type 0
Free b = Unit {0}

abbrev pub BegunIf : Bool → Building → Type 0
BegunIf x b = x ≡ true → Begun b

gone_other : (f g : Mode → Building → Option Building) → BegunRuns f g → (way : Way) (b : Building) → Begun b →
    Follows (BegunIf (is_each way)) (gone f way b) (gone g way b)
gone_other f g runs Reprocess b h = weaker_follows (Behind b) (BegunIf false) (f Dispatcher b) (g Dispatcher b) (λ y k e. never e)
    (runs Dispatcher b h)
gone_other f g runs UseCurrentMode b h = weaker_follows (Behind b) (BegunIf false) (f b.mode b) (g b.mode b) (λ y k e. never e)
    (runs b.mode b h)
gone_other f g runs (Use mode) b h = weaker_follows (Behind b) (BegunIf false) (f mode b) (g mode b) (λ y k e. never e) (runs mode b h)
gone_other f g runs (UseForEachPending mode) b h =
    weaker_follows Begun (BegunIf true) (gone f (UseForEachPending mode) b) (gone g (UseForEachPending mode) b) (λ y k e. k)
    (mapped Begun (with_token b.token b.attrs) (λ x k. k) (each_char (f mode) (reverse b.pending) b)
    (each_char (g mode) (reverse b.pending) b) (each_run Begun (λ x k. k.1) (λ x k. k) f g runs mode (reverse b.pending) b h))

acts_other : (f g : Mode → Building → Option Building) → BegunRuns f g → (x : Bool) (acts : List Act) (b : Building) →
    says_last x acts ≡ true → BegunIf x b → Follows Free (performed f acts b) (performed g acts b)
acts_other f g runs x [] b pass h = λ c e. (e, tt)
acts_other f g runs x (does action tests ∷ acts) b pass h =
    acts_other f g runs (x && not (says_next action)) acts (after tests action b) pass
    (λ e. let two : (x ≡ true) × (not (says_next action) ≡ true) = both x (not (says_next action)) e in
    begun_after action tests b two.1 (h two.0))
acts_other f g runs x (goes way ∷ acts) b pass h =
    let two : (x ≡ true) × (says_last (is_each way) acts ≡ true) = both x (says_last (is_each way) acts) pass in
    then_follows (BegunIf (is_each way)) Free (performed f acts) (performed g acts)
    (λ y k. acts_other f g runs (is_each way) acts y two.1 k) (gone f way b) (gone g way b) (gone_other f g runs way b (h two.0))

differ : (x : Bool) → x ≡ false → x ≡ true → false ≡ true
differ true e c = cc
differ false e c = c

acts_run : (f g : Mode → Building → Option Building) → BegunRuns f g → (acts : List Act) (b : Building) → Says b.token acts → Begun b →
    Follows (Behind b) (performed f acts b) (performed g acts b)
acts_run f g runs acts b says h = by (is_char b.token) refl
  where
    by : (x : Bool) → is_char b.token ≡ x → Follows (Behind b) (performed f acts b) (performed g acts b)
    by true e = weaker_follows BegunChar (Behind b) (performed f acts b) (performed g acts b) (λ y k c. k)
        (acts_char f g runs acts b (says.1 e) (e, h))
    by false e = weaker_follows Free (Behind b) (performed f acts b) (performed g acts b) (λ y k c. never (differ (is_char b.token) e c))
        (acts_other f g runs true acts b says.0 (λ k. h))

-- ---- turns

barred_too : (test : Building → Bool) (mode : Mode) (b : Building) → Begun b → is_barred test mode b ≡ false →
    is_barred (begun_too test) mode b ≡ false
barred_too test Dispatcher b begun h = passes_both (test b) (is_begun b) true (begun_is b begun) (λ k. refl) h
barred_too test _ b begun h = refl

runs_begun : (test : Building → Bool) (d : ℕ) → BegunRuns (run_while test d) (run_while (begun_too test) d)
unfolding run_while
runs_begun test zero mode b begun = λ c h. cc
runs_begun test (suc d) mode b begun =
    barred_follows (Behind b) (is_barred test mode b) (is_barred (begun_too test) mode b)
    (performed (run_while test d) (taken b (rules mode)) b) (performed (run_while (begun_too test) d) (taken b (rules mode)) b)
    (barred_too test mode b begun)
    (acts_run (run_while test d) (run_while (begun_too test) d) (runs_begun test d) (taken b (rules mode)) b
    (taken_says b (rules mode) (all_say mode)) begun)

step_begun : (test : Building → Bool) (d : ℕ) (b : Building) (token : Token) →
    Follows Free (tree_step_while test d b token) (tree_step_while (begun_too test) d b token)
unfolding tree_step_while
step_begun test d b token = by (b.skip && is_line_feed token)
  where
    by : (x : Bool) → Follows Free (elim x [ true ↦ Some (with_next token b) | false ↦ run_while test d Dispatcher (with_next token b) ])
        (elim x [ true ↦ Some (with_next token b) | false ↦ run_while (begun_too test) d Dispatcher (with_next token b) ])
    by true = λ c h. (h, tt)
    by false = weaker_follows (Behind (with_next token b)) Free (run_while test d Dispatcher (with_next token b))
        (run_while (begun_too test) d Dispatcher (with_next token b)) (λ y k. tt)
        (runs_begun test d Dispatcher (with_next token b) (refl, refl))

pub steps_begun : (test : Building → Bool) (d : ℕ) (tokens : List Token) (b : Building) →
    Follows Free (tree_steps_while test d b tokens) (tree_steps_while (begun_too test) d b tokens)
steps_begun test d [] b = λ c h. (h, tt)
steps_begun test d (token ∷ more) b =
    then_follows Free Free (λ after. tree_steps_while test d after more) (λ after. tree_steps_while (begun_too test) d after more)
    (λ x k. steps_begun test d more x) (tree_step_while test d b token) (tree_step_while (begun_too test) d b token)
    (step_begun test d b token)

pub turns_are_begun : TurnsAreBegun
turns_are_begun test depth beginning tokens end h = (steps_begun test depth tokens (first_building beginning) end h).0
