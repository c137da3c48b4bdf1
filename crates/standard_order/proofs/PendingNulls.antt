-- No null becomes a pending table character token, by induction on how deep rules use rules.
use Rattle.std.specs.Prelude.{◌≡◌, ◌||◌, ◌⊎◌, refl, ℕ, zero, suc, Bool, true, false, not, ◌==◌, ◌&&◌, List, [], ◌∷◌, ◌++◌, Option, None, Some}
use Rattle.std.specs.Prelude.{reverse}
use Rattle.std.proofs.Common.{inl, inr}
use Rattle.std.specs.List.{list_all, list_any}
use Rattle.std.proofs.lemmas.Option.{same_Some}
use mathlib.Core.Path.{sym, ap, subst}
use Rattle.standard_tokens.specs.Tokens.{AChar, Token}
use Rattle.standard_trees.specs.RuleWords.{Act, Action, AddToPending, EmptyPending, Mode, Reprocess, Rule, Test, Use, UseCurrentMode}
use Rattle.standard_trees.specs.RuleWords.{UseForEachPending, Way, does, goes, rule}
use Rattle.standard_trees.specs.RuleWords.{Dispatcher, Initial, BeforeHtml, BeforeHead, InHead, InHeadNoscript, AfterHead, InBody, Text}
use Rattle.standard_trees.specs.RuleWords.{InTable, InTableText, InCaption, InColumnGroup, InTableBody, InRow, InCell, InTemplate}
use Rattle.standard_trees.specs.RuleWords.{AfterBody, InFrameset, AfterFrameset, AfterAfterBody, AfterAfterFrameset, ForeignContent}
use Rattle.standard_trees.specs.TreeRules.{rules}
use Rattle.standard_trees.specs.Building.{Building, char_of, each_char, fits, gone, is_line_feed, is_met, is_space, perform, performed}
use Rattle.standard_trees.specs.Building.{taken, with_next, with_token}
use Rattle.standard_order.specs.Pending.{NoNullIsPending, without_nulls, without_nulls_too}
use Rattle.standard_order.specs.Beginnings.{Beginning, OfFragment, OfPage, first_building}
use Rattle.standard_order.specs.Turns.{is_barred, run_while, tree_step_while, tree_steps_while}
use Rattle.standard_order.proofs.StandingStacks.{both}
use Rattle.standard_order.proofs.LevelNext.{after}
use Rattle.standard_order.proofs.Follows.{Follows, barred_follows, mapped, passes_both, then_follows}

-- no pending character is a null
abbrev pub Clean : Building → Type 0
Clean b = without_nulls b.pending ≡ true

-- ---- acts that add nothing

abbrev pub is_addition : Action → Bool
is_addition AddToPending = true
is_addition action = false

abbrev pub adds_none : List Act → Bool
adds_none [] = true
adds_none (does action tests ∷ acts) = not (is_addition action) && adds_none acts
adds_none (goes way ∷ acts) = adds_none acts

abbrev pub rules_add_none : List Rule → Bool
rules_add_none [] = true
rules_add_none (rule patterns tests acts ∷ more) = adds_none acts && rules_add_none more

taken_adds_none : (b : Building) (rs : List Rule) → rules_add_none rs ≡ true → adds_none (taken b rs) ≡ true
unfolding taken
taken_adds_none b [] h = refl
taken_adds_none b (rule patterns tests acts ∷ more) h =
    by (list_any (λ pattern. fits pattern b.token) patterns) (list_all (is_met b) tests) (both _ _ h).0
    (taken_adds_none b more (both (adds_none acts) (rules_add_none more) h).1)
  where
    by : (x y : Bool) → adds_none acts ≡ true → adds_none (taken b more) ≡ true →
        adds_none (elim x as (λ _. List Act) [
          | true ↦ elim y as (λ _. List Act) [ true ↦ acts | false ↦ taken b more ]
          | false ↦ taken b more
        ]) ≡ true
    by true true k l = k
    by true false k l = l
    by false y k l = l

-- the characters of the token become pending, and no null is among them
abbrev pub Adds : List Act → Building → Type 0
Adds acts b = (adds_none acts ≡ true) ⊎ ((acts ≡ does AddToPending [] ∷ []) × (without_nulls (char_of b.token) ≡ true))

abbrev pub with_tok : Token → Building → Building
with_tok t u = record u { token = t }

either : (x : Bool) (one other : List Act) → adds_none one ≡ true → adds_none other ≡ true →
    adds_none (elim x as (λ _. List Act) [ true ↦ one | false ↦ other ]) ≡ true
either true one other h k = h
either false one other h k = k

text_adds : (t : Token) (u : Building) → Adds (taken (with_tok t u) (rules InTableText)) (with_tok t u)
unfolding rules taken
text_adds (AChar c) u = by (c == 0) refl
  where
    by : (x : Bool) → (c == 0) ≡ x → Adds (elim (x || false) as (λ _. List Act) [
      | true ↦ []
      | false ↦ does AddToPending [] ∷ []
    ]) (with_tok (AChar c) u)
    by true e = inl refl
    by false e = inr (refl, ap (λ x. not x && true) e)
text_adds t u = inl (either (list_all is_space u.pending && true) _ _ refl refl)

taken_adds : (mode : Mode) (b : Building) → Adds (taken b (rules mode)) b
unfolding rules
taken_adds InTableText b = text_adds b.token b
taken_adds Dispatcher b = inl (taken_adds_none b (rules Dispatcher) refl)
taken_adds Initial b = inl (taken_adds_none b (rules Initial) refl)
taken_adds BeforeHtml b = inl (taken_adds_none b (rules BeforeHtml) refl)
taken_adds BeforeHead b = inl (taken_adds_none b (rules BeforeHead) refl)
taken_adds InHead b = inl (taken_adds_none b (rules InHead) refl)
taken_adds InHeadNoscript b = inl (taken_adds_none b (rules InHeadNoscript) refl)
taken_adds AfterHead b = inl (taken_adds_none b (rules AfterHead) refl)
taken_adds InBody b = inl (taken_adds_none b (rules InBody) refl)
taken_adds Text b = inl (taken_adds_none b (rules Text) refl)
taken_adds InTable b = inl (taken_adds_none b (rules InTable) refl)
taken_adds InCaption b = inl (taken_adds_none b (rules InCaption) refl)
taken_adds InColumnGroup b = inl (taken_adds_none b (rules InColumnGroup) refl)
taken_adds InTableBody b = inl (taken_adds_none b (rules InTableBody) refl)
taken_adds InRow b = inl (taken_adds_none b (rules InRow) refl)
taken_adds InCell b = inl (taken_adds_none b (rules InCell) refl)
taken_adds InTemplate b = inl (taken_adds_none b (rules InTemplate) refl)
taken_adds AfterBody b = inl (taken_adds_none b (rules AfterBody) refl)
taken_adds InFrameset b = inl (taken_adds_none b (rules InFrameset) refl)
taken_adds AfterFrameset b = inl (taken_adds_none b (rules AfterFrameset) refl)
taken_adds AfterAfterBody b = inl (taken_adds_none b (rules AfterAfterBody) refl)
taken_adds AfterAfterFrameset b = inl (taken_adds_none b (rules AfterAfterFrameset) refl)
taken_adds ForeignContent b = inl (taken_adds_none b (rules ForeignContent) refl)

-- ---- actions

kept_by : (action : Action) (b : Building) → not (is_addition action) ≡ true → Clean b → Clean (perform action b)
unfolding perform
kept_by AddToPending b e clean = cc
kept_by EmptyPending b e clean = refl
kept_by action b e clean = clean

kept_after : (action : Action) (tests : List Test) (b : Building) → not (is_addition action) ≡ true → Clean b → Clean (after tests action b)
kept_after action tests b e clean = by (list_all (is_met b) tests)
  where
    by : (x : Bool) → Clean (elim x [ true ↦ perform action b | false ↦ b ])
    by true = kept_by action b e clean
    by false = clean

joined : (xs ys : List ℕ) → without_nulls xs ≡ true → without_nulls ys ≡ true → without_nulls (xs ++ ys) ≡ true
joined [] ys h k = k
joined (x ∷ xs) ys h k = by (not (x == 0)) h (λ e. joined xs ys e k)
  where
    by : (y : Bool) → y && without_nulls xs ≡ true → (without_nulls xs ≡ true → without_nulls (xs ++ ys) ≡ true) →
        y && without_nulls (xs ++ ys) ≡ true
    by true e go = go e
    by false e go = cc

-- ---- acts

abbrev pub CleanRuns : (Mode → Building → Option Building) → (Mode → Building → Option Building) → Type 0
CleanRuns f g = (mode : Mode) (b : Building) → Clean b → Follows Clean (f mode b) (g mode b)

each_clean : (f g : Mode → Building → Option Building) → CleanRuns f g → (mode : Mode) (cs : List ℕ) (b : Building) → Clean b →
    Follows Clean (each_char (f mode) cs b) (each_char (g mode) cs b)
each_clean f g runs mode [] b clean = λ c h. (h, subst Clean (same_Some b c h) clean)
each_clean f g runs mode (x ∷ cs) b clean =
    then_follows Clean Clean (each_char (f mode) cs) (each_char (g mode) cs) (λ y k. each_clean f g runs mode cs y k)
    (f mode (with_token (AChar x) [] b)) (g mode (with_token (AChar x) [] b)) (runs mode (with_token (AChar x) [] b) clean)

gone_clean : (f g : Mode → Building → Option Building) → CleanRuns f g → (way : Way) (b : Building) → Clean b →
    Follows Clean (gone f way b) (gone g way b)
gone_clean f g runs Reprocess b clean = runs Dispatcher b clean
gone_clean f g runs UseCurrentMode b clean = runs b.mode b clean
gone_clean f g runs (Use mode) b clean = runs mode b clean
gone_clean f g runs (UseForEachPending mode) b clean =
    mapped Clean (with_token b.token b.attrs) (λ x k. k) (each_char (f mode) (reverse b.pending) b) (each_char (g mode) (reverse b.pending) b)
    (each_clean f g runs mode (reverse b.pending) b clean)

none_run : (f g : Mode → Building → Option Building) → CleanRuns f g → (acts : List Act) (b : Building) → adds_none acts ≡ true → Clean b →
    Follows Clean (performed f acts b) (performed g acts b)
none_run f g runs [] b pass clean = λ c h. (h, subst Clean (same_Some b c h) clean)
none_run f g runs (does action tests ∷ acts) b pass clean =
    let two : (not (is_addition action) ≡ true) × (adds_none acts ≡ true) = both (not (is_addition action)) (adds_none acts) pass in
    none_run f g runs acts (after tests action b) two.1 (kept_after action tests b two.0 clean)
none_run f g runs (goes way ∷ acts) b pass clean =
    then_follows Clean Clean (performed f acts) (performed g acts) (λ x k. none_run f g runs acts x pass k) (gone f way b) (gone g way b)
    (gone_clean f g runs way b clean)

acts_run : (f g : Mode → Building → Option Building) → CleanRuns f g → (acts : List Act) (b : Building) → Adds acts b → Clean b →
    Follows Clean (performed f acts b) (performed g acts b)
unfolding perform
acts_run f g runs acts b (inl none) clean = none_run f g runs acts b none clean
acts_run f g runs acts b (inr one) clean = subst (λ a. Follows Clean (performed f a b) (performed g a b)) (sym one.0)
    (λ c h. (h, subst Clean (same_Some _ c h) (joined (char_of b.token) b.pending one.1 clean)))

-- ---- turns

barred_too : (test : Building → Bool) (mode : Mode) (b : Building) → Clean b → is_barred test mode b ≡ false →
    is_barred (without_nulls_too test) mode b ≡ false
barred_too test Dispatcher b clean h = passes_both (test b) (without_nulls b.pending) true clean (λ k. refl) h
barred_too test _ b clean h = refl

runs_clean : (test : Building → Bool) (d : ℕ) → CleanRuns (run_while test d) (run_while (without_nulls_too test) d)
unfolding run_while
runs_clean test zero mode b clean = λ c h. no_result c h
  where
    no_result : (c : Building) → None ≡ Some c → (None ≡ Some c) × Clean c
    no_result c h = cc
runs_clean test (suc d) mode b clean =
    barred_follows Clean (is_barred test mode b) (is_barred (without_nulls_too test) mode b)
    (performed (run_while test d) (taken b (rules mode)) b) (performed (run_while (without_nulls_too test) d) (taken b (rules mode)) b)
    (barred_too test mode b clean)
    (acts_run (run_while test d) (run_while (without_nulls_too test) d) (runs_clean test d) (taken b (rules mode)) b (taken_adds mode b) clean)

step_clean : (test : Building → Bool) (d : ℕ) (b : Building) (token : Token) → Clean b →
    Follows Clean (tree_step_while test d b token) (tree_step_while (without_nulls_too test) d b token)
unfolding tree_step_while
step_clean test d b token clean = by (b.skip && is_line_feed token)
  where
    by : (x : Bool) → Follows Clean (elim x [ true ↦ Some (with_next token b) | false ↦ run_while test d Dispatcher (with_next token b) ])
        (elim x [ true ↦ Some (with_next token b) | false ↦ run_while (without_nulls_too test) d Dispatcher (with_next token b) ])
    by true = λ c h. (h, subst Clean (same_Some (with_next token b) c h) clean)
    by false = runs_clean test d Dispatcher (with_next token b) clean

steps_clean : (test : Building → Bool) (d : ℕ) (tokens : List Token) (b : Building) → Clean b →
    Follows Clean (tree_steps_while test d b tokens) (tree_steps_while (without_nulls_too test) d b tokens)
steps_clean test d [] b clean = λ c h. (h, subst Clean (same_Some b c h) clean)
steps_clean test d (token ∷ more) b clean =
    then_follows Clean Clean (λ after. tree_steps_while test d after more) (λ after. tree_steps_while (without_nulls_too test) d after more)
    (λ x k. steps_clean test d more x k) (tree_step_while test d b token) (tree_step_while (without_nulls_too test) d b token)
    (step_clean test d b token clean)

pub no_null_is_pending : NoNullIsPending
no_null_is_pending test depth beginning tokens end h =
    (steps_clean test depth tokens (first_building beginning) (begins beginning) end h).0
  where
    begins : (beginning : Beginning) → Clean (first_building beginning)
    begins (OfPage scripting) = refl
    begins (OfFragment scripting around) = refl
