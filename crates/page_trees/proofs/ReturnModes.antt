-- Wherever the dispatcher begins with a token, the original insertion mode is one in which a token of any kind may come, and the one to which
-- "text" or "in table text" returns is one to which rules switch.
use Rattle.std.specs.Prelude.{◌≡◌, ◌||◌, refl, ℕ, zero, suc, Bool, true, false, not, ◌==◌, ◌&&◌, List, [], ◌∷◌, Option, None, Some, drop, option_map, reverse, unwrap_or, cond}
use Rattle.std.specs.List.{list_all, list_any}
use Rattle.std.specs.Option.{option_and_then}
use Rattle.std.proofs.lemmas.Option.{same_Some}
use mathlib.Core.Path.{◌∙◌, sym, ap, subst}
use Rattle.standard_tokens.specs.Tokens.{AChar, Token}
use Rattle.standard_trees.specs.RuleWords.{Act, Action, Dispatcher, FramesetNotOk, InsertCharacter, ReconstructFormatting, ForeignContent, InBody, InTableText, Initial, KeepMode, Mode, PopTemplateMode}
use Rattle.standard_trees.specs.RuleWords.{PushTemplateMode, Reprocess, Reset, ResetMode, Rule, SwitchBack, SwitchTo, Test, Text, Use, UseCurrentMode}
use Rattle.standard_trees.specs.RuleWords.{UseForEachPending, does, goes, reset_to, reset_to_template_mode, rule}
use Rattle.standard_trees.specs.RuleWords.{BeforeHtml, BeforeHead, InHead, InHeadNoscript, AfterHead, InTable, InCaption, InColumnGroup, InTableBody}
use Rattle.standard_trees.specs.RuleWords.{InRow, InCell, InTemplate, AfterBody, InFrameset, AfterFrameset, AfterAfterBody, AfterAfterFrameset}
use Rattle.standard_trees.specs.TreeRules.{resets, rules}
use Rattle.standard_trees.specs.TreeStore.{EndOf, Html, key_in}
use Rattle.standard_trees.specs.GrowingTree.{GrowingTree, inserted_at, is_among, is_template, key, kind_of}
use Rattle.standard_trees.specs.Building.{Building, each_char, fits, gone, is_empty, is_line_feed, is_met, is_space, node_test, perform, performed}
use Rattle.standard_trees.specs.Building.{Surroundings, fragment_start, reset, reset_by, reset_from, start, taken, top_mode, with_next, with_token}
use Rattle.page_trees.specs.CoveredTurns.{enters_plainly, keeps_plainly, returns}
use Rattle.standard_trees.specs.Laws.{is_plain}
use Rattle.standard_order.specs.Beginnings.{Beginning, OfFragment, OfPage, first_building}
use Rattle.standard_order.specs.Turns.{is_barred, run_while, tree_step_while, tree_steps_while}

-- ---- what is known of the modes between two acts

-- nothing but that a turn may begin; that a turn may begin and the current mode is one that returns; that the mode is one to which rules
-- switch; and that it is the original mode too
pub data Level : Type 0 where
  Fine Returning Settled Kept : Level

abbrev pub Modes : Building → Type 0
Modes b = (is_plain b.original ≡ true) × (list_all enters_plainly b.template_modes ≡ true)

abbrev pub Turns : Building → Type 0
Turns b = (returns b.mode ≡ true → enters_plainly b.original ≡ true) × Modes b

abbrev pub At : Level → Building → Type 0
At Fine b = Turns b
At Returning b = (returns b.mode ≡ true) × (enters_plainly b.original ≡ true) × Modes b
At Settled b = (enters_plainly b.mode ≡ true) × Modes b
At Kept b = (enters_plainly b.mode ≡ true) × (enters_plainly b.original ≡ true) × Modes b

never_both : (mode : Mode) → enters_plainly mode ≡ true → returns mode ≡ true → ⊥
never_both Text h k = cc
never_both InTableText h k = cc
never_both _ h k = cc

pub turns_at : (level : Level) (b : Building) → At level b → Turns b
turns_at Fine b at = at
turns_at Returning b at = (λ h. at.1, at.2)
turns_at Settled b at = (λ h. absurd (never_both b.mode at.0 h), at.1)
turns_at Kept b at = (λ h. at.1, at.2)

-- ---- acts

abbrev pub switched : Level → Bool → Bool → Bool → Option Level
switched Settled true back always = Some Settled
switched Kept false true true = Some Fine
switched Fine true back true = Some Settled
switched Returning true back true = Some Settled
switched _ _ _ _ = None

abbrev pub kept : Level → Bool → Option Level
kept Settled true = Some Kept
kept _ _ = None

abbrev pub switched_back : Level → Bool → Option Level
switched_back Returning true = Some Settled
switched_back _ _ = None

abbrev pub if_so : Bool → Level → Option Level
if_so true level = Some level
if_so false level = None

-- what is known behind an action
abbrev pub next : Level → Action → List Test → Option Level
next level (SwitchTo mode) tests = switched level (enters_plainly mode) (returns mode) (is_empty tests)
next level KeepMode tests = kept level (is_empty tests)
next level SwitchBack tests = switched_back level (is_empty tests)
next level ResetMode tests = if_so (is_empty tests) Settled
next level (PushTemplateMode mode) tests = if_so (enters_plainly mode) level
next level _ tests = Some level

-- what is to be known where the rules for a mode are used
abbrev pub level_for : Mode → Level
level_for Dispatcher = Fine
level_for ForeignContent = Fine
level_for Initial = Fine
level_for Text = Returning
level_for InTableText = Returning
level_for _ = Settled

abbrev pub gives : Level → Level → Bool
gives level Fine = true
gives Returning Returning = true
gives Settled Settled = true
gives Kept Settled = true
gives _ _ = false

abbrev pub is_in_body : Mode → Bool
is_in_body InBody = true
is_in_body _ = false

abbrev pub is_returning : Level → Bool
is_returning Returning = true
is_returning _ = false

-- these acts lead to where a turn may begin
abbrev pub acts_pass : Level → List Act → Bool
acts_pass level [] = true
acts_pass level (does action tests ∷ acts) = elim (next level action tests) [ Some new ↦ acts_pass new acts | None ↦ false ]
acts_pass level (goes Reprocess ∷ acts) = acts_pass Fine acts
acts_pass level (goes UseCurrentMode ∷ acts) = acts_pass Fine acts
acts_pass level (goes (Use mode) ∷ acts) = gives level (level_for mode) && acts_pass Fine acts
acts_pass level (goes (UseForEachPending mode) ∷ acts) = is_returning level && (is_in_body mode && acts_pass Returning acts)

abbrev pub rules_pass : Level → List Rule → Bool
rules_pass level [] = true
rules_pass level (rule patterns tests acts ∷ more) = acts_pass level acts && rules_pass level more

all_pass : (mode : Mode) → rules_pass (level_for mode) (rules mode) ≡ true
unfolding rules
all_pass Dispatcher = refl
all_pass Initial = refl
all_pass BeforeHtml = refl
all_pass BeforeHead = refl
all_pass InHead = refl
all_pass InHeadNoscript = refl
all_pass AfterHead = refl
all_pass InBody = refl
all_pass Text = refl
all_pass InTable = refl
all_pass InTableText = refl
all_pass InCaption = refl
all_pass InColumnGroup = refl
all_pass InTableBody = refl
all_pass InRow = refl
all_pass InCell = refl
all_pass InTemplate = refl
all_pass AfterBody = refl
all_pass InFrameset = refl
all_pass AfterFrameset = refl
all_pass AfterAfterBody = refl
all_pass AfterAfterFrameset = refl
all_pass ForeignContent = refl

-- ---- an action

both : (x y : Bool) → x && y ≡ true → (x ≡ true) × (y ≡ true)
both true y h = (refl, h)
both false y h = cc

nothing_to_meet : (b : Building) (tests : List Test) → is_empty tests ≡ true → list_all (is_met b) tests ≡ true
nothing_to_meet b [] e = refl
nothing_to_meet b (test ∷ tests) e = cc

-- "reset the insertion mode appropriately" gives a mode that passes a test, if the table's modes and the current template insertion mode do
abbrev pub reset_passes : (Mode → Bool) → Reset → Bool
reset_passes test (reset_to ones when mode) = test mode
reset_passes test (reset_to_template_mode ones) = true

found_passes : (test : Mode → Bool) (x : Bool) (new : Mode) (o : Option Mode) → test new ≡ true → ((mode : Mode) → o ≡ Some mode → test mode ≡ true) →
    (mode : Mode) → elim x [ true ↦ Some new | false ↦ o ] ≡ Some mode → test mode ≡ true
found_passes test true new o passes others mode h = subst (λ m. test m ≡ true) (same_Some new mode h) passes
found_passes test false new o passes others mode h = others mode h

reset_by_passes : (test : Mode → Bool) (rs : List Reset) → list_all (reset_passes test) rs ≡ true → (name : List ℕ) (modes : List Mode) →
    test (top_mode modes) ≡ true → (head : Option ℕ) (above : List ℕ) (mode : Mode) → reset_by rs name modes head above ≡ Some mode → test mode ≡ true
reset_by_passes test [] all name modes top head above mode h = cc
reset_by_passes test (reset_to ones when new ∷ more) all name modes top head above mode h =
    found_passes test (is_among name ones && node_test when head above) new (reset_by more name modes head above) (both (test new) (list_all (reset_passes test) more) all).0
    (λ m e. reset_by_passes test more (both (test new) (list_all (reset_passes test) more) all).1 name modes top head above m e) mode h
reset_by_passes test (reset_to_template_mode ones ∷ more) all name modes top head above mode h =
    found_passes test (is_among name ones) (top_mode modes) (reset_by more name modes head above) top
    (λ m e. reset_by_passes test more all name modes top head above m e) mode h

unwrapped : (test : Mode → Bool) → test InBody ≡ true → (o : Option Mode) → ((mode : Mode) → o ≡ Some mode → test mode ≡ true) →
    test (unwrap_or o InBody) ≡ true
unwrapped test body None passes = body
unwrapped test body (Some mode) passes = passes mode refl

mode_passes : (test : Mode → Bool) (o : Option Mode) (other : Mode) → test other ≡ true → ((mode : Mode) → o ≡ Some mode → test mode ≡ true) →
    test (elim o [ Some mode ↦ mode | None ↦ other ]) ≡ true
mode_passes test None other passes found = passes
mode_passes test (Some mode) other passes found = found mode refl

pub reset_from_passes : (test : Mode → Bool) → test InBody ≡ true → list_all (reset_passes test) resets ≡ true → (t : GrowingTree) (modes : List Mode) →
    test (top_mode modes) ≡ true → (stack : List ℕ) → test (reset_from t modes stack) ≡ true
reset_from_passes test body all t modes top [] = body
reset_from_passes test body all t modes top (n ∷ []) =
    unwrapped test body (reset_by resets (key_in (unwrap_or t.context (kind_of t n))) modes t.head [])
    (λ mode e. reset_by_passes test resets all (key_in (unwrap_or t.context (kind_of t n))) modes top t.head [] mode e)
reset_from_passes test body all t modes top (n ∷ m ∷ ns) =
    mode_passes test (reset_by resets (key t n) modes t.head (m ∷ ns)) (reset_from t modes (m ∷ ns)) (reset_from_passes test body all t modes top (m ∷ ns))
    (λ mode e. reset_by_passes test resets all (key t n) modes top t.head (m ∷ ns) mode e)

top_entered : (modes : List Mode) → list_all enters_plainly modes ≡ true → enters_plainly (top_mode modes) ≡ true
top_entered [] h = refl
top_entered (mode ∷ modes) h = (both (enters_plainly mode) (list_all enters_plainly modes) h).0

dropped : (modes : List Mode) → list_all enters_plainly modes ≡ true → list_all enters_plainly (drop 1 modes) ≡ true
dropped [] h = refl
dropped (mode ∷ modes) h = (both (enters_plainly mode) (list_all enters_plainly modes) h).1

modes_at : (level : Level) (b : Building) → At level b → Modes b
modes_at Fine b at = at.1
modes_at Returning b at = at.2
modes_at Settled b at = at.1
modes_at Kept b at = at.2

-- with other template insertion modes
with_modes : (level : Level) (b : Building) (modes : List Mode) → list_all enters_plainly modes ≡ true → At level b → At level (record b { template_modes = modes })
with_modes Fine b modes h at = (at.0, (at.1.0, h))
with_modes Returning b modes h at = (at.0, at.1, (at.2.0, h))
with_modes Settled b modes h at = (at.0, (at.1.0, h))
with_modes Kept b modes h at = (at.0, at.1, (at.2.0, h))

-- two states whose modes are equal
abbrev pub SameModes : Building → Building → Type 0
SameModes b c = (c.mode ≡ b.mode) × (c.original ≡ b.original) × (c.template_modes ≡ b.template_modes)

modes_same : (b c : Building) → SameModes b c → Modes b → Modes c
modes_same b c same modes = (ap is_plain same.1 ∙ modes.0, ap (list_all enters_plainly) same.2 ∙ modes.1)

at_same : (level : Level) (b c : Building) → SameModes b c → At level b → At level c
at_same Fine b c same at = (λ h. ap enters_plainly same.1 ∙ at.0 (ap returns (sym same.0) ∙ h), modes_same b c same at.1)
at_same Returning b c same at = (ap returns same.0 ∙ at.0, ap enters_plainly same.1 ∙ at.1, modes_same b c same at.2)
at_same Settled b c same at = (ap enters_plainly same.0 ∙ at.0, modes_same b c same at.1)
at_same Kept b c same at = (ap enters_plainly same.0 ∙ at.0, ap enters_plainly same.1 ∙ at.1, modes_same b c same at.2)

abbrev pub after : List Test → Action → Building → Building
after tests action b = elim (list_all (is_met b) tests) [ true ↦ perform action b | false ↦ b ]

never : {A : Type 0} → false ≡ true → A
never h = cc

switches : (level : Level) (mode : Mode) (x y z w : Bool) (b : Building) → enters_plainly mode ≡ x → (z ≡ true → w ≡ true) →
    (new : Level) → switched level x y z ≡ Some new → At level b → At new (elim w [ true ↦ record b { mode = mode } | false ↦ b ])
switches Settled mode true y z true b e met new h at = subst (λ l. At l (record b { mode = mode })) (same_Some Settled new h) (e, at.1)
switches Settled mode true y z false b e met new h at = subst (λ l. At l b) (same_Some Settled new h) at
switches Settled mode false y z w b e met new h at = cc
switches Kept mode false true true true b e met new h at = subst (λ l. At l (record b { mode = mode })) (same_Some Fine new h) (λ k. at.1, at.2)
switches Kept mode false true true false b e met new h at = never (met refl)
switches Kept mode false true false w b e met new h at = cc
switches Kept mode false false z w b e met new h at = cc
switches Kept mode true y z w b e met new h at = cc
switches Fine mode true y true true b e met new h at = subst (λ l. At l (record b { mode = mode })) (same_Some Settled new h) (e, at.1)
switches Fine mode true y true false b e met new h at = never (met refl)
switches Fine mode true y false w b e met new h at = cc
switches Fine mode false y z w b e met new h at = cc
switches Returning mode true y true true b e met new h at = subst (λ l. At l (record b { mode = mode })) (same_Some Settled new h) (e, at.2)
switches Returning mode true y true false b e met new h at = never (met refl)
switches Returning mode true y false w b e met new h at = cc
switches Returning mode false y z w b e met new h at = cc

entered_plain : (mode : Mode) → enters_plainly mode ≡ true → is_plain mode ≡ true
entered_plain Initial h = cc
entered_plain Dispatcher h = cc
entered_plain ForeignContent h = cc
entered_plain Text h = cc
entered_plain InTableText h = cc
entered_plain _ h = refl

keeps : (level : Level) (z w : Bool) (b : Building) → (z ≡ true → w ≡ true) → (new : Level) → kept level z ≡ Some new → At level b →
    At new (elim w [ true ↦ record b { original = b.mode } | false ↦ b ])
keeps Settled true true b met new h at = subst (λ l. At l (record b { original = b.mode })) (same_Some Kept new h) (at.0, at.0, (entered_plain b.mode at.0, at.1.1))
keeps Settled true false b met new h at = never (met refl)
keeps Settled false w b met new h at = cc
keeps Kept z w b met new h at = cc
keeps Fine z w b met new h at = cc
keeps Returning z w b met new h at = cc

comes_back : (level : Level) (z w : Bool) (b : Building) → (z ≡ true → w ≡ true) → (new : Level) → switched_back level z ≡ Some new → At level b →
    At new (elim w [ true ↦ record b { mode = b.original } | false ↦ b ])
comes_back Returning true true b met new h at = subst (λ l. At l (record b { mode = b.original })) (same_Some Settled new h) (at.1, at.2)
comes_back Returning true false b met new h at = never (met refl)
comes_back Returning false w b met new h at = cc
comes_back Kept z w b met new h at = cc
comes_back Fine z w b met new h at = cc
comes_back Settled z w b met new h at = cc

resets_mode : (level : Level) (z w : Bool) (b : Building) → (z ≡ true → w ≡ true) → (new : Level) → if_so z Settled ≡ Some new → At level b →
    At new (elim w [ true ↦ record b { mode = reset_from b.tree b.template_modes b.tree.stack } | false ↦ b ])
resets_mode level true true b met new h at =
    subst (λ l. At l (record b { mode = reset_from b.tree b.template_modes b.tree.stack })) (same_Some Settled new h)
    (reset_from_passes enters_plainly refl refl b.tree b.template_modes (top_entered b.template_modes (modes_at level b at).1) b.tree.stack, modes_at level b at)
resets_mode level true false b met new h at = never (met refl)
resets_mode level false w b met new h at = cc

pushes : (level : Level) (mode : Mode) (x w : Bool) (b : Building) → enters_plainly mode ≡ x → (new : Level) → if_so x level ≡ Some new → At level b →
    At new (elim w [ true ↦ record b { template_modes = mode ∷ b.template_modes } | false ↦ b ])
pushes level mode true true b e new h at =
    subst (λ l. At l (record b { template_modes = mode ∷ b.template_modes })) (same_Some level new h)
    (with_modes level b (mode ∷ b.template_modes) (ap (λ x. x && list_all enters_plainly b.template_modes) e ∙ (modes_at level b at).1) at)
pushes level mode true false b e new h at = subst (λ l. At l b) (same_Some level new h) at
pushes level mode false w b e new h at = cc

drops : (level : Level) (w : Bool) (b : Building) (new : Level) → Some level ≡ Some new → At level b →
    At new (elim w [ true ↦ record b { template_modes = drop 1 b.template_modes } | false ↦ b ])
drops level true b new h at =
    subst (λ l. At l (record b { template_modes = drop 1 b.template_modes })) (same_Some level new h)
    (with_modes level b (drop 1 b.template_modes) (dropped b.template_modes (modes_at level b at).1) at)
drops level false b new h at = subst (λ l. At l b) (same_Some level new h) at

stays : (level : Level) (w : Bool) (b c : Building) → SameModes b c → (new : Level) → Some level ≡ Some new → At level b → At new (elim w [ true ↦ c | false ↦ b ])
stays level true b c same new h at = subst (λ l. At l c) (same_Some level new h) (at_same level b c same at)
stays level false b c same new h at = subst (λ l. At l b) (same_Some level new h) at

pub action_kept : (level : Level) (action : Action) (tests : List Test) (b : Building) (new : Level) → next level action tests ≡ Some new → At level b →
    At new (after tests action b)
unfolding perform
action_kept level (SwitchTo mode) tests b new h at =
    switches level mode (enters_plainly mode) (returns mode) (is_empty tests) (list_all (is_met b) tests) b refl (nothing_to_meet b tests) new h at
action_kept level KeepMode tests b new h at = keeps level (is_empty tests) (list_all (is_met b) tests) b (nothing_to_meet b tests) new h at
action_kept level SwitchBack tests b new h at = comes_back level (is_empty tests) (list_all (is_met b) tests) b (nothing_to_meet b tests) new h at
action_kept level ResetMode tests b new h at = resets_mode level (is_empty tests) (list_all (is_met b) tests) b (nothing_to_meet b tests) new h at
action_kept level (PushTemplateMode mode) tests b new h at = pushes level mode (enters_plainly mode) (list_all (is_met b) tests) b refl new h at
action_kept level PopTemplateMode tests b new h at = drops level (list_all (is_met b) tests) b new h at
action_kept level action tests b new h at = stays level (list_all (is_met b) tests) b (perform action b) (refl, refl, refl) new h at

-- ---- where the rules for a mode are used

abbrev pub Uses : Mode → Building → Type 0
Uses mode b = At (level_for mode) b

-- in the current mode
pub uses_current : (b : Building) → Turns b → Uses b.mode b
uses_current b turns = by b.mode refl
  where
    settled : (mode : Mode) → b.mode ≡ mode → enters_plainly mode ≡ true → At Settled b
    settled mode e h = (ap enters_plainly e ∙ h, turns.1)

    returning : (mode : Mode) → b.mode ≡ mode → returns mode ≡ true → At Returning b
    returning mode e h = (ap returns e ∙ h, turns.0 (ap returns e ∙ h), turns.1)

    by : (mode : Mode) → b.mode ≡ mode → Uses mode b
    by Dispatcher e = turns
    by Initial e = turns
    by BeforeHtml e = settled BeforeHtml e refl
    by BeforeHead e = settled BeforeHead e refl
    by InHead e = settled InHead e refl
    by InHeadNoscript e = settled InHeadNoscript e refl
    by AfterHead e = settled AfterHead e refl
    by InBody e = settled InBody e refl
    by Text e = returning Text e refl
    by InTable e = settled InTable e refl
    by InTableText e = returning InTableText e refl
    by InCaption e = settled InCaption e refl
    by InColumnGroup e = settled InColumnGroup e refl
    by InTableBody e = settled InTableBody e refl
    by InRow e = settled InRow e refl
    by InCell e = settled InCell e refl
    by InTemplate e = settled InTemplate e refl
    by AfterBody e = settled AfterBody e refl
    by InFrameset e = settled InFrameset e refl
    by AfterFrameset e = settled AfterFrameset e refl
    by AfterAfterBody e = settled AfterAfterBody e refl
    by AfterAfterFrameset e = settled AfterAfterFrameset e refl
    by ForeignContent e = turns

-- such a level is enough
enough : (level wanted : Level) (b : Building) → gives level wanted ≡ true → At level b → At wanted b
enough level Fine b h at = turns_at level b at
enough Returning Returning b h at = at
enough Settled Settled b h at = at
enough Kept Settled b h at = (at.0, at.2)
enough Fine Returning b h at = cc
enough Settled Returning b h at = cc
enough Kept Returning b h at = cc
enough Fine Settled b h at = cc
enough Returning Settled b h at = cc
enough Fine Kept b h at = cc
enough Returning Kept b h at = cc
enough Settled Kept b h at = cc
enough Kept Kept b h at = cc

-- ---- runs

orderly : (b : Building) → Turns b → keeps_plainly b ≡ true
orderly b turns = by (returns b.mode) (is_plain b.original) turns.1.0 turns.0
  where
    by : (x y : Bool) → y ≡ true → (x ≡ true → enters_plainly b.original ≡ true) → y && (not x || enters_plainly b.original) ≡ true
    by true true e h = h refl
    by false true e h = refl
    by x false e h = cc

-- what the one comes to, the other comes to, and that is so behind it
abbrev pub Follows : (Building → Type 0) → Option Building → Option Building → Type 0
Follows P o p = (c : Building) → o ≡ Some c → (p ≡ Some c) × P c

-- the state passes a test, and that is so of the original insertion mode
abbrev pub returning_too : (Building → Bool) → Building → Bool
returning_too test b = test b && keeps_plainly b

abbrev pub RunsOrderly : (Building → Bool) → ℕ → Type 0
RunsOrderly test d = (mode : Mode) (b : Building) → Uses mode b → Follows Turns (run_while test d mode b) (run_while (returning_too test) d mode b)

then_follows : (P Q : Building → Type 0) (f g : Building → Option Building) → ((x : Building) → P x → Follows Q (f x) (g x)) →
    (o p : Option Building) → Follows P o p → Follows Q (option_and_then f o) (option_and_then g p)
then_follows P Q f g more None p follows c h = cc
then_follows P Q f g more (Some x) p follows c h =
    let first : (p ≡ Some x) × P x = follows x refl in
    let rest : (g x ≡ Some c) × Q c = more x first.1 c h in
    (ap (option_and_then g) first.0 ∙ rest.0, rest.1)

-- ---- the pending characters of a table

abbrev pub with_char : ℕ → Building → Building
with_char x b = with_token (AChar x) [] b

abbrev pub body_acts : ℕ → List Act
body_acts x = elim (x == 0 || false) [
  | true ↦ []
  | false ↦ elim (is_space x || false) [
    | true ↦ does ReconstructFormatting [] ∷ does InsertCharacter [] ∷ []
    | false ↦ does ReconstructFormatting [] ∷ does InsertCharacter [] ∷ does FramesetNotOk [] ∷ []
  ]
]

body_taken : (x : ℕ) (b : Building) → taken (with_char x b) (rules InBody) ≡ body_acts x
unfolding rules taken
body_taken x b = refl

body_char : (one other : Mode → Building → Option Building) (x : ℕ) (b : Building) → At Returning b →
    Follows (At Returning) (performed one (body_acts x) b) (performed other (body_acts x) b)
unfolding perform
body_char one other x b at = by (x == 0 || false) (is_space x || false)
  where
    by : (y z : Bool) → Follows (At Returning)
        (performed one (elim y [
          | true ↦ []
          | false ↦ elim z [
            | true ↦ does ReconstructFormatting [] ∷ does InsertCharacter [] ∷ []
            | false ↦ does ReconstructFormatting [] ∷ does InsertCharacter [] ∷ does FramesetNotOk [] ∷ []
          ]
        ]) b)
        (performed other (elim y [
          | true ↦ []
          | false ↦ elim z [
            | true ↦ does ReconstructFormatting [] ∷ does InsertCharacter [] ∷ []
            | false ↦ does ReconstructFormatting [] ∷ does InsertCharacter [] ∷ does FramesetNotOk [] ∷ []
          ]
        ]) b)
    by true z c h = (h, subst (At Returning) (same_Some b c h) at)
    by false true c h = (h, subst (At Returning) (same_Some _ c h) at)
    by false false c h = (h, subst (At Returning) (same_Some _ c h) at)

run_char : (test : Building → Bool) (d : ℕ) (x : ℕ) (b : Building) → At Returning b →
    Follows (At Returning) (run_while test d InBody (with_char x b)) (run_while (returning_too test) d InBody (with_char x b))
unfolding run_while
run_char test zero x b at c h = cc
run_char test (suc d) x b at c h =
    let same : taken (with_char x b) (rules InBody) ≡ body_acts x = body_taken x b in
    let found : (performed (run_while (returning_too test) d) (body_acts x) (with_char x b) ≡ Some c) × At Returning c =
    body_char (run_while test d) (run_while (returning_too test) d) x (with_char x b) at c
    (ap (λ acts. performed (run_while test d) acts (with_char x b)) (sym same) ∙ h) in
    (ap (λ acts. performed (run_while (returning_too test) d) acts (with_char x b)) same ∙ found.0, found.1)

pending_chars : (test : Building → Bool) (d : ℕ) (xs : List ℕ) (b : Building) → At Returning b →
    Follows (At Returning) (each_char (run_while test d InBody) xs b) (each_char (run_while (returning_too test) d InBody) xs b)
pending_chars test d [] b at = λ c h. (h, subst (At Returning) (same_Some b c h) at)
pending_chars test d (x ∷ xs) b at =
    then_follows (At Returning) (At Returning) (each_char (run_while test d InBody) xs) (each_char (run_while (returning_too test) d InBody) xs)
    (λ y k. pending_chars test d xs y k) (run_while test d InBody (with_char x b)) (run_while (returning_too test) d InBody (with_char x b)) (run_char test d x b at)

-- ---- acts

mapped : (P : Building → Type 0) (f : Building → Building) → ((x : Building) → P x → P (f x)) → (o p : Option Building) → Follows P o p →
    Follows P (option_map f o) (option_map f p)
mapped P f more None p follows c h = cc
mapped P f more (Some x) p follows c h =
    let first : (p ≡ Some x) × P x = follows x refl in
    (ap (option_map f) first.0 ∙ h, subst P (same_Some (f x) c h) (more x first.1))

returning_is : (level : Level) (b : Building) → is_returning level ≡ true → At level b → At Returning b
returning_is Returning b h at = at
returning_is Fine b h at = cc
returning_is Settled b h at = cc
returning_is Kept b h at = cc

in_body_is : (mode : Mode) → is_in_body mode ≡ true → InBody ≡ mode
in_body_is InBody h = refl
in_body_is _ h = cc

pending_run : (test : Building → Bool) (d : ℕ) (mode : Mode) → is_in_body mode ≡ true → (b : Building) → At Returning b →
    Follows (At Returning) (gone (run_while test d) (UseForEachPending mode) b) (gone (run_while (returning_too test) d) (UseForEachPending mode) b)
pending_run test d mode body b at =
    subst (λ m. Follows (At Returning) (gone (run_while test d) (UseForEachPending m) b) (gone (run_while (returning_too test) d) (UseForEachPending m) b))
    (in_body_is mode body)
    (mapped (At Returning) (with_token b.token b.attrs) (λ x k. k) (each_char (run_while test d InBody) (reverse b.pending) b)
    (each_char (run_while (returning_too test) d InBody) (reverse b.pending) b) (pending_chars test d (reverse b.pending) b at))

-- acts go on behind what the first comes to
acts_run : (test : Building → Bool) (d : ℕ) → RunsOrderly test d → (acts : List Act) (level : Level) (b : Building) → acts_pass level acts ≡ true → At level b →
    Follows Turns (performed (run_while test d) acts b) (performed (run_while (returning_too test) d) acts b)
acts_run test d runs [] level b pass at = λ c h. (h, subst Turns (same_Some b c h) (turns_at level b at))
acts_run test d runs (does action tests ∷ acts) level b pass at =
    by (next level action tests) refl pass (λ new k now. acts_run test d runs acts new (after tests action b) k now)
  where
    by : (o : Option Level) → next level action tests ≡ o → elim o [ Some new ↦ acts_pass new acts | None ↦ false ] ≡ true →
        ((new : Level) → acts_pass new acts ≡ true → At new (after tests action b) →
        Follows Turns (performed (run_while test d) acts (after tests action b)) (performed (run_while (returning_too test) d) acts (after tests action b))) →
        Follows Turns (performed (run_while test d) acts (after tests action b)) (performed (run_while (returning_too test) d) acts (after tests action b))
    by (Some new) e k more = more new k (action_kept level action tests b new e at)
    by None e k more = never k
acts_run test d runs (goes Reprocess ∷ acts) level b pass at =
    then_follows Turns Turns (performed (run_while test d) acts) (performed (run_while (returning_too test) d) acts)
    (λ x k. acts_run test d runs acts Fine x pass k) (run_while test d Dispatcher b) (run_while (returning_too test) d Dispatcher b)
    (runs Dispatcher b (turns_at level b at))
acts_run test d runs (goes UseCurrentMode ∷ acts) level b pass at =
    then_follows Turns Turns (performed (run_while test d) acts) (performed (run_while (returning_too test) d) acts)
    (λ x k. acts_run test d runs acts Fine x pass k) (run_while test d b.mode b) (run_while (returning_too test) d b.mode b)
    (runs b.mode b (uses_current b (turns_at level b at)))
acts_run test d runs (goes (Use mode) ∷ acts) level b pass at =
    then_follows Turns Turns (performed (run_while test d) acts) (performed (run_while (returning_too test) d) acts)
    (λ x k. acts_run test d runs acts Fine x (both (gives level (level_for mode)) (acts_pass Fine acts) pass).1 k)
    (run_while test d mode b) (run_while (returning_too test) d mode b)
    (runs mode b (enough level (level_for mode) b (both (gives level (level_for mode)) (acts_pass Fine acts) pass).0 at))
acts_run test d runs (goes (UseForEachPending mode) ∷ acts) level b pass at =
    let two : (is_returning level ≡ true) × (is_in_body mode && acts_pass Returning acts ≡ true) = both (is_returning level) (is_in_body mode && acts_pass Returning acts) pass in
    let rest : (is_in_body mode ≡ true) × (acts_pass Returning acts ≡ true) = both (is_in_body mode) (acts_pass Returning acts) two.1 in
    then_follows (At Returning) Turns (performed (run_while test d) acts) (performed (run_while (returning_too test) d) acts)
    (λ x k. acts_run test d runs acts Returning x rest.1 k)
    (gone (run_while test d) (UseForEachPending mode) b) (gone (run_while (returning_too test) d) (UseForEachPending mode) b)
    (pending_run test d mode rest.0 b (returning_is level b two.0 at))

-- ---- rules, and turns

taken_passes : (level : Level) (b : Building) (rs : List Rule) → rules_pass level rs ≡ true → acts_pass level (taken b rs) ≡ true
unfolding taken
taken_passes level b [] pass = refl
taken_passes level b (rule patterns tests acts ∷ more) pass =
    by (list_any (λ pattern. fits pattern b.token) patterns) (list_all (is_met b) tests) (both (acts_pass level acts) (rules_pass level more) pass).0
    (taken_passes level b more (both (acts_pass level acts) (rules_pass level more) pass).1)
  where
    by : (x y : Bool) → acts_pass level acts ≡ true → acts_pass level (taken b more) ≡ true →
        acts_pass level (elim x [ true ↦ elim y [ true ↦ acts | false ↦ taken b more ] | false ↦ taken b more ]) ≡ true
    by true true h k = h
    by true false h k = k
    by false y h k = k

barred_follows : (x y : Bool) (o p : Option Building) → (x ≡ false → y ≡ false) → Follows Turns o p →
    Follows Turns (elim x [ true ↦ None | false ↦ o ]) (elim y [ true ↦ None | false ↦ p ])
barred_follows true y o p same follows c h = cc
barred_follows false false o p same follows c h = follows c h
barred_follows false true o p same follows c h = never (sym (same refl))

passes_both : (x y z : Bool) → y ≡ true → (x ≡ true → z ≡ true) → not x ≡ false → not (x && y) ≡ false
passes_both true true z f g h = refl
passes_both true false z f g h = cc
passes_both false y z f g h = cc

barred_too : (test : Building → Bool) (mode : Mode) (b : Building) → Uses mode b → is_barred test mode b ≡ false → is_barred (returning_too test) mode b ≡ false
barred_too test Dispatcher b uses h = passes_both (test b) (keeps_plainly b) true (orderly b uses) (λ k. refl) h
barred_too test _ b uses h = refl

pub runs_orderly : (test : Building → Bool) (d : ℕ) → RunsOrderly test d
unfolding run_while
runs_orderly test zero mode b uses = λ c h. no_result c h
  where
    no_result : (c : Building) → None ≡ Some c → (None ≡ Some c) × Turns c
    no_result c h = cc
runs_orderly test (suc d) mode b uses =
    barred_follows (is_barred test mode b) (is_barred (returning_too test) mode b) (performed (run_while test d) (taken b (rules mode)) b)
    (performed (run_while (returning_too test) d) (taken b (rules mode)) b) (barred_too test mode b uses)
    (acts_run test d (runs_orderly test d) (taken b (rules mode)) (level_for mode) b (taken_passes (level_for mode) b (rules mode) (all_pass mode)) uses)

step_orderly : (test : Building → Bool) (d : ℕ) (b : Building) (token : Token) → Turns b → Follows Turns (tree_step_while test d b token) (tree_step_while (returning_too test) d b token)
unfolding tree_step_while
step_orderly test d b token turns = by (b.skip && is_line_feed token)
  where
    by : (x : Bool) → Follows Turns (elim x [ true ↦ Some (with_next token b) | false ↦ run_while test d Dispatcher (with_next token b) ])
        (elim x [ true ↦ Some (with_next token b) | false ↦ run_while (returning_too test) d Dispatcher (with_next token b) ])
    by true = λ c h. (h, subst Turns (same_Some (with_next token b) c h) turns)
    by false = runs_orderly test d Dispatcher (with_next token b) turns

pub steps_orderly : (test : Building → Bool) (d : ℕ) (tokens : List Token) (b : Building) → Turns b →
    Follows Turns (tree_steps_while test d b tokens) (tree_steps_while (returning_too test) d b tokens)
steps_orderly test d [] b turns = λ c h. (h, subst Turns (same_Some b c h) turns)
steps_orderly test d (token ∷ more) b turns =
    then_follows Turns Turns (λ after. tree_steps_while test d after more) (λ after. tree_steps_while (returning_too test) d after more)
    (λ x k. steps_orderly test d more x k) (tree_step_while test d b token) (tree_step_while (returning_too test) d b token) (step_orderly test d b token turns)

fragment_turns : (scripting : Bool) (around : Surroundings) → Turns (fragment_start scripting around)
fragment_turns scripting around = by (is_template around.space around.name)
  where
    t : GrowingTree
    t = (fragment_start scripting around).tree

    modes : Bool → List Mode
    modes x = cond x (InTemplate ∷ []) []

    begun : Bool → Building
    begun x = record (start scripting) { tree = t; quirks = around.quirks; template_modes = modes x }

    entered : (x : Bool) → list_all enters_plainly (modes x) ≡ true
    entered true = refl
    entered false = refl

    by : (x : Bool) → Turns (reset (begun x))
    by x = turns_at Settled (reset (begun x))
        (reset_from_passes enters_plainly refl refl t (modes x) (top_entered (modes x) (entered x)) t.stack, (refl, entered x))

first_turns : (beginning : Beginning) → Turns (first_building beginning)
first_turns (OfPage scripting) = (λ h. never h, (refl, refl))
first_turns (OfFragment scripting around) = fragment_turns scripting around

pub turns_return : (test : Building → Bool) (depth : ℕ) (beginning : Beginning) (tokens : List Token) (end : Building) →
    tree_steps_while test depth (first_building beginning) tokens ≡ Some end →
    tree_steps_while (returning_too test) depth (first_building beginning) tokens ≡ Some end
turns_return test depth beginning tokens end h = (steps_orderly test depth tokens (first_building beginning) (first_turns beginning) end h).0
