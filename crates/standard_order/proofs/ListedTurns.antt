-- Wherever the dispatcher begins with a token, each element is in the list of active formatting elements once at most.
use Rattle.std.specs.Prelude.{◌≡◌, ◌&&◌, refl, ℕ, zero, suc, Bool, true, false, not, List, [], ◌∷◌, Option, None, Some, length, reverse}
use Rattle.std.specs.List.{list_all, list_any}
use Rattle.std.specs.Option.{option_map_or}
use Rattle.std.proofs.lemmas.Option.{same_Some}
use mathlib.Core.Path.{sym, ap, subst}
use Rattle.standard_tokens.specs.Tokens.{AChar, ADoctype, Token}
use Rattle.standard_trees.specs.RuleWords.{Act, Action, AdoptionAgency, AnyOtherEndTag, AppendDoctype, ClearListToMarker, CloseItems, CloseP}
use Rattle.standard_trees.specs.RuleWords.{Dispatcher, DropFound, EndForm, InsertCharacter, InsertComment, InsertCommentInDocument}
use Rattle.standard_trees.specs.RuleWords.{InsertCommentInHtml, InsertElement, InsertMathmlElement, InsertNamed, InsertPending}
use Rattle.standard_trees.specs.RuleWords.{InsertReplacement, InsertRootElement, InsertRootNamed, InsertSvgElement, ListElement, ListMarker}
use Rattle.standard_trees.specs.RuleWords.{MergeAttributesIntoBody, MergeAttributesIntoHtml, Mode, ReconstructFormatting, RemoveBody}
use Rattle.standard_trees.specs.RuleWords.{RemoveHeadFromStack, Reprocess, Rule, Test, Use, UseCurrentMode, UseForEachPending, Way, does}
use Rattle.standard_trees.specs.RuleWords.{AfterAfterBody, AfterAfterFrameset, AfterBody, AfterFrameset, AfterHead, BeforeHead, BeforeHtml}
use Rattle.standard_trees.specs.RuleWords.{ForeignContent, InBody, InCaption, InCell, InColumnGroup, InFrameset, InHead, InHeadNoscript}
use Rattle.standard_trees.specs.RuleWords.{InRow, InTable, InTableBody, InTableText, InTemplate, Initial, Text, goes, rule}
use Rattle.standard_trees.specs.TreeRules.{rules}
use Rattle.standard_trees.specs.TreeStore.{CommentNode, DoctypeNode, EndOf, Html, MathMl, NodeAttr, Place, Svg, removed}
use Rattle.standard_trees.specs.GrowingTree.{GrowingTree, NoForm, merged_into, place, second, topmost, unstacked}
use Rattle.standard_trees.specs.GrowingTree.{with_chars, with_comment}
use Rattle.standard_trees.specs.Formatting.{cleared, open_item}
use Rattle.standard_trees.specs.Building.{Building, body_removed, char_of, comment_of, each_char, fits, gone, is_line_feed, is_met}
use Rattle.standard_trees.specs.Building.{own_name, perform, performed, taken, tree_step, tree_steps, with_doctype, with_next}
use Rattle.standard_trees.specs.Building.{run, with_token}
use Rattle.standard_order.specs.ListedOnce.{ListingNeedsNoTest, TurnsListOnce, is_below, listed_too, lists_each_once, lists_once}
use Rattle.standard_order.specs.Beginnings.{Beginning, OfFragment, OfPage, first_building}
use Rattle.standard_order.specs.Turns.{is_barred, run_while, tree_step_while, tree_steps_while}
use Rattle.standard_order.proofs.Labels.{only_chars, only_created_at, only_merged}
use Rattle.standard_order.proofs.StandingStacks.{both, never}
use Rattle.standard_order.proofs.Follows.{Follows, barred_follows, mapped, passes_both, then_follows}
use Rattle.standard_order.proofs.ListedParts.{and_true, part_cleared}
use Rattle.standard_order.proofs.ListedTrees.{Newly, Once, keeps_long, keeps_nodes, length_removed, newly_inserted, once_adoption}
use Rattle.standard_order.proofs.ListedTrees.{once_any_other, once_closed_item, once_enlisted, once_form_ended, once_inserted, once_kept}
use Rattle.standard_order.proofs.ListedTrees.{once_part, once_reconstructed, once_without_found, once_without_p}

-- ---- actions

-- with an element that was just inserted, or not
abbrev pub At : Bool → Building → Type 0
At false b = Once b.tree
At true b = Once b.tree × Newly b.tree

at_once : (new : Bool) (b : Building) → At new b → Once b.tree
at_once false b at = at
at_once true b at = at.0

-- only an element that was just inserted is added to the list
abbrev pub may_list : Bool → Action → Bool
may_list new ListElement = new
may_list new _ = true

abbrev pub inserts : Action → List Test → Bool
inserts InsertElement [] = true
inserts _ _ = false

abbrev pub acts_pass : Bool → List Act → Bool
acts_pass new [] = true
acts_pass new (does action tests ∷ acts) = may_list new action && acts_pass (inserts action tests) acts
acts_pass new (goes way ∷ acts) = acts_pass false acts

once_body_removed : (o : Option ℕ) (t : GrowingTree) → Once t → Once (body_removed o t)
once_body_removed None t once = once
once_body_removed (Some n) t once = once_kept t (body_removed (Some n) t) (keeps_long t (removed n t.nodes) (length_removed n t.nodes)) once

once_doctype : (token : Token) (t : GrowingTree) → Once t → Once (with_doctype token t)
once_doctype (ADoctype d) t once =
    once_kept t (with_doctype (ADoctype d) t) (keeps_nodes t (with_doctype (ADoctype d) t) (only_created_at (EndOf 0) (DoctypeNode d) t)) once
once_doctype _ t once = once

once_comment : (text : List ℕ) (spot : Place) (t : GrowingTree) → Once t → Once (with_comment text spot t)
once_comment text spot t once =
    once_kept t (with_comment text spot t) (keeps_nodes t (with_comment text spot t) (only_created_at spot (CommentNode text) t)) once

once_chars : (cs : List ℕ) (t : GrowingTree) → Once t → Once (with_chars cs t)
once_chars cs t once = once_kept t (with_chars cs t) (keeps_nodes t (with_chars cs t) (only_chars cs t)) once

once_merged : (o : Option ℕ) (new : List NodeAttr) (t : GrowingTree) → Once t → Once (merged_into o new t)
once_merged o new t once = once_kept t (merged_into o new t) (keeps_nodes t (merged_into o new t) (only_merged o new t)) once

once_taken_out : (o : Option ℕ) (t : GrowingTree) → Once t → Once (option_map_or (λ n. unstacked n t) o t)
once_taken_out None t once = once
once_taken_out (Some n) t once = once

once_performed : (new : Bool) (action : Action) (b : Building) → may_list new action ≡ true → At new b → Once (perform action b).tree
unfolding perform
once_performed true ListElement b may at = once_enlisted b.tree at.1 at.0
once_performed false ListElement b may at = never may
once_performed new InsertCharacter b may at = once_chars (char_of b.token) b.tree (at_once new b at)
once_performed new InsertReplacement b may at = once_chars (0xfffd ∷ []) b.tree (at_once new b at)
once_performed new InsertComment b may at = once_comment (comment_of b.token) (place b.tree) b.tree (at_once new b at)
once_performed new InsertCommentInDocument b may at = once_comment (comment_of b.token) (EndOf 0) b.tree (at_once new b at)
once_performed new InsertCommentInHtml b may at =
    once_comment (comment_of b.token) (EndOf (topmost b.tree.stack)) b.tree (at_once new b at)
once_performed new AppendDoctype b may at = once_doctype b.token b.tree (at_once new b at)
once_performed new InsertElement b may at = once_inserted (place b.tree) Html (own_name b.token) b.attrs b.tree (at_once new b at)
once_performed new InsertRootElement b may at = once_inserted (EndOf 0) Html (own_name b.token) b.attrs b.tree (at_once new b at)
once_performed new InsertMathmlElement b may at = once_inserted (place b.tree) MathMl (own_name b.token) b.attrs b.tree (at_once new b at)
once_performed new InsertSvgElement b may at = once_inserted (place b.tree) Svg (own_name b.token) b.attrs b.tree (at_once new b at)
once_performed new (InsertNamed name) b may at = once_inserted (place b.tree) Html name [] b.tree (at_once new b at)
once_performed new (InsertRootNamed name) b may at = once_inserted (EndOf 0) Html name [] b.tree (at_once new b at)
once_performed new RemoveHeadFromStack b may at = once_taken_out b.tree.head b.tree (at_once new b at)
once_performed new ListMarker b may at = at_once new b at
once_performed new ClearListToMarker b may at = once_part b.tree (cleared b.tree.listed) (part_cleared b.tree.listed) (at_once new b at)
once_performed new ReconstructFormatting b may at = once_reconstructed b.tree (at_once new b at)
once_performed new AdoptionAgency b may at = once_adoption (own_name b.token) b.tree (at_once new b at)
once_performed new DropFound b may at = once_without_found b.tree.found b.tree (at_once new b at)
once_performed new CloseP b may at = once_without_p b.tree (at_once new b at)
once_performed new EndForm b may at = once_form_ended b.tree.form (record b.tree { form = NoForm }) (at_once new b at)
once_performed new AnyOtherEndTag b may at = once_any_other (own_name b.token) b.tree (at_once new b at)
once_performed new (CloseItems names) b may at = once_closed_item (open_item b.tree names b.tree.stack) b.tree (at_once new b at)
once_performed new MergeAttributesIntoHtml b may at = once_merged (Some (topmost b.tree.stack)) b.attrs b.tree (at_once new b at)
once_performed new MergeAttributesIntoBody b may at = once_merged (second b.tree.stack) b.attrs b.tree (at_once new b at)
once_performed new RemoveBody b may at = once_body_removed (second b.tree.stack) b.tree (at_once new b at)
once_performed new InsertPending b may at = once_chars (reverse b.pending) b.tree (at_once new b at)
once_performed new _ b may at = at_once new b at

abbrev pub after : List Test → Action → Building → Building
after tests action b = elim (list_all (is_met b) tests) [ true ↦ perform action b | false ↦ b ]

once_after : (new : Bool) (action : Action) (tests : List Test) (b : Building) → may_list new action ≡ true → At new b →
    Once (after tests action b).tree
once_after new action tests b may at = by (list_all (is_met b) tests)
  where
    by : (x : Bool) → Once (elim x as (λ _. Building) [ true ↦ perform action b | false ↦ b ]).tree
    by true = once_performed new action b may at
    by false = at_once new b at

newly_after : (action : Action) (tests : List Test) (b : Building) → inserts action tests ≡ true → Once b.tree →
    Newly (after tests action b).tree
unfolding perform
newly_after InsertElement [] b h once = newly_inserted (place b.tree) Html (own_name b.token) b.attrs b.tree once
newly_after _ _ b h once = never h

-- what is known behind an action
at_after : (new : Bool) (action : Action) (tests : List Test) (b : Building) → may_list new action ≡ true → At new b →
    At (inserts action tests) (after tests action b)
at_after new action tests b may at = by (inserts action tests) refl
  where
    by : (x : Bool) → inserts action tests ≡ x → At x (after tests action b)
    by true e = (once_after new action tests b may at, newly_after action tests b e (at_once new b at))
    by false e = once_after new action tests b may at

-- ---- rules

abbrev pub rules_pass : List Rule → Bool
rules_pass [] = true
rules_pass (rule patterns tests acts ∷ more) = acts_pass false acts && rules_pass more

all_pass : (mode : Mode) → rules_pass (rules mode) ≡ true
unfolding rules
all_pass Dispatcher = refl
all_pass Initial = refl
all_pass BeforeHtml = refl
all_pass BeforeHead = refl
all_pass InHead = refl
all_pass InHeadNoscript = refl
all_pass AfterHead = refl
all_pass InBody = refl
all_pass Text = refl
all_pass InTable = refl
all_pass InTableText = refl
all_pass InCaption = refl
all_pass InColumnGroup = refl
all_pass InTableBody = refl
all_pass InRow = refl
all_pass InCell = refl
all_pass InTemplate = refl
all_pass AfterBody = refl
all_pass InFrameset = refl
all_pass AfterFrameset = refl
all_pass AfterAfterBody = refl
all_pass AfterAfterFrameset = refl
all_pass ForeignContent = refl

taken_passes : (b : Building) (rs : List Rule) → rules_pass rs ≡ true → acts_pass false (taken b rs) ≡ true
unfolding taken
taken_passes b [] pass = refl
taken_passes b (rule patterns tests acts ∷ more) pass =
    by (list_any (λ pattern. fits pattern b.token) patterns) (list_all (is_met b) tests) two.0 (taken_passes b more two.1)
  where
    two : (acts_pass false acts ≡ true) × (rules_pass more ≡ true)
    two = both (acts_pass false acts) (rules_pass more) pass

    by : (x y : Bool) → acts_pass false acts ≡ true → acts_pass false (taken b more) ≡ true →
        acts_pass false (elim x [ true ↦ elim y [ true ↦ acts | false ↦ taken b more ] | false ↦ taken b more ]) ≡ true
    by true true h k = h
    by true false h k = k
    by false y h k = k

-- ---- runs

abbrev pub Listed : Building → Type 0
Listed b = Once b.tree

-- what one run comes to, the other comes to, if each element is listed once, and is so there
abbrev pub RunsListed : (Mode → Building → Option Building) → (Mode → Building → Option Building) → Type 0
RunsListed f g = (mode : Mode) (b : Building) → Listed b → Follows Listed (f mode b) (g mode b)

chars_run : (f g : Building → Option Building) → ((b : Building) → Listed b → Follows Listed (f b) (g b)) → (cs : List ℕ) (b : Building) →
    Listed b → Follows Listed (each_char f cs b) (each_char g cs b)
chars_run f g runs [] b once = λ c h. (h, subst Listed (same_Some b c h) once)
chars_run f g runs (x ∷ xs) b once =
    then_follows Listed Listed (each_char f xs) (each_char g xs) (λ y k. chars_run f g runs xs y k) (f (with_token (AChar x) [] b))
    (g (with_token (AChar x) [] b)) (runs (with_token (AChar x) [] b) once)

way_run : (f g : Mode → Building → Option Building) → RunsListed f g → (way : Way) (b : Building) → Listed b →
    Follows Listed (gone f way b) (gone g way b)
way_run f g runs Reprocess b once = runs Dispatcher b once
way_run f g runs UseCurrentMode b once = runs b.mode b once
way_run f g runs (Use mode) b once = runs mode b once
way_run f g runs (UseForEachPending mode) b once =
    mapped Listed (with_token b.token b.attrs) (λ x k. k) (each_char (f mode) (reverse b.pending) b)
    (each_char (g mode) (reverse b.pending) b) (chars_run (f mode) (g mode) (runs mode) (reverse b.pending) b once)

acts_run : (f g : Mode → Building → Option Building) → RunsListed f g → (new : Bool) (acts : List Act) (b : Building) →
    acts_pass new acts ≡ true → At new b → Follows Listed (performed f acts b) (performed g acts b)
acts_run f g runs new [] b pass at = λ c h. (h, subst Listed (same_Some b c h) (at_once new b at))
acts_run f g runs new (does action tests ∷ acts) b pass at =
    let two : (may_list new action ≡ true) × (acts_pass (inserts action tests) acts ≡ true) =
    both (may_list new action) (acts_pass (inserts action tests) acts) pass in
    acts_run f g runs (inserts action tests) acts (after tests action b) two.1 (at_after new action tests b two.0 at)
acts_run f g runs new (goes way ∷ acts) b pass at =
    then_follows Listed Listed (performed f acts) (performed g acts) (λ x k. acts_run f g runs false acts x pass k) (gone f way b)
    (gone g way b) (way_run f g runs way b (at_once new b at))

listed_once : (b : Building) → Listed b → lists_each_once b ≡ true
listed_once b once = and_true (lists_once b.tree.listed) (list_all (is_below (length b.tree.nodes)) b.tree.listed) once.0 once.1

barred_too : (test : Building → Bool) (mode : Mode) (b : Building) → Listed b → is_barred test mode b ≡ false →
    is_barred (listed_too test) mode b ≡ false
barred_too test Dispatcher b once h = passes_both (test b) (lists_each_once b) true (listed_once b once) (λ k. refl) h
barred_too test _ b once h = refl

pub runs_listed : (test : Building → Bool) (d : ℕ) → RunsListed (run_while test d) (run_while (listed_too test) d)
unfolding run_while
runs_listed test zero mode b once = λ c h. cc
runs_listed test (suc d) mode b once =
    barred_follows Listed (is_barred test mode b) (is_barred (listed_too test) mode b) (performed (run_while test d) (taken b (rules mode)) b)
    (performed (run_while (listed_too test) d) (taken b (rules mode)) b) (barred_too test mode b once)
    (acts_run (run_while test d) (run_while (listed_too test) d) (runs_listed test d) false (taken b (rules mode)) b
    (taken_passes b (rules mode) (all_pass mode)) once)

-- ---- turns

step_listed : (test : Building → Bool) (d : ℕ) (b : Building) (token : Token) → Listed b →
    Follows Listed (tree_step_while test d b token) (tree_step_while (listed_too test) d b token)
unfolding tree_step_while
step_listed test d b token once = by (b.skip && is_line_feed token)
  where
    by : (x : Bool) → Follows Listed (elim x [ true ↦ Some (with_next token b) | false ↦ run_while test d Dispatcher (with_next token b) ])
        (elim x [ true ↦ Some (with_next token b) | false ↦ run_while (listed_too test) d Dispatcher (with_next token b) ])
    by true = λ c h. (h, subst Listed (same_Some (with_next token b) c h) once)
    by false = runs_listed test d Dispatcher (with_next token b) once

pub steps_listed : (test : Building → Bool) (d : ℕ) (tokens : List Token) (b : Building) → Listed b →
    Follows Listed (tree_steps_while test d b tokens) (tree_steps_while (listed_too test) d b tokens)
steps_listed test d [] b once = λ c h. (h, subst Listed (same_Some b c h) once)
steps_listed test d (token ∷ more) b once =
    then_follows Listed Listed (λ after. tree_steps_while test d after more) (λ after. tree_steps_while (listed_too test) d after more)
    (λ x k. steps_listed test d more x k) (tree_step_while test d b token) (tree_step_while (listed_too test) d b token)
    (step_listed test d b token once)

-- before a text none is listed
begins_listed : (beginning : Beginning) → Listed (first_building beginning)
begins_listed (OfPage scripting) = (refl, refl)
begins_listed (OfFragment scripting around) = (refl, refl)

pub listing_needs_no_test : ListingNeedsNoTest
listing_needs_no_test test depth beginning tokens end h =
    (steps_listed test depth tokens (first_building beginning) (begins_listed beginning) end h).0

-- ---- runs without a test

never_barred : (mode : Mode) (b : Building) → Listed b → is_barred lists_each_once mode b ≡ false
never_barred Dispatcher b once = ap not (listed_once b once)
never_barred _ b once = refl

unbarred_follows : (x : Bool) (o p : Option Building) → x ≡ false → Follows Listed o p → Follows Listed o (elim x [ true ↦ None | false ↦ p ])
unbarred_follows true o p e follows = never (sym e)
unbarred_follows false o p e follows = follows

all_listed : (d : ℕ) → RunsListed (run d) (run_while lists_each_once d)
unfolding run run_while
all_listed zero mode b once = λ c h. cc
all_listed (suc d) mode b once =
    unbarred_follows (is_barred lists_each_once mode b) (performed (run d) (taken b (rules mode)) b)
    (performed (run_while lists_each_once d) (taken b (rules mode)) b) (never_barred mode b once)
    (acts_run (run d) (run_while lists_each_once d) (all_listed d) false (taken b (rules mode)) b
    (taken_passes b (rules mode) (all_pass mode)) once)

any_step : (d : ℕ) (b : Building) (token : Token) → Listed b → Follows Listed (tree_step d b token) (tree_step_while lists_each_once d b token)
unfolding tree_step tree_step_while
any_step d b token once = by (b.skip && is_line_feed token)
  where
    by : (x : Bool) → Follows Listed (elim x [ true ↦ Some (with_next token b) | false ↦ run d Dispatcher (with_next token b) ])
        (elim x [ true ↦ Some (with_next token b) | false ↦ run_while lists_each_once d Dispatcher (with_next token b) ])
    by true = λ c h. (h, subst Listed (same_Some (with_next token b) c h) once)
    by false = all_listed d Dispatcher (with_next token b) once

any_steps : (d : ℕ) (tokens : List Token) (b : Building) → Listed b →
    Follows Listed (tree_steps d b tokens) (tree_steps_while lists_each_once d b tokens)
any_steps d [] b once = λ c h. (h, subst Listed (same_Some b c h) once)
any_steps d (token ∷ more) b once =
    then_follows Listed Listed (λ after. tree_steps d after more) (λ after. tree_steps_while lists_each_once d after more)
    (λ x k. any_steps d more x k) (tree_step d b token) (tree_step_while lists_each_once d b token) (any_step d b token once)

pub turns_list_once : TurnsListOnce
turns_list_once depth beginning tokens end h = (any_steps depth tokens (first_building beginning) (begins_listed beginning) end h).0
