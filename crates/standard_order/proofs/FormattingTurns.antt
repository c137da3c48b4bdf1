-- Wherever the dispatcher begins with a token, only formatting elements are in the list of active formatting elements.
use Rattle.std.specs.Prelude.{◌≡◌, ◌||◌, ◌&&◌, refl, ℕ, zero, suc, Bool, true, false, List, [], ◌∷◌, Option, None, Some, reverse}
use Rattle.std.specs.List.{list_all, list_any}
use Rattle.std.specs.Option.{option_map_or}
use Rattle.std.proofs.lemmas.Option.{same_Some}
use mathlib.Core.Path.{subst}
use Rattle.standard_tokens.specs.Tokens.{AChar, ADoctype, AStart, Token}
use Rattle.standard_trees.specs.RuleWords.{Act, Action, AdjustSvgName, AdoptionAgency, AnyOtherEndTag, AppendDoctype, ClearListToMarker}
use Rattle.standard_trees.specs.RuleWords.{CloseItems, CloseP, Dispatcher, DropFound, EndForm, InsertCharacter, InsertComment}
use Rattle.standard_trees.specs.RuleWords.{InsertCommentInDocument, InsertCommentInHtml, InsertElement, InsertMathmlElement, InsertNamed}
use Rattle.standard_trees.specs.RuleWords.{InsertPending, InsertReplacement, InsertRootElement, InsertRootNamed, InsertSvgElement}
use Rattle.standard_trees.specs.RuleWords.{ListElement, MergeAttributesIntoBody, MergeAttributesIntoHtml, Mode, Pattern}
use Rattle.standard_trees.specs.RuleWords.{ReconstructFormatting, RemoveBody, RemoveHeadFromStack, Rename, Reprocess, Rule, StartTagOf, Test}
use Rattle.standard_trees.specs.RuleWords.{Use, UseCurrentMode, UseForEachPending, Way, does, goes, rule}
use Rattle.standard_trees.specs.RuleWords.{AfterAfterBody, AfterAfterFrameset, AfterBody, AfterFrameset, AfterHead, BeforeHead, BeforeHtml}
use Rattle.standard_trees.specs.RuleWords.{ForeignContent, InBody, InCaption, InCell, InColumnGroup, InFrameset, InHead, InHeadNoscript}
use Rattle.standard_trees.specs.RuleWords.{InRow, InTable, InTableBody, InTableText, InTemplate, Initial, Text}
use Rattle.standard_trees.specs.TreeRules.{rules}
use Rattle.standard_trees.specs.TreeStore.{CommentNode, DoctypeNode, EndOf, Html, MathMl, NodeAttr, Place, Space, Svg, removed}
use Rattle.standard_trees.specs.GrowingTree.{GrowingTree, NoForm, inserted_at, is_among, merged_into, place, second, topmost, unstacked}
use Rattle.standard_trees.specs.GrowingTree.{with_chars, with_comment}
use Rattle.standard_trees.specs.Formatting.{cleared, open_item}
use Rattle.standard_trees.specs.Building.{Building, body_removed, char_of, comment_of, each_char, fits, gone, is_line_feed, is_met}
use Rattle.standard_trees.specs.Building.{own_name, perform, performed, taken, with_doctype, with_next, with_token}
use Rattle.standard_order.specs.FormattingListed.{OnlyFormattingIsListed, formatting_names, formatting_too, lists_formatting}
use Rattle.standard_order.specs.Beginnings.{Beginning, OfFragment, OfPage, first_building}
use Rattle.standard_order.specs.Turns.{is_barred, run_while, tree_step_while, tree_steps_while}
use Rattle.standard_order.proofs.Labels.{grows_same, labels_removed, only_chars, only_created_at, only_merged}
use Rattle.standard_order.proofs.StandingStacks.{both, never}
use Rattle.standard_order.proofs.GoodTrees.{among_more}
use Rattle.standard_order.proofs.Follows.{Follows, barred_follows, mapped, passes_both, then_follows}
use Rattle.standard_order.proofs.LevelNext.{after}
use Rattle.standard_order.proofs.ListedParts.{part_cleared}
use Rattle.standard_order.proofs.FormattingTrees.{Fine, Newly, fine_adoption, fine_any_other, fine_closed_item, fine_enlisted}
use Rattle.standard_order.proofs.FormattingTrees.{fine_form_ended, fine_is, fine_kept, fine_part, fine_reconstructed, fine_without_found}
use Rattle.standard_order.proofs.FormattingTrees.{fine_without_p, keeps_inserted, keeps_nodes, newly_inserted}

-- ---- actions

abbrev pub IsNamed : Token → Type 0
IsNamed token = is_among (own_name token) formatting_names ≡ true

-- the tag has the name of a formatting element, and an element was just inserted for it
abbrev pub At : Bool → Bool → Building → Type 0
At named new b = (named ≡ true → IsNamed b.token) × (new ≡ true → Newly b.tree) × Fine b.tree

abbrev pub may_list : Bool → Action → Bool
may_list new ListElement = new
may_list new _ = true

abbrev pub keeps_name : Action → Bool
keeps_name (Rename name) = false
keeps_name AdjustSvgName = false
keeps_name _ = true

abbrev pub inserts : Action → List Test → Bool
inserts InsertElement [] = true
inserts _ _ = false

abbrev pub acts_pass : Bool → Bool → List Act → Bool
acts_pass named new [] = true
acts_pass named new (does action tests ∷ acts) =
    may_list new action && acts_pass (named && keeps_name action) (named && inserts action tests) acts
acts_pass named new (goes way ∷ acts) = acts_pass false false acts

fine_body_removed : (o : Option ℕ) (t : GrowingTree) → Fine t → Fine (body_removed o t)
fine_body_removed None t fine = fine
fine_body_removed (Some n) t fine = fine_kept t (body_removed (Some n) t)
    (record { listed = refl; grows = grows_same t.nodes (removed n t.nodes) (labels_removed n t.nodes) }) fine

fine_doctype : (token : Token) (t : GrowingTree) → Fine t → Fine (with_doctype token t)
fine_doctype (ADoctype d) t fine =
    fine_kept t (with_doctype (ADoctype d) t) (keeps_nodes t (with_doctype (ADoctype d) t) (only_created_at (EndOf 0) (DoctypeNode d) t)) fine
fine_doctype _ t fine = fine

fine_comment : (text : List ℕ) (spot : Place) (t : GrowingTree) → Fine t → Fine (with_comment text spot t)
fine_comment text spot t fine =
    fine_kept t (with_comment text spot t) (keeps_nodes t (with_comment text spot t) (only_created_at spot (CommentNode text) t)) fine

fine_chars : (cs : List ℕ) (t : GrowingTree) → Fine t → Fine (with_chars cs t)
fine_chars cs t fine = fine_kept t (with_chars cs t) (keeps_nodes t (with_chars cs t) (only_chars cs t)) fine

fine_merged : (o : Option ℕ) (new : List NodeAttr) (t : GrowingTree) → Fine t → Fine (merged_into o new t)
fine_merged o new t fine = fine_kept t (merged_into o new t) (keeps_nodes t (merged_into o new t) (only_merged o new t)) fine

fine_inserted : (spot : Place) (space : Space) (name : List ℕ) (attrs : List NodeAttr) (t : GrowingTree) → Fine t →
    Fine (inserted_at spot space name attrs t)
fine_inserted spot space name attrs t fine = fine_kept t (inserted_at spot space name attrs t) (keeps_inserted spot space name attrs t) fine

fine_taken_out : (o : Option ℕ) (t : GrowingTree) → Fine t → Fine (option_map_or (λ n. unstacked n t) o t)
fine_taken_out None t fine = fine
fine_taken_out (Some n) t fine = fine

fine_performed : (new : Bool) (action : Action) (b : Building) → may_list new action ≡ true → (new ≡ true → Newly b.tree) → Fine b.tree →
    Fine (perform action b).tree
unfolding perform
fine_performed new ListElement b may newly fine = fine_enlisted b.tree (newly may) fine
fine_performed new InsertCharacter b may newly fine = fine_chars (char_of b.token) b.tree fine
fine_performed new InsertReplacement b may newly fine = fine_chars (0xfffd ∷ []) b.tree fine
fine_performed new InsertComment b may newly fine = fine_comment (comment_of b.token) (place b.tree) b.tree fine
fine_performed new InsertCommentInDocument b may newly fine = fine_comment (comment_of b.token) (EndOf 0) b.tree fine
fine_performed new InsertCommentInHtml b may newly fine = fine_comment (comment_of b.token) (EndOf (topmost b.tree.stack)) b.tree fine
fine_performed new AppendDoctype b may newly fine = fine_doctype b.token b.tree fine
fine_performed new InsertElement b may newly fine = fine_inserted (place b.tree) Html (own_name b.token) b.attrs b.tree fine
fine_performed new InsertRootElement b may newly fine = fine_inserted (EndOf 0) Html (own_name b.token) b.attrs b.tree fine
fine_performed new InsertMathmlElement b may newly fine = fine_inserted (place b.tree) MathMl (own_name b.token) b.attrs b.tree fine
fine_performed new InsertSvgElement b may newly fine = fine_inserted (place b.tree) Svg (own_name b.token) b.attrs b.tree fine
fine_performed new (InsertNamed name) b may newly fine = fine_inserted (place b.tree) Html name [] b.tree fine
fine_performed new (InsertRootNamed name) b may newly fine = fine_inserted (EndOf 0) Html name [] b.tree fine
fine_performed new RemoveHeadFromStack b may newly fine = fine_taken_out b.tree.head b.tree fine
fine_performed new ClearListToMarker b may newly fine = fine_part b.tree (cleared b.tree.listed) (part_cleared b.tree.listed) fine
fine_performed new ReconstructFormatting b may newly fine = fine_reconstructed b.tree fine
fine_performed new AdoptionAgency b may newly fine = fine_adoption (own_name b.token) b.tree fine
fine_performed new DropFound b may newly fine = fine_without_found b.tree.found b.tree fine
fine_performed new CloseP b may newly fine = fine_without_p b.tree fine
fine_performed new EndForm b may newly fine = fine_form_ended b.tree.form (record b.tree { form = NoForm }) fine
fine_performed new AnyOtherEndTag b may newly fine = fine_any_other (own_name b.token) b.tree fine
fine_performed new (CloseItems names) b may newly fine = fine_closed_item (open_item b.tree names b.tree.stack) b.tree fine
fine_performed new MergeAttributesIntoHtml b may newly fine = fine_merged (Some (topmost b.tree.stack)) b.attrs b.tree fine
fine_performed new MergeAttributesIntoBody b may newly fine = fine_merged (second b.tree.stack) b.attrs b.tree fine
fine_performed new RemoveBody b may newly fine = fine_body_removed (second b.tree.stack) b.tree fine
fine_performed new InsertPending b may newly fine = fine_chars (reverse b.pending) b.tree fine
fine_performed new _ b may newly fine = fine

fine_after : (new : Bool) (action : Action) (tests : List Test) (b : Building) → may_list new action ≡ true → (new ≡ true → Newly b.tree) →
    Fine b.tree → Fine (after tests action b).tree
fine_after new action tests b may newly fine = by (list_all (is_met b) tests)
  where
    by : (x : Bool) → Fine (elim x as (λ _. Building) [ true ↦ perform action b | false ↦ b ]).tree
    by true = fine_performed new action b may newly fine
    by false = fine

performs_named : (action : Action) (b : Building) → keeps_name action ≡ true → IsNamed b.token → IsNamed (perform action b).token
unfolding perform
performs_named (Rename name) b e h = cc
performs_named AdjustSvgName b e h = cc
performs_named action b e h = h

named_after : (action : Action) (tests : List Test) (b : Building) → keeps_name action ≡ true → IsNamed b.token →
    IsNamed (after tests action b).token
named_after action tests b e h = by (list_all (is_met b) tests)
  where
    by : (x : Bool) → IsNamed (elim x as (λ _. Building) [ true ↦ perform action b | false ↦ b ]).token
    by true = performs_named action b e h
    by false = h

newly_after : (action : Action) (tests : List Test) (b : Building) → inserts action tests ≡ true → IsNamed b.token →
    Newly (after tests action b).tree
unfolding perform
newly_after InsertElement [] b h named = newly_inserted (place b.tree) (own_name b.token) b.attrs b.tree named
newly_after _ _ b h named = never h

-- what is known behind an action
at_after : (named new : Bool) (action : Action) (tests : List Test) (b : Building) → may_list new action ≡ true → At named new b →
    At (named && keeps_name action) (named && inserts action tests) (after tests action b)
at_after named new action tests b may at = (
  λ e. let two : (named ≡ true) × (keeps_name action ≡ true) = both named (keeps_name action) e in
      named_after action tests b two.1 (at.0 two.0),
  λ e. let two : (named ≡ true) × (inserts action tests ≡ true) = both named (inserts action tests) e in
      newly_after action tests b two.1 (at.0 two.0),
  fine_after new action tests b may at.1 at.2,
)

-- ---- rules

-- the tags are of formatting elements
abbrev pub is_of_formatting : Pattern → Bool
is_of_formatting (StartTagOf names) = list_all (λ one. is_among one formatting_names) names
is_of_formatting _ = false

abbrev pub rules_pass : List Rule → Bool
rules_pass [] = true
rules_pass (rule patterns tests acts ∷ more) = acts_pass (list_all is_of_formatting patterns) false acts && rules_pass more

all_pass : (mode : Mode) → rules_pass (rules mode) ≡ true
unfolding rules
all_pass Dispatcher = refl
all_pass Initial = refl
all_pass BeforeHtml = refl
all_pass BeforeHead = refl
all_pass InHead = refl
all_pass InHeadNoscript = refl
all_pass AfterHead = refl
all_pass InBody = refl
all_pass Text = refl
all_pass InTable = refl
all_pass InTableText = refl
all_pass InCaption = refl
all_pass InColumnGroup = refl
all_pass InTableBody = refl
all_pass InRow = refl
all_pass InCell = refl
all_pass InTemplate = refl
all_pass AfterBody = refl
all_pass InFrameset = refl
all_pass AfterFrameset = refl
all_pass AfterAfterBody = refl
all_pass AfterAfterFrameset = refl
all_pass ForeignContent = refl

pattern_named : (p : Pattern) (token : Token) → is_of_formatting p ≡ true → fits p token ≡ true → IsNamed token
pattern_named (StartTagOf names) (AStart name attrs closing) h e = among_more name names formatting_names h e
pattern_named (StartTagOf names) _ h e = never e
pattern_named _ token h e = never h

patterns_named : (ps : List Pattern) (token : Token) → list_all is_of_formatting ps ≡ true → list_any (λ p. fits p token) ps ≡ true →
    IsNamed token
patterns_named [] token h e = never e
patterns_named (p ∷ ps) token h e =
    let two : (is_of_formatting p ≡ true) × (list_all is_of_formatting ps ≡ true) =
    both (is_of_formatting p) (list_all is_of_formatting ps) h in
    by (fits p token) refl e two.0 (patterns_named ps token two.1)
  where
    by : (x : Bool) → fits p token ≡ x → x || list_any (λ q. fits q token) ps ≡ true → is_of_formatting p ≡ true →
        (list_any (λ q. fits q token) ps ≡ true → IsNamed token) → IsNamed token
    by true f k o more = pattern_named p token o f
    by false f k o more = more k

-- what is known of the acts that are taken
abbrev pub Passes : Token → List Act → Type 0
Passes token acts = (named : Bool) × (named ≡ true → IsNamed token) × (acts_pass named false acts ≡ true)

taken_passes : (b : Building) (rs : List Rule) → rules_pass rs ≡ true → Passes b.token (taken b rs)
unfolding taken
taken_passes b [] pass = (false, (λ e. never e), refl)
taken_passes b (rule patterns tests acts ∷ more) pass =
    by (list_any (λ pattern. fits pattern b.token) patterns) (list_all (is_met b) tests)
    (λ met. (list_all is_of_formatting patterns, (λ h. patterns_named patterns b.token h met), two.0)) (taken_passes b more two.1)
  where
    two : (acts_pass (list_all is_of_formatting patterns) false acts ≡ true) × (rules_pass more ≡ true)
    two = both (acts_pass (list_all is_of_formatting patterns) false acts) (rules_pass more) pass

    by : (x y : Bool) → (x ≡ true → Passes b.token acts) → Passes b.token (taken b more) → Passes b.token (elim x as (λ _. List Act) [
      | true ↦ elim y as (λ _. List Act) [ true ↦ acts | false ↦ taken b more ]
      | false ↦ taken b more
    ])
    by true true k l = k refl
    by true false k l = l
    by false y k l = l

-- ---- runs

abbrev pub Listed : Building → Type 0
Listed b = Fine b.tree

abbrev pub RunsListed : (Mode → Building → Option Building) → (Mode → Building → Option Building) → Type 0
RunsListed f g = (mode : Mode) (b : Building) → Listed b → Follows Listed (f mode b) (g mode b)

chars_run : (f g : Building → Option Building) → ((b : Building) → Listed b → Follows Listed (f b) (g b)) → (cs : List ℕ) (b : Building) →
    Listed b → Follows Listed (each_char f cs b) (each_char g cs b)
chars_run f g runs [] b fine = λ c h. (h, subst Listed (same_Some b c h) fine)
chars_run f g runs (x ∷ xs) b fine =
    then_follows Listed Listed (each_char f xs) (each_char g xs) (λ y k. chars_run f g runs xs y k) (f (with_token (AChar x) [] b))
    (g (with_token (AChar x) [] b)) (runs (with_token (AChar x) [] b) fine)

way_run : (f g : Mode → Building → Option Building) → RunsListed f g → (way : Way) (b : Building) → Listed b →
    Follows Listed (gone f way b) (gone g way b)
way_run f g runs Reprocess b fine = runs Dispatcher b fine
way_run f g runs UseCurrentMode b fine = runs b.mode b fine
way_run f g runs (Use mode) b fine = runs mode b fine
way_run f g runs (UseForEachPending mode) b fine =
    mapped Listed (with_token b.token b.attrs) (λ x k. k) (each_char (f mode) (reverse b.pending) b)
    (each_char (g mode) (reverse b.pending) b) (chars_run (f mode) (g mode) (runs mode) (reverse b.pending) b fine)

acts_run : (f g : Mode → Building → Option Building) → RunsListed f g → (named new : Bool) (acts : List Act) (b : Building) →
    acts_pass named new acts ≡ true → At named new b → Follows Listed (performed f acts b) (performed g acts b)
acts_run f g runs named new [] b pass at = λ c h. (h, subst Listed (same_Some b c h) at.2)
acts_run f g runs named new (does action tests ∷ acts) b pass at =
    let two : (may_list new action ≡ true) × (acts_pass (named && keeps_name action) (named && inserts action tests) acts ≡ true) =
    both (may_list new action) (acts_pass (named && keeps_name action) (named && inserts action tests) acts) pass in
    acts_run f g runs (named && keeps_name action) (named && inserts action tests) acts (after tests action b) two.1
    (at_after named new action tests b two.0 at)
acts_run f g runs named new (goes way ∷ acts) b pass at =
    then_follows Listed Listed (performed f acts) (performed g acts)
    (λ x k. acts_run f g runs false false acts x pass ((λ e. never e), (λ e. never e), k)) (gone f way b) (gone g way b)
    (way_run f g runs way b at.2)

barred_too : (test : Building → Bool) (mode : Mode) (b : Building) → Listed b → is_barred test mode b ≡ false →
    is_barred (formatting_too test) mode b ≡ false
barred_too test Dispatcher b fine h = passes_both (test b) (lists_formatting b) true (fine_is b.tree fine) (λ k. refl) h
barred_too test _ b fine h = refl

runs_listed : (test : Building → Bool) (d : ℕ) → RunsListed (run_while test d) (run_while (formatting_too test) d)
unfolding run_while
runs_listed test zero mode b fine = λ c h. cc
runs_listed test (suc d) mode b fine =
    let passes : Passes b.token (taken b (rules mode)) = taken_passes b (rules mode) (all_pass mode) in
    barred_follows Listed (is_barred test mode b) (is_barred (formatting_too test) mode b)
    (performed (run_while test d) (taken b (rules mode)) b) (performed (run_while (formatting_too test) d) (taken b (rules mode)) b)
    (barred_too test mode b fine)
    (acts_run (run_while test d) (run_while (formatting_too test) d) (runs_listed test d) passes.0 false (taken b (rules mode)) b passes.2
    (passes.1, (λ e. never e), fine))

-- ---- turns

step_listed : (test : Building → Bool) (d : ℕ) (b : Building) (token : Token) → Listed b →
    Follows Listed (tree_step_while test d b token) (tree_step_while (formatting_too test) d b token)
unfolding tree_step_while
step_listed test d b token fine = by (b.skip && is_line_feed token)
  where
    by : (x : Bool) → Follows Listed (elim x [ true ↦ Some (with_next token b) | false ↦ run_while test d Dispatcher (with_next token b) ])
        (elim x [ true ↦ Some (with_next token b) | false ↦ run_while (formatting_too test) d Dispatcher (with_next token b) ])
    by true = λ c h. (h, subst Listed (same_Some (with_next token b) c h) fine)
    by false = runs_listed test d Dispatcher (with_next token b) fine

steps_listed : (test : Building → Bool) (d : ℕ) (tokens : List Token) (b : Building) → Listed b →
    Follows Listed (tree_steps_while test d b tokens) (tree_steps_while (formatting_too test) d b tokens)
steps_listed test d [] b fine = λ c h. (h, subst Listed (same_Some b c h) fine)
steps_listed test d (token ∷ more) b fine =
    then_follows Listed Listed (λ after. tree_steps_while test d after more) (λ after. tree_steps_while (formatting_too test) d after more)
    (λ x k. steps_listed test d more x k) (tree_step_while test d b token) (tree_step_while (formatting_too test) d b token)
    (step_listed test d b token fine)

pub only_formatting_is_listed : OnlyFormattingIsListed
only_formatting_is_listed test depth beginning tokens end h =
    (steps_listed test depth tokens (first_building beginning) (begins beginning) end h).0
  where
    begins : (beginning : Beginning) → Listed (first_building beginning)
    begins (OfPage scripting) = refl
    begins (OfFragment scripting around) = refl
