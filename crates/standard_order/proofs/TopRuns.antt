-- Once `html` is a child of the Document, rules leave the children of the Document as they are, by induction on how deep rules use rules.
use Rattle.std.specs.Prelude.{◌≡◌, ◌&&◌, ◌||◌, ◌⊎◌, refl, ℕ, zero, suc, Bool, true, false, not, ◌==◌, List, [], ◌∷◌, Option, None, Some, option_map, reverse}
use Rattle.std.proofs.Common.{inl, inr}
use Rattle.std.specs.List.{list_all, list_any}
use Rattle.std.specs.Option.{option_and_then}
use Rattle.std.proofs.lemmas.Option.{same_Some}
use mathlib.Core.Path.{◌∙◌, sym, ap, subst}
use Rattle.standard_trees.specs.RuleWords.{Act, Action, FramesetNotOk, InsertCharacter, InsertElement, KeepMode, ListMarker, Mode, Pop, PopToTopmost}
use Rattle.standard_trees.specs.RuleWords.{PushHeadPointer, PushTemplateMode, ReconstructFormatting, RemoveBody, RemoveHeadFromStack, Reprocess, Rule, SwitchTo}
use Rattle.standard_trees.specs.RuleWords.{Test, TextState, TokenizerTo, Use, UseCurrentMode, UseForEachPending, does, goes, rule}
use Rattle.standard_trees.specs.RuleWords.{Dispatcher, Initial, BeforeHtml, BeforeHead, InHead, InHeadNoscript, AfterHead, InBody, Text}
use Rattle.standard_trees.specs.RuleWords.{InTable, InTableText, InCaption, InColumnGroup, InTableBody, InRow, InCell, InTemplate}
use Rattle.standard_trees.specs.RuleWords.{AfterBody, InFrameset, AfterFrameset, AfterAfterBody, AfterAfterFrameset, ForeignContent}
use Rattle.standard_trees.specs.TreeRules.{rules}
use Rattle.standard_trees.specs.TreeStore.{ElementNode, Html, Kind, MathMl, Node, Svg, key_in}
use Rattle.standard_trees.specs.GrowingTree.{GrowingTree, inserted, is_among, with_chars, with_stack}
use Rattle.standard_trees.specs.Formatting.{reconstructed}
use Rattle.standard_trees.specs.Building.{Building, char_of, each_char, fits, gone, is_met, is_space, own_name, perform, performed, run, taken, with_head, with_token}
use Rattle.standard_trees.specs.Building.{with_tree}
use Rattle.standard_order.proofs.Labels.{Is as IsAt, labels}
use Rattle.standard_order.proofs.StandingStacks.{Closed, Stands, both, head, never}
use Rattle.standard_order.proofs.GoodTrees.{Good}
use Rattle.standard_order.proofs.Levels.{Any, Behind, Exact, Fine, Info, Late, Level, Of, Start, TableText, acts_pass, heads, info_after, is_after_head, is_carried}
use Rattle.standard_order.proofs.Levels.{is_cell, is_first, is_inside, is_inside_level, is_pending, is_table_text, is_tabled, may_use, next_of, own, starts_one}
use Rattle.standard_order.proofs.LevelFacts.{At, LateAt, Turn}
use Rattle.standard_order.proofs.LevelTrees.{holds_of}
use Rattle.standard_order.proofs.LevelNext.{after}
use Rattle.standard_order.proofs.RulesPassed.{Ready, any_holds}
use Rattle.standard_order.proofs.RulesUsed.{Uses, ends_turn, holds_after, next_of_at, ready, starts_so, use_at, uses_current}
use Rattle.standard_order.proofs.Carried.{Carries, HeadActs, IsHeadIn, head_acts}
use Rattle.standard_order.proofs.PendingRun.{PendingAt, body_acts, body_taken, turn_pending, with_char}
use Rattle.standard_order.proofs.TurnsRun.{after_head_is, all_in_order, carried_acts, carried_holds, carried_is, head_in, pending_acts, pending_is, table_text_is}
use Rattle.standard_order.proofs.NodeTags.{class_at, is_element, kind_class, tags}
use Rattle.standard_order.proofs.NodeTops.{Rooted}
use Rattle.standard_order.proofs.TreeTops.{Doc, Elements, Filled, doc_chars, doc_inserted, doc_reconstructed, doc_stack, elements_dropped, elements_without}
use Rattle.standard_order.proofs.TopSteps.{Settled, goes_topmost, is_proper, is_removal, is_safe, settled_after, shape_filled, topmost_good}

-- ---- the rules of each mode after "before html"

abbrev pub rules_proper : List Rule → Bool
rules_proper [] = true
rules_proper (rule patterns tests acts ∷ more) = is_proper acts && rules_proper more

taken_proper : (b : Building) (rs : List Rule) → rules_proper rs ≡ true → is_proper (taken b rs) ≡ true
unfolding taken
taken_proper b [] h = refl
taken_proper b (rule patterns tests acts ∷ more) h =
    by (list_any (λ pattern. fits pattern b.token) patterns) (list_all (is_met b) tests) (both _ _ h).0
    (taken_proper b more (both (is_proper acts) (rules_proper more) h).1)
  where
    by : (x y : Bool) → is_proper acts ≡ true → is_proper (taken b more) ≡ true →
        is_proper (elim x as (λ _. List Act) [
          | true ↦ elim y as (λ _. List Act) [ true ↦ acts | false ↦ taken b more ]
          | false ↦ taken b more
        ]) ≡ true
    by true true k l = k
    by true false k l = l
    by false y k l = l

all_proper : (mode : Mode) → is_first mode ≡ false → rules_proper (rules mode) ≡ true
unfolding rules
all_proper Initial h = never (sym h)
all_proper BeforeHtml h = never (sym h)
all_proper Dispatcher h = refl
all_proper BeforeHead h = refl
all_proper InHead h = refl
all_proper InHeadNoscript h = refl
all_proper AfterHead h = refl
all_proper InBody h = refl
all_proper Text h = refl
all_proper InTable h = refl
all_proper InTableText h = refl
all_proper InCaption h = refl
all_proper InColumnGroup h = refl
all_proper InTableBody h = refl
all_proper InRow h = refl
all_proper InCell h = refl
all_proper InTemplate h = refl
all_proper AfterBody h = refl
all_proper InFrameset h = refl
all_proper AfterFrameset h = refl
all_proper AfterAfterBody h = refl
all_proper AfterAfterFrameset h = refl
all_proper ForeignContent h = refl

-- ---- runs

pub record TopRuns (f : Mode → Building → Option Building) : Type 0 where
  pub uses : (mode : Mode) (b c : Building) → Uses mode b → is_first mode ≡ false → Settled b → f mode b ≡ Some c → Turn c × Settled c
  pub carries : (o : Option ℕ) (s : List ℕ) (b c : Building) → Carries o s b → holds_of (Start heads) b.token ≡ true → Settled b → f InHead b ≡ Some c →
      Settled c
  pub chars : (x : ℕ) (b c : Building) → PendingAt b → Settled b → f InBody (with_char x b) ≡ Some c → PendingAt c × Settled c

pub then_some : (f : Building → Option Building) (o : Option Building) (c : Building) → option_and_then f o ≡ Some c →
    (x : Building) × (o ≡ Some x) × (f x ≡ Some c)
then_some f None c e = cc
then_some f (Some x) c e = (x, refl, e)

pub map_some : (f : Building → Building) (o : Option Building) (c : Building) → option_map f o ≡ Some c → (x : Building) × (o ≡ Some x) × (f x ≡ c)
map_some f None c e = cc
map_some f (Some x) c e = (x, refl, same_Some (f x) c e)

-- ---- characters of tables

each_settled : (f : Mode → Building → Option Building) → TopRuns f → (xs : List ℕ) (b c : Building) → PendingAt b → Settled b →
    each_char (f InBody) xs b ≡ Some c → PendingAt c × Settled c
each_settled f runs [] b c p s e = subst (λ u. PendingAt u × Settled u) (same_Some b c e) (p, s)
each_settled f runs (x ∷ xs) b c p s e =
    let one : (y : Building) × (f InBody (with_char x b) ≡ Some y) × (each_char (f InBody) xs y ≡ Some c) =
    then_some (each_char (f InBody) xs) (f InBody (with_char x b)) c e in
    let now : PendingAt one.0 × Settled one.0 = runs.chars x b one.0 p s one.1 in
    each_settled f runs xs one.0 c now.0 now.1 one.2

pending_settled : (f : Mode → Building → Option Building) → TopRuns f → (b c : Building) → PendingAt b → Settled b →
    gone f (UseForEachPending InBody) b ≡ Some c → PendingAt c × Settled c
pending_settled f runs b c p s e =
    let one : (y : Building) × (each_char (f InBody) (reverse b.pending) b ≡ Some y) × (with_token b.token b.attrs y ≡ c) =
    map_some (with_token b.token b.attrs) (each_char (f InBody) (reverse b.pending) b) c e in
    subst (λ u. PendingAt u × Settled u) one.2 (each_settled f runs (reverse b.pending) b one.0 p s one.1)

pub pending_filled : (b : Building) → PendingAt b → Filled b.tree.stack
pending_filled b p = shape_filled (own b.original) (labels b.tree.nodes) b.tree.stack p.1.0

body_settled : (f : Mode → Building → Option Building) (x : ℕ) (b c : Building) → PendingAt b → Settled b → performed f (body_acts x) b ≡ Some c → Settled c
unfolding perform
body_settled f x b c p s e = by (x == 0 || false) (is_space x || false) e
  where
    now : Doc Rooted (with_chars (char_of b.token) (reconstructed b.tree))
    now = doc_chars Rooted (char_of b.token) (reconstructed b.tree) (doc_reconstructed Rooted b.tree (pending_filled b p) s.0)

    by : (y z : Bool) → performed f (elim y [
      | true ↦ []
      | false ↦ elim z [
        | true ↦ does ReconstructFormatting [] ∷ does InsertCharacter [] ∷ []
        | false ↦ does ReconstructFormatting [] ∷ does InsertCharacter [] ∷ does FramesetNotOk [] ∷ []
      ]
    ]) b ≡ Some c → Settled c
    by true z h = subst Settled (same_Some b c h) s
    by false true h = subst Settled (same_Some _ c h) (now, s.1)
    by false false h = subst Settled (same_Some _ c h) (now, s.1)

-- ---- acts

pub acts_settled : (f : Mode → Building → Option Building) → TopRuns f → (acts : List Act) (level : Level) (info : Info) (b c : Building) →
    holds_of info b.token ≡ true → acts_pass level info acts ≡ true → is_proper acts ≡ true → At level b → Settled b → performed f acts b ≡ Some c →
    Turn c × Settled c
acts_settled f runs [] level info b c k pass proper at s e = subst (λ u. Turn u × Settled u) (same_Some b c e) (ends_turn level b pass at, s)
acts_settled f runs (does action tests ∷ acts) level info b c k pass proper at s e =
    by (next_of level info action tests) refl pass (λ new p now settled. acts_settled f runs acts new (info_after action info) (after tests action b) c
    (holds_after info action tests b k) p two.1 now settled e)
  where
    two : ((is_safe action || (is_removal action && goes_topmost acts)) ≡ true) × (is_proper acts ≡ true)
    two = both (is_safe action || (is_removal action && goes_topmost acts)) (is_proper acts) proper

    removed : (acts : List Act) (new : Level) → goes_topmost acts ≡ true → acts_pass new (info_after action info) acts ≡ true → At new (after tests action b) →
        Good Rattle.standard_order.proofs.StandingStacks.Inside (is_cell (after tests action b).mode) (after tests action b).tree
    removed (does PopToTopmost [] ∷ more) new g p now = topmost_good new (info_after action info) more (after tests action b) p now
    removed _ new g p now = never g

    removal : (a : Action) → is_removal a ≡ true → a ≡ RemoveBody
    removal RemoveBody h = refl
    removal _ h = never h

    safe_or : (x y : Bool) → x || y ≡ true → (x ≡ true) ⊎ (y ≡ true)
    safe_or true y h = inl refl
    safe_or false y h = inr h

    settled : (new : Level) → next_of level info action tests ≡ Some new → acts_pass new (info_after action info) acts ≡ true →
        At new (after tests action b) → Settled (after tests action b)
    settled new f p now = one (safe_or (is_safe action) (is_removal action && goes_topmost acts) two.0)
      where
        one : (is_safe action ≡ true) ⊎ (is_removal action && goes_topmost acts ≡ true) → Settled (after tests action b)
        one (inl safe) = settled_after level info action tests b new safe f at s
        one (inr gone_) = Rattle.standard_order.proofs.TopSteps.body_after action tests b (removal action (both (is_removal action) (goes_topmost acts) gone_).0) s
            (removed acts new (both (is_removal action) (goes_topmost acts) gone_).1 p now)

    by : (o : Option Level) → next_of level info action tests ≡ o →
        elim o [ Some new ↦ acts_pass new (info_after action info) acts | None ↦ false ] ≡ true →
        ((new : Level) → acts_pass new (info_after action info) acts ≡ true → At new (after tests action b) → Settled (after tests action b) →
        Turn c × Settled c) → Turn c × Settled c
    by (Some new) f p more = more new p (next_of_at level info action tests b new k f at) (settled new f p (next_of_at level info action tests b new k f at))
    by None f p more = never p
acts_settled f runs (goes Reprocess ∷ acts) level info b c k pass proper at s e =
    let two : (Rattle.standard_order.proofs.Levels.ends level ≡ true) × (acts_pass Fine (Any [] []) acts ≡ true) = both _ _ pass in
    let one : (x : Building) × (f Dispatcher b ≡ Some x) × (performed f acts x ≡ Some c) = then_some (performed f acts) (f Dispatcher b) c e in
    let now : Turn one.0 × Settled one.0 = runs.uses Dispatcher b one.0 (ends_turn level b two.0 at) refl s one.1 in
    acts_settled f runs acts Fine (Any [] []) one.0 c (any_holds one.0.token) two.1 proper now.0 now.1 one.2
acts_settled f runs (goes UseCurrentMode ∷ acts) level info b c k pass proper at s e =
    let two : (Rattle.standard_order.proofs.Levels.ends level ≡ true) × (acts_pass Fine (Any [] []) acts ≡ true) = both _ _ pass in
    let one : (x : Building) × (f b.mode b ≡ Some x) × (performed f acts x ≡ Some c) = then_some (performed f acts) (f b.mode b) c e in
    let now : Turn one.0 × Settled one.0 = runs.uses b.mode b one.0 (uses_current b (ends_turn level b two.0 at)) s.1 s one.1 in
    acts_settled f runs acts Fine (Any [] []) one.0 c (any_holds one.0.token) two.1 proper now.0 now.1 one.2
acts_settled f runs (goes (Use mode) ∷ acts) level info b c k pass proper at s e =
    let two : (may_use level info mode ≡ true) × (acts_pass Fine (Any [] []) acts ≡ true) = both _ _ pass in
    let one : (x : Building) × (f mode b ≡ Some x) × (performed f acts x ≡ Some c) = then_some (performed f acts) (f mode b) c e in
    let now : Turn one.0 × Settled one.0 = runs.uses mode b one.0 (use_at level info mode b two.0 k at) (Rattle.standard_order.proofs.TopSteps.used_later level info mode two.0) s one.1 in
    acts_settled f runs acts Fine (Any [] []) one.0 c (any_holds one.0.token) two.1 proper now.0 now.1 one.2
acts_settled f runs (goes (UseForEachPending mode) ∷ acts) level info b c k pass proper at s e =
    let two : (is_table_text level mode ≡ true) × (acts_pass Behind (Any [] []) acts ≡ true) = both _ _ pass in
    let here : (InBody ≡ mode) × PendingAt b = table_text_is level mode b two.0 at in
    let one : (x : Building) × (gone f (UseForEachPending mode) b ≡ Some x) × (performed f acts x ≡ Some c) =
    then_some (performed f acts) (gone f (UseForEachPending mode) b) c e in
    let now : PendingAt one.0 × Settled one.0 =
    pending_settled f runs b one.0 here.1 s (subst (λ m. gone f (UseForEachPending m) b ≡ Some one.0) (sym here.0) one.1) in
    acts_settled f runs acts Behind (Any [] []) one.0 c (any_holds one.0.token) two.1 proper (now.0.0, now.0.1) now.1 one.2

-- ---- with the head element on the stack

head_element : (nodes : List Node) (n : ℕ) → IsAt head (labels nodes) n → is_element (class_at (tags nodes) n) ≡ true
head_element [] n h = never h
head_element (node ∷ nodes) (suc n) h = head_element nodes n h
head_element (node ∷ nodes) zero h = by node.kind h
  where
    by : (kind : Kind) → is_among (key_in kind) (Rattle.std.specs.Prelude.codes "head" ∷ []) ≡ true → is_element (kind_class kind) ≡ true
    by (ElementNode Html name attrs contents) k = Rattle.standard_order.proofs.TreeTops.name_element name
    by (ElementNode Svg name attrs contents) k = refl
    by (ElementNode MathMl name attrs contents) k = refl
    by _ k = never k

stack_filled : (o : Option ℕ) (s : List ℕ) (b : Building) → Carries o s b → Filled b.tree.stack
stack_filled o s b carries f = by o s (sym f ∙ carries.stack_is) carries.below
  where
    by : (o : Option ℕ) (s : List ℕ) → [] ≡ with_head o s → Stands Closed (labels b.tree.nodes) s → ⊥
    by None [] g st = st
    by None (n ∷ ns) g st = cc
    by (Some n) s g st = cc

head_settled : (f : Mode → Building → Option Building) (acts : List Act) (o : Option ℕ) (s : List ℕ) (b c : Building) → HeadActs (own_name b.token) acts →
    Carries o s b → Settled b → performed f acts b ≡ Some c → Settled c
unfolding perform
head_settled f acts o s b c (inl is) carries settled e =
    subst Settled (same_Some _ c (subst (λ a. performed f a b ≡ Some c) is e))
    (doc_stack Rooted now (Rattle.std.specs.Prelude.drop 1 now.stack) (elements_dropped (tags now.nodes) now.stack new.open_) new, settled.1)
  where
    now : GrowingTree
    now = inserted Html (own_name b.token) b.attrs b.tree

    new : Doc Rooted (inserted Html (own_name b.token) b.attrs b.tree)
    new = doc_inserted Rooted Html (own_name b.token) b.attrs b.tree (stack_filled o s b carries) settled.0
head_settled f acts o s b c (inr (inl one)) carries settled e =
    subst Settled (same_Some _ c (subst (λ a. performed f a b ≡ Some c) one.1 e))
    (doc_inserted Rooted Html (own_name b.token) b.attrs b.tree (stack_filled o s b carries) settled.0, refl)
head_settled f acts o s b c (inr (inr one)) carries settled e =
    subst Settled (same_Some _ c (subst (λ a. performed f a b ≡ Some c) one.0 e))
    (doc_inserted Rooted Html (own_name b.token) b.attrs _ (stack_filled o s b carries) (record { top = settled.0.top; open_ = settled.0.open_ }), refl)

carried_settled : (f : Mode → Building → Option Building) → TopRuns f → (b c : Building) → LateAt (Exact AfterHead) Of false b →
    holds_of (Start heads) b.token ≡ true → Settled b → performed f carried_acts b ≡ Some c → Settled c
unfolding perform
carried_settled f runs b c at h s e =
    let pushed : Building = with_tree b (with_stack b.tree (with_head b.tree.head b.tree.stack)) in
    let one : (x : Building) × (f InHead pushed ≡ Some x) × (performed f (does RemoveHeadFromStack [] ∷ []) x ≡ Some c) =
    then_some (performed f (does RemoveHeadFromStack [] ∷ [])) (f InHead pushed) c e in
    let now : Settled one.0 = runs.carries b.tree.head b.tree.stack pushed one.0 (carried_holds b at) h
    (doc_stack Rooted b.tree (with_head b.tree.head b.tree.stack) (with_it b.tree.head (head_in b.tree at.2.1)) s.0, s.1) one.1 in
    subst Settled (same_Some _ c one.2) (Rattle.standard_order.proofs.TopSteps.loses_head one.0.tree.head one.0.tree now.0, now.1)
  where
    with_it : (o : Option ℕ) → IsHeadIn (labels b.tree.nodes) o → Elements (tags b.tree.nodes) (with_head o b.tree.stack)
    with_it None f = s.0.open_
    with_it (Some n) f =
        ap (λ x. x && list_all (λ i. is_element (class_at (tags b.tree.nodes) i)) b.tree.stack) (head_element b.tree.nodes n f) ∙ s.0.open_

begun_settled : (f : Mode → Building → Option Building) → TopRuns f → (b c : Building) →
    Turn (record b { pending = []; original = b.mode; mode = InTableText }) → Settled b → performed f pending_acts b ≡ Some c → Settled c
unfolding perform
begun_settled f runs b c turn s e =
    let one : (x : Building) × (f Dispatcher (record b { pending = []; original = b.mode; mode = InTableText }) ≡ Some x) × (performed f [] x ≡ Some c) =
    then_some (performed f []) (f Dispatcher (record b { pending = []; original = b.mode; mode = InTableText })) c e in
    subst Settled (same_Some one.0 c one.2)
    (runs.uses Dispatcher (record b { pending = []; original = b.mode; mode = InTableText }) one.0 turn refl (s.0, refl) one.1).1

-- ---- what a rule says

ready_settled : (d : ℕ) → TopRuns (run d) → (acts : List Act) (b c : Building) → Ready acts b → is_proper acts ≡ true → Settled b →
    performed (run d) acts b ≡ Some c → Settled c
ready_settled d runs acts b c (level, info, tests, k, at, met, pass) proper s e = by (is_carried acts) (is_pending acts) refl refl pass
  where
    by : (x y : Bool) → is_carried acts ≡ x → is_pending acts ≡ y →
        elim x [
          | true ↦ is_after_head level && starts_one heads info
          | false ↦ elim y [
            | true ↦ is_inside_level level && is_tabled tests
            | false ↦ acts_pass level info acts
          ]
        ] ≡ true → Settled c
    by true y f q p = carried_settled (run d) runs b c (after_head_is level b (both (is_after_head level) (starts_one heads info) p).0 at)
        (starts_so heads info b.token (both (is_after_head level) (starts_one heads info) p).1 k) s
        (subst (λ a. performed (run d) a b ≡ Some c) (sym (carried_is acts f)) e)
    by false true f q p = begun_settled (run d) runs b c
        (turn_pending level tests b (both (is_inside_level level) (is_tabled tests) p).0 (both (is_inside_level level) (is_tabled tests) p).1 met at) s
        (subst (λ a. performed (run d) a b ≡ Some c) (sym (pending_is acts q)) e)
    by false false f q p = (acts_settled (run d) runs acts level info b c k p proper at s e).1

no_result : {P : Type 0} (c : Building) → None ≡ Some c → P
no_result c h = cc

pub all_settled : (d : ℕ) → TopRuns (run d)
unfolding run
all_settled zero = record {
  uses = λ mode b c u m s e. no_result c e;
  carries = λ o s b c h k settled e. no_result c e;
  chars = λ x b c p s e. no_result c e;
}
all_settled (suc d) = record {
  uses = λ mode b c u m s e. (
    ((all_in_order (suc d)).uses mode b u c e).1,
    ready_settled d (all_settled d) (taken b (rules mode)) b c (ready mode b u) (taken_proper b (rules mode) (all_proper mode m)) s e,
  );
  carries = λ o s b c h k settled e. head_settled (run d) (taken b (rules InHead)) o s b c (head_acts b k) h settled e;
  chars = λ x b c p s e. (
    ((all_in_order (suc d)).chars x b p c e).1,
    body_settled (run d) x (with_char x b) c p s (subst (λ acts. performed (run d) acts (with_char x b) ≡ Some c) (body_taken x b) e),
  );
}

-- where no element is open, the dispatcher leaves the token to the rules for the current mode
pub dispatched_bare : (b : Building) → b.tree.stack ≡ [] → taken b (rules Dispatcher) ≡ goes UseCurrentMode ∷ []
unfolding rules
dispatched_bare b bare =
    Rattle.standard_order.proofs.RulesUsed.anything_met b (Rattle.standard_trees.specs.RuleWords.is Rattle.standard_trees.specs.RuleWords.NoOpenElements)
    (goes UseCurrentMode ∷ []) _ (ap Rattle.standard_trees.specs.Building.is_empty bare)
