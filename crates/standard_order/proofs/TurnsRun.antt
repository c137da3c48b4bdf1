-- Wherever the dispatcher begins with a token, a turn may begin, by induction on how deep rules use rules.
use Rattle.std.specs.Prelude.{◌≡◌, ◌||◌, refl, ℕ, zero, suc, Bool, true, false, not, ◌&&◌, List, [], ◌∷◌, Option, None, Some}
use Rattle.std.specs.Prelude.{bytes_eq, codes, cond, unwrap_or}
use Rattle.std.proofs.Common.{inl}
use Rattle.std.proofs.lemmas.Option.{same_Some}
use mathlib.Core.Path.{sym, ap, subst}
use Rattle.standard_tokens.specs.Tokens.{Token}
use Rattle.standard_trees.specs.RuleWords.{Act, AfterHead, BeforeHead, BeforeHtml, Dispatcher, EmptyPending, InBody, Initial, Text, InHead}
use Rattle.standard_trees.specs.RuleWords.{InTableText, InTemplate, KeepMode, Mode, PushHeadPointer, RemoveHeadFromStack, Reprocess, SwitchTo, Use}
use Rattle.standard_trees.specs.RuleWords.{UseCurrentMode, UseForEachPending, does, goes}
use Rattle.standard_trees.specs.TreeRules.{resets, rules}
use Rattle.standard_trees.specs.GrowingTree.{FormOfContext, GrowingTree, NoForm, inserted_at, is_template, with_stack}
use Rattle.standard_trees.specs.TreeStore.{EndOf, Html, Kind, is_html, key_in}
use Rattle.standard_trees.specs.Building.{Building, gone, is_line_feed, perform, performed, run, start, taken, tree_step, tree_steps}
use Rattle.standard_trees.specs.Building.{Surroundings, context_of, empty_tree, form_of, fragment_start, reset_by, with_head, with_next, with_tree}
use Rattle.standard_order.specs.Order.{OrderNeedsNoTest, TurnsBeginInOrder, is_in_order}
use Rattle.standard_order.specs.Beginnings.{Beginning, OfFragment, OfPage, first_building}
use Rattle.standard_order.specs.Turns.{is_barred, run_while, tree_step_while, tree_steps_while}
use Rattle.standard_order.proofs.Labels.{labels}
use Rattle.standard_order.proofs.ResetModes.{key_is}
use Rattle.standard_order.proofs.StandingStacks.{Closed, both, never}
use Rattle.standard_order.proofs.GoodTrees.{IsForm, IsHeadPointer, PointersOf, is_whole}
use Rattle.standard_order.proofs.Levels.{Any, Behind, Exact, Fine, Info, Late, Level, Of, Start, Std, TableText, acts_pass, ends, heads}
use Rattle.standard_order.proofs.Levels.{info_after, is_after_head, is_carried, is_inside_level, is_pending, is_table_text, is_tabled}
use Rattle.standard_order.proofs.Levels.{may_use, next_of, own, starts_one}
use Rattle.standard_order.proofs.LevelFacts.{At, Content, LateAt, TreeIs, Turn, TurnIs, is_at_node}
use Rattle.standard_order.proofs.LevelTrees.{holds_of}
use Rattle.standard_order.proofs.LevelNext.{after, reset_turn}
use Rattle.standard_order.proofs.RulesPassed.{Ready, any_holds}
use Rattle.standard_order.proofs.RulesUsed.{Uses, ends_turn, holds_after, next_of_at, ready, starts_so, use_at, uses_current}
use Rattle.standard_order.proofs.Follows.{Follows, barred_follows, passes_both, then_follows}
use Rattle.standard_order.proofs.InOrder.{turn_in_order}
use Rattle.standard_order.proofs.Carried.{Carried, Carries, IsHeadIn, acts_carried, head_acts}
use Rattle.standard_order.proofs.PendingRun.{CharsRun, PendingAt, body_char, body_taken, pending_run, turn_pending, with_char}

-- what is known of two runs
pub record Runs (f g : Mode → Building → Option Building) : Type 0 where
  pub uses : (mode : Mode) (b : Building) → Uses mode b → Follows Turn (f mode b) (g mode b)
  pub carries : (o : Option ℕ) (s : List ℕ) (b : Building) → Carries o s b → holds_of (Start heads) b.token ≡ true → Follows Carried (f InHead b)
      (g InHead b)
  pub chars : CharsRun f g

-- ---- acts

pub table_text_is : (level : Level) (mode : Mode) (b : Building) → is_table_text level mode ≡ true → At level b → (InBody ≡ mode) × PendingAt b
table_text_is TableText InBody b h at = (refl, (at.1, at.2, at.3))
table_text_is level mode b h at = never h

-- acts go on behind what the first comes to
pub acts_run : (f g : Mode → Building → Option Building) → Runs f g → (acts : List Act) (level : Level) (info : Info) (b : Building) →
    holds_of info b.token ≡ true → acts_pass level info acts ≡ true → At level b →
    Follows Turn (performed f acts b) (performed g acts b)
acts_run f g runs [] level info b k pass at = λ c h. (h, subst Turn (same_Some b c h) (ends_turn level b pass at))
acts_run f g runs (does action tests ∷ acts) level info b k pass at =
    by (next_of level info action tests) refl pass (λ new p now. acts_run f g runs acts new (info_after action info) (after tests action b)
    (holds_after info action tests b k) p now)
  where
    by : (o : Option Level) → next_of level info action tests ≡ o →
        elim o [ Some new ↦ acts_pass new (info_after action info) acts | None ↦ false ] ≡ true →
        ((new : Level) → acts_pass new (info_after action info) acts ≡ true → At new (after tests action b) →
        Follows Turn (performed f acts (after tests action b)) (performed g acts (after tests action b))) →
        Follows Turn (performed f acts (after tests action b)) (performed g acts (after tests action b))
    by (Some new) e p more = more new p (next_of_at level info action tests b new k e at)
    by None e p more = never p
acts_run f g runs (goes Reprocess ∷ acts) level info b k pass at =
    then_follows Turn Turn (performed f acts) (performed g acts)
    (λ x turn. acts_run f g runs acts Fine (Any [] []) x (any_holds x.token) (both (ends level) (acts_pass Fine (Any [] []) acts) pass).1
    turn)
    (f Dispatcher b) (g Dispatcher b) (runs.uses Dispatcher b
    (ends_turn level b (both (ends level) (acts_pass Fine (Any [] []) acts) pass).0 at))
acts_run f g runs (goes UseCurrentMode ∷ acts) level info b k pass at =
    then_follows Turn Turn (performed f acts) (performed g acts)
    (λ x turn. acts_run f g runs acts Fine (Any [] []) x (any_holds x.token) (both (ends level) (acts_pass Fine (Any [] []) acts) pass).1
    turn)
    (f b.mode b) (g b.mode b) (runs.uses b.mode b (uses_current b
    (ends_turn level b (both (ends level) (acts_pass Fine (Any [] []) acts) pass).0 at)))
acts_run f g runs (goes (Use mode) ∷ acts) level info b k pass at =
    then_follows Turn Turn (performed f acts) (performed g acts)
    (λ x turn. acts_run f g runs acts Fine (Any [] []) x (any_holds x.token) (both (may_use level info mode)
    (acts_pass Fine (Any [] []) acts) pass).1 turn)
    (f mode b) (g mode b) (runs.uses mode b (use_at level info mode b (both (may_use level info mode) (acts_pass Fine (Any [] []) acts)
    pass).0 k at))
acts_run f g runs (goes (UseForEachPending mode) ∷ acts) level info b k pass at =
    let two : (is_table_text level mode ≡ true) × (acts_pass Behind (Any [] []) acts ≡ true) = both (is_table_text level mode)
    (acts_pass Behind (Any [] []) acts) pass in
    let here : (InBody ≡ mode) × PendingAt b = table_text_is level mode b two.0 at in
    then_follows PendingAt Turn (performed f acts) (performed g acts)
    (λ x p. acts_run f g runs acts Behind (Any [] []) x (any_holds x.token) two.1 (p.0, p.1))
    (gone f (UseForEachPending mode) b) (gone g (UseForEachPending mode) b)
    (subst (λ m. Follows PendingAt (gone f (UseForEachPending m) b) (gone g (UseForEachPending m) b)) here.0
    (pending_run f g runs.chars b here.1))

-- ---- with the head element on the stack

abbrev pub carried_acts : List Act
carried_acts = does PushHeadPointer [] ∷ goes (Use InHead) ∷ does RemoveHeadFromStack [] ∷ []

pub carried_is : (acts : List Act) → is_carried acts ≡ true → carried_acts ≡ acts
carried_is (does PushHeadPointer [] ∷ goes (Use InHead) ∷ does RemoveHeadFromStack [] ∷ []) h = refl
carried_is _ h = never h

pub after_head_is : (level : Level) (b : Building) → is_after_head level ≡ true → At level b → LateAt (Exact AfterHead) Of false b
after_head_is (Late (Exact AfterHead) Of kept) b h at = (at.0, at.1, at.2, λ k. never k)
after_head_is _ b h at = never h

pub head_in : (t : GrowingTree) → PointersOf t → IsHeadIn (labels t.nodes) t.head
head_in t p = by t.head p.head_is
  where
    by : (o : Option ℕ) → IsHeadPointer (labels t.nodes) t.context o → IsHeadIn (labels t.nodes) o
    by None h = tt
    by (Some n) h = h

pub carried_holds : (b : Building) → LateAt (Exact AfterHead) Of false b →
    Carries b.tree.head b.tree.stack (with_tree b (with_stack b.tree (with_head b.tree.head b.tree.stack)))
carried_holds b at = record {
  mode_is = at.0;
  modes = at.1;
  head_at = refl;
  stack_is = refl;
  is_head = head_in b.tree at.2.1;
  below = closed.0.0;
  pointers = at.2.1;
}
  where
    closed : TreeIs (Std Closed false) b.tree
    closed = subst (λ m. TreeIs (own m) b.tree) at.0 at.2

carried_run : (f g : Mode → Building → Option Building) → Runs f g → (b : Building) → LateAt (Exact AfterHead) Of false b →
    holds_of (Start heads) b.token ≡ true →
    Follows Turn (performed f carried_acts b) (performed g carried_acts b)
unfolding perform
carried_run f g runs b at h =
    then_follows Carried Turn (performed f (does RemoveHeadFromStack [] ∷ [])) (performed g (does RemoveHeadFromStack [] ∷ []))
    (λ x c d k. (k, subst Turn (same_Some (perform RemoveHeadFromStack x) d k) c)) (f InHead pushed_head) (g InHead pushed_head)
    (runs.carries b.tree.head b.tree.stack pushed_head (carried_holds b at) h)
  where
    pushed_head : Building
    pushed_head = with_tree b (with_stack b.tree (with_head b.tree.head b.tree.stack))

-- ---- the characters of a table

abbrev pub pending_acts : List Act
pending_acts = does EmptyPending [] ∷ does KeepMode [] ∷ does (SwitchTo InTableText) [] ∷ goes Reprocess ∷ []

pub pending_is : (acts : List Act) → is_pending acts ≡ true → pending_acts ≡ acts
pending_is (does EmptyPending [] ∷ does KeepMode [] ∷ does (SwitchTo InTableText) [] ∷ goes Reprocess ∷ []) h = refl
pending_is _ h = never h

pending_begun : (f g : Mode → Building → Option Building) → Runs f g → (b : Building) →
    Turn (record b { pending = []; original = b.mode; mode = InTableText }) →
    Follows Turn (performed f pending_acts b) (performed g pending_acts b)
unfolding perform
pending_begun f g runs b turn =
    then_follows Turn Turn (performed f []) (performed g []) (λ x t d k. (k, subst Turn (same_Some x d k) t))
    (f Dispatcher (record b { pending = []; original = b.mode; mode = InTableText }))
    (g Dispatcher (record b { pending = []; original = b.mode; mode = InTableText }))
    (runs.uses Dispatcher (record b { pending = []; original = b.mode; mode = InTableText }) turn)

-- ---- what a rule says

pub ready_run : (f g : Mode → Building → Option Building) → Runs f g → (acts : List Act) (b : Building) → Ready acts b →
    Follows Turn (performed f acts b) (performed g acts b)
ready_run f g runs acts b (level, info, tests, k, at, met, pass) = by (is_carried acts) (is_pending acts) refl refl pass
  where
    by : (x y : Bool) → is_carried acts ≡ x → is_pending acts ≡ y →
        elim x [
          | true ↦ is_after_head level && starts_one heads info
          | false ↦ elim y [
            | true ↦ is_inside_level level &&
                is_tabled tests
            | false ↦ acts_pass level info acts
          ]
        ] ≡ true →
        Follows Turn (performed f acts b) (performed g acts b)
    by true y e q p = subst (λ a. Follows Turn (performed f a b) (performed g a b)) (carried_is acts e)
        (carried_run f g runs b (after_head_is level b (both (is_after_head level) (starts_one heads info) p).0 at)
        (starts_so heads info b.token (both (is_after_head level) (starts_one heads info) p).1 k))
    by false true e q p = subst (λ a. Follows Turn (performed f a b) (performed g a b)) (pending_is acts q)
        (pending_begun f g runs b (turn_pending level tests b (both (is_inside_level level) (is_tabled tests) p).0
        (both (is_inside_level level) (is_tabled tests) p).1 met at))
    by false false e q p = acts_run f g runs acts level info b k p at

-- ---- runs

-- a state passes a test, and that is so of it
abbrev pub fact_too : (Building → Bool) → (Building → Bool) → Building → Bool
fact_too fact test b = test b && fact b

-- that is so of every state with which a turn may begin
abbrev pub Known : (Building → Bool) → Type 0
Known fact = (b : Building) → Turn b → fact b ≡ true

abbrev pub RunsKnow : (Building → Bool) → (Building → Bool) → ℕ → Type 0
RunsKnow fact test d = Runs (run_while test d) (run_while (fact_too fact test) d)

no_result : (P : Building → Type 0) → Follows P None None
no_result P c h = cc

barred_too : (fact : Building → Bool) → Known fact → (test : Building → Bool) (mode : Mode) (b : Building) → Uses mode b → is_barred test mode b ≡ false →
    is_barred (fact_too fact test) mode b ≡ false
barred_too fact known test Dispatcher b uses h = passes_both (test b) (fact b) true (known b uses) (λ k. refl) h
barred_too fact known test _ b uses h = refl

acts_are_body : (fact test : Building → Bool) (d : ℕ) (x : ℕ) (b : Building) → PendingAt b →
    Follows PendingAt (performed (run_while test d) (taken (with_char x b) (rules InBody)) (with_char x b))
    (performed (run_while (fact_too fact test) d) (taken (with_char x b) (rules InBody)) (with_char x b))
acts_are_body fact test d x b at = subst (λ acts. Follows PendingAt (performed (run_while test d) acts (with_char x b))
    (performed (run_while (fact_too fact test) d) acts (with_char x b)))
    (sym (body_taken x b)) (body_char (run_while test d) (run_while (fact_too fact test) d) x (with_char x b) at)

pub runs_know : (fact : Building → Bool) → Known fact → (test : Building → Bool) (d : ℕ) → RunsKnow fact test d
unfolding run_while
runs_know fact known test zero = record {
  uses = λ mode b u. no_result Turn;
  carries = λ n s b c h. no_result Carried;
  chars = λ x b at. no_result PendingAt;
}
runs_know fact known test (suc d) = record {
  uses = λ mode b u. barred_follows Turn (is_barred test mode b) (is_barred (fact_too fact test) mode b)
      (performed (run_while test d) (taken b (rules mode)) b)
      (performed (run_while (fact_too fact test) d) (taken b (rules mode)) b) (barred_too fact known test mode b u)
      (ready_run (run_while test d) (run_while (fact_too fact test) d) (runs_know fact known test d) (taken b (rules mode)) b (ready mode b u));
  carries = λ n s b c h. acts_carried (run_while test d) (run_while (fact_too fact test) d) n s b (taken b (rules InHead)) (head_acts b h) c;
  chars = λ x b at. acts_are_body fact test d x b at;
}

-- ---- turns

-- another token
pub turn_next : (token : Token) (b : Building) → Turn b → Turn (with_next token b)
turn_next token b turn = (turn.0, by b.mode turn.1)
  where
    by : (m : Mode) → TurnIs m b → TurnIs m (with_next token b)
    by Initial h = h
    by BeforeHtml h = h
    by BeforeHead h = h
    by Text h = h
    by InTableText h = h
    by _ h = h

step_knows : (fact : Building → Bool) → Known fact → (test : Building → Bool) (d : ℕ) (b : Building) (token : Token) → Turn b →
    Follows Turn (tree_step_while test d b token) (tree_step_while (fact_too fact test) d b token)
unfolding tree_step_while
step_knows fact known test d b token turn = by (b.skip && is_line_feed token)
  where
    next : Turn (with_next token b)
    next = turn_next token b turn

    by : (x : Bool) → Follows Turn (elim x [ true ↦ Some (with_next token b) | false ↦ run_while test d Dispatcher (with_next token b) ])
        (elim x [ true ↦ Some (with_next token b) | false ↦ run_while (fact_too fact test) d Dispatcher (with_next token b) ])
    by true = λ c h. (h, subst Turn (same_Some (with_next token b) c h) next)
    by false = (runs_know fact known test d).uses Dispatcher (with_next token b) next

pub steps_know : (fact : Building → Bool) → Known fact → (test : Building → Bool) (d : ℕ) (tokens : List Token) (b : Building) → Turn b →
    Follows Turn (tree_steps_while test d b tokens) (tree_steps_while (fact_too fact test) d b tokens)
steps_know fact known test d [] b turn = λ c h. (h, subst Turn (same_Some b c h) turn)
steps_know fact known test d (token ∷ more) b turn =
    then_follows Turn Turn (λ after. tree_steps_while test d after more) (λ after. tree_steps_while (fact_too fact test) d after more)
    (λ x k. steps_know fact known test d more x k) (tree_step_while test d b token) (tree_step_while (fact_too fact test) d b token)
    (step_knows fact known test d b token turn)

-- before a page, and before a fragment
page_turn : (scripting : Bool) → Turn (start scripting)
page_turn scripting = (refl, (refl, (refl, refl, refl, refl)))

fragment_turn : (scripting : Bool) (around : Surroundings) → Turn (fragment_start scripting around)
fragment_turn scripting around = by (is_whole context) refl
  where
    context : Option Kind
    context = Some (context_of around)

    tree : GrowingTree
    tree = record (inserted_at (EndOf 0) Html (codes "html") [] empty_tree) { form = form_of around; context = context }

    before : Building
    before = record (start scripting) {
      tree = tree;
      quirks = around.quirks;
      template_modes = cond (is_template around.space around.name) (InTemplate ∷ []) [];
    }

    content : Content before.template_modes
    content = by (is_template around.space around.name)
      where
        by : (x : Bool) → Content (cond x (InTemplate ∷ []) [])
        by true = refl
        by false = refl

    none_at : (x : Bool) → is_at_node (cond x FormOfContext NoForm) ≡ false
    none_at true = refl
    none_at false = refl

    form_is : (x : Bool) → IsForm (labels tree.nodes) (cond x FormOfContext NoForm)
    form_is true = tt
    form_is false = tt

    is_form : Bool
    is_form = around.in_form || (is_html around.space && bytes_eq around.name (codes "form"))

    by : (x : Bool) → is_whole context ≡ x → Turn (fragment_start scripting around)
    by true e = (content, subst (λ m. TurnIs m (fragment_start scripting around)) (sym mode) (refl, (refl, none_at is_form, refl, e)))
      where
        mode : (fragment_start scripting around).mode ≡ BeforeHead
        mode = ap (λ name. unwrap_or (reset_by resets name before.template_modes None []) InBody)
            (key_is (codes "html") (key_in (context_of around)) e)
    by false e = reset_turn before (
      inl (inl (refl, refl)),
      record { entries = tt; form_is = form_is is_form; found_is = tt; head_is = e },
    ) content

first_turn : (beginning : Beginning) → Turn (first_building beginning)
first_turn (OfPage scripting) = page_turn scripting
first_turn (OfFragment scripting around) = fragment_turn scripting around

-- so no test of turns need ask for it
pub fact_needs_no_test : (fact : Building → Bool) → Known fact → (test : Building → Bool) (depth : ℕ) (beginning : Beginning)
    (tokens : List Token) (end : Building) → tree_steps_while test depth (first_building beginning) tokens ≡ Some end →
    tree_steps_while (fact_too fact test) depth (first_building beginning) tokens ≡ Some end
fact_needs_no_test fact known test depth beginning tokens end h =
    (steps_know fact known test depth tokens (first_building beginning) (first_turn beginning) end h).0

pub order_needs_no_test : OrderNeedsNoTest
order_needs_no_test test depth beginning tokens end h = fact_needs_no_test is_in_order turn_in_order test depth beginning tokens end h

-- ---- runs without a test

never_barred : (mode : Mode) (b : Building) → Uses mode b → is_barred is_in_order mode b ≡ false
never_barred Dispatcher b uses = ap not (turn_in_order b uses)
never_barred _ b uses = refl

unbarred_follows : (P : Building → Type 0) (x : Bool) (o p : Option Building) → x ≡ false → Follows P o p →
    Follows P o (elim x [ true ↦ None | false ↦ p ])
unbarred_follows P true o p e follows = never (sym e)
unbarred_follows P false o p e follows = follows

all_body : (d : ℕ) (x : ℕ) (b : Building) → PendingAt b →
    Follows PendingAt (performed (run d) (taken (with_char x b) (rules InBody)) (with_char x b)) (performed (run_while is_in_order d)
    (taken (with_char x b) (rules InBody)) (with_char x b))
all_body d x b at = subst (λ acts. Follows PendingAt (performed (run d) acts (with_char x b)) (performed (run_while is_in_order d) acts
    (with_char x b)))
    (sym (body_taken x b)) (body_char (run d) (run_while is_in_order d) x (with_char x b) at)

pub all_in_order : (d : ℕ) → Runs (run d) (run_while is_in_order d)
unfolding run run_while
all_in_order zero = record {
  uses = λ mode b u. no_result Turn;
  carries = λ n s b c h. no_result Carried;
  chars = λ x b at. no_result PendingAt;
}
all_in_order (suc d) = record {
  uses = λ mode b u. unbarred_follows Turn (is_barred is_in_order mode b) (performed (run d) (taken b (rules mode)) b)
      (performed (run_while is_in_order d) (taken b (rules mode)) b) (never_barred mode b u)
      (ready_run (run d) (run_while is_in_order d) (all_in_order d) (taken b (rules mode)) b (ready mode b u));
  carries = λ n s b c h. acts_carried (run d) (run_while is_in_order d) n s b (taken b (rules InHead)) (head_acts b h) c;
  chars = λ x b at. all_body d x b at;
}

any_step : (d : ℕ) (b : Building) (token : Token) → Turn b → Follows Turn (tree_step d b token) (tree_step_while is_in_order d b token)
unfolding tree_step tree_step_while
any_step d b token turn = by (b.skip && is_line_feed token)
  where
    by : (x : Bool) → Follows Turn (elim x [ true ↦ Some (with_next token b) | false ↦ run d Dispatcher (with_next token b) ])
        (elim x [ true ↦ Some (with_next token b) | false ↦ run_while is_in_order d Dispatcher (with_next token b) ])
    by true = λ c h. (h, subst Turn (same_Some (with_next token b) c h) (turn_next token b turn))
    by false = (all_in_order d).uses Dispatcher (with_next token b) (turn_next token b turn)

any_steps : (d : ℕ) (tokens : List Token) (b : Building) → Turn b → Follows Turn (tree_steps d b tokens)
    (tree_steps_while is_in_order d b tokens)
any_steps d [] b turn = λ c h. (h, subst Turn (same_Some b c h) turn)
any_steps d (token ∷ more) b turn =
    then_follows Turn Turn (λ after. tree_steps d after more) (λ after. tree_steps_while is_in_order d after more)
    (λ x k. any_steps d more x k) (tree_step d b token) (tree_step_while is_in_order d b token) (any_step d b token turn)

pub turns_begin_in_order : TurnsBeginInOrder
turns_begin_in_order depth beginning tokens end h = (any_steps depth tokens (first_building beginning) (first_turn beginning) end h).0
