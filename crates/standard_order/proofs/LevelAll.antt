-- Each action leads from each level to the one that is computed.
use Rattle.std.specs.Prelude.{◌≡◌, ◌||◌, refl, ℕ, Bool, true, false, not, ◌&&◌, List, [], ◌∷◌, Option, Some}
use Rattle.std.specs.Prelude.{bytes_eq, codes}
use Rattle.std.specs.List.{list_any}
use mathlib.Core.Path.{◌∙◌, sym, ap, subst}
use Rattle.standard_trees.specs.NameLists.{button_scope, implied, list_item_scope, scope, table_scope, thoroughly_implied}
use Rattle.standard_trees.specs.RuleWords.{Action, AllImpliedEndTags, BeforeHead, BeforeHtml, ButtonScope, FosterOff, ImpliedEndTags}
use Rattle.standard_trees.specs.RuleWords.{ImpliedEndTagsBut, Initial, InsertElement, InsertNamed, InsertRootElement, InsertRootNamed}
use Rattle.standard_trees.specs.RuleWords.{ListItemScope, Mode, Names, Own, Pop}
use Rattle.standard_trees.specs.RuleWords.{PopUntil, PopUntilOwnInAnyCase, PopUpTo, Scope, ScopeKind, SetHeadPointer, SwitchBack, SwitchTo}
use Rattle.standard_trees.specs.RuleWords.{TableScope, Test, These}
use Rattle.standard_trees.specs.RuleWords.{Dispatcher, InHead, InHeadNoscript, AfterHead, InBody, Text, InTable, InTableText, InCaption}
use Rattle.standard_trees.specs.RuleWords.{InColumnGroup, InTableBody, InRow, InCell, InTemplate, AfterBody, InFrameset, AfterFrameset}
use Rattle.standard_trees.specs.RuleWords.{AfterAfterBody, AfterAfterFrameset, ForeignContent}
use Rattle.standard_trees.specs.TreeStore.{EndOf, Html, Place, NodeAttr}
use Rattle.standard_trees.specs.GrowingTree.{FormAt, FormOfContext, FormPointer, GrowingTree, NoForm, beyond, current, ends_scope, has_in_scope, implied_of}
use Rattle.standard_trees.specs.GrowingTree.{in_scope, inserted, inserted_at, is_among, is_one, lower, past, place, put}
use Rattle.standard_trees.specs.GrowingTree.{created_element, fresh, top, with_stack}
use Rattle.standard_trees.specs.Formatting.{local_of}
use Rattle.standard_trees.specs.Building.{Building, names_for, own_name, perform, with_tree}
use Rattle.standard_order.proofs.Labels.{Grows, Is as IsAt, Label, Makes, kind_at, labels, named}
use Rattle.standard_order.proofs.StandingStacks.{Inside, IsHead, IsRoot, Sort, both, cells, fixed, framing, head, html}
use Rattle.standard_order.proofs.StandingStacks.{never, only_apart, opposite}
use Rattle.standard_order.proofs.GoodTrees.{Good, apart, good_implied, good_implied_all, in_scope_beyond, label_for}
use Rattle.standard_order.proofs.GoodTrees.{makes_inserted}
use Rattle.standard_order.proofs.Levels.{Bare, Before, Behind, Fine, Fixed, Foreign, HeadMade, Head, Info, Late, Level, Loose, Never}
use Rattle.standard_order.proofs.Levels.{Nowhere, Of, OfPlain, Opened, OpenedFree, Plain, RootMade, Scoped, Std, TableText, TextMode, Where}
use Rattle.standard_order.proofs.Levels.{has_all, is_before_head, is_cell, is_in, is_table_scope, names_among, names_apart, next, no_cell}
use Rattle.standard_order.proofs.Levels.{own, own_apart, own_within, scoped_next, until, until_scoped}
use Rattle.standard_order.proofs.LevelFacts.{At, Content, EarlyIs, LateAt, Stk, TreeIs, Turn, TurnIs}
use Rattle.standard_order.proofs.LevelTrees.{holds_of, own_apart_so, own_within_so, past_own, past_template}
use Rattle.standard_order.proofs.LevelTrees.{upto_scoped}
use Rattle.standard_order.proofs.LevelSteps.{if_so_at, no_keep, none_some, some_at}
use Rattle.standard_order.proofs.LevelNext.{after, in_good, late_next_at, names_apart_so, names_wider, no_cell_mode, past_at, past_plain}
use Rattle.standard_order.proofs.LevelNext.{scope_wider, unclaimed_back, until_cell, own_good, back_in}
use Rattle.standard_order.proofs.GoodTrees.{among_more, AllListed, IsForm, IsFound}
use Rattle.standard_trees.specs.GrowingTree.{key, kind_of, pushed}
use Rattle.standard_order.proofs.LevelTrees.{inside_own, place_inside, pop_held}
use Rattle.standard_order.proofs.StandingStacks.{named_apart}
use Rattle.standard_order.proofs.Labels.{label_of}
use Rattle.standard_order.proofs.LevelNext.{same_one}
use Rattle.standard_order.proofs.LevelFacts.{is_at_node, root_grown}

-- ---- elements in scope

implied_kept : (place : Where) (b : Building) (names but : List (List ℕ)) → is_in place ≡ true → apart names fixed ≡ true →
    LateAt place Of false b → LateAt place Of false (with_tree b (implied_of names but b.tree))
implied_kept place b names but i ok at = back_in place b (implied_of names but b.tree) i at.0 at.1
    (good_implied Inside (is_cell b.mode) b.tree names but ok (in_good place b false Of refl i at))

scoped_implied : (place : Where) (kind : ScopeKind) (wanted : Names) (but : List (List ℕ)) (b : Building) →
    ((n : ℕ) → is_one b.tree implied n && not (is_one b.tree but n) ≡ true → is_one b.tree (names_for wanted b.token) n ≡ true → ⊥) →
    At (Scoped place kind wanted) b → At (Scoped place kind wanted) (with_tree b (implied_of implied but b.tree))
scoped_implied place kind wanted but b none at = (
  at.0,
  implied_kept place b implied but at.0 refl at.1,
  same_scope kind (in_scope_beyond (is_one b.tree (names_for wanted b.token)) (ends_scope kind b.tree) (λ n. is_one b.tree implied n &&
      not (is_one b.tree but n)) none b.tree.stack at.2),
)
  where
    after_tree : GrowingTree
    after_tree = implied_of implied but b.tree

    same_scope : (q : ScopeKind) → in_scope (is_one b.tree (names_for wanted b.token)) (ends_scope q b.tree) after_tree.stack ≡ true →
        in_scope (is_one after_tree (names_for wanted b.token)) (ends_scope q after_tree) after_tree.stack ≡ true
    same_scope Scope h = h
    same_scope ListItemScope h = h
    same_scope ButtonScope h = h
    same_scope TableScope h = h

scope_ends : (kind : ScopeKind) (one : List ℕ) → is_among one scope && (is_among one list_item_scope &&
    (is_among one button_scope && is_among one table_scope)) ≡ true → (t : GrowingTree) (n : ℕ) →
    IsAt (named (one ∷ [])) (labels t.nodes) n → ends_scope kind t n ≡ true
scope_ends kind one all t n at = by kind
  where
    so : (names : List (List ℕ)) → is_among one names ≡ true → is_one t names n ≡ true
    so names h = among_more (key t n) (one ∷ []) names (ap (λ x. x && true) h) (kind_at (named (one ∷ [])) t.nodes n at)

    by : (q : ScopeKind) → ends_scope q t n ≡ true
    by Scope = so scope (both (is_among one scope) _ all).0
    by ListItemScope = so list_item_scope (both (is_among one list_item_scope) _ (both (is_among one scope) _ all).1).0
    by ButtonScope = so button_scope (both (is_among one button_scope) _ (both (is_among one list_item_scope) _
        (both (is_among one scope) _ all).1).1).0
    by TableScope = so table_scope (both (is_among one button_scope) _ (both (is_among one list_item_scope) _
        (both (is_among one scope) _ all).1).1).1

upto_plain : (place : Where) (kind : ScopeKind) (wanted : List (List ℕ)) (names : List (List ℕ)) (b : Building) → no_cell place ≡ true →
    apart wanted framing ≡ true → ((n : ℕ) → is_one b.tree wanted n ≡ true → is_one b.tree names n ≡ true) →
    apart names cells ≡ true → LateAt place Of false b → has_in_scope kind wanted b.tree ≡ true → LateAt place OfPlain false
    (with_tree b (with_stack b.tree (beyond (λ n. not (is_one b.tree names n)) b.tree.stack)))
upto_plain place kind wanted names b n ok among off at scope =
    let two : (is_in place ≡ true) × (is_cell b.mode ≡ false) = no_cell_mode place b.mode b.token n at.0 in
    let g : Good Inside (is_cell b.mode) b.tree = in_good place b false Of refl two.0 at in (
      at.0,
      at.1,
      (
        whole (inside_own b.mode (place_inside place b.mode b.token two.0 at.0)) two.1
            (upto_scoped b.tree (is_one b.tree wanted) (ends_scope kind b.tree) names (only_apart wanted framing ok b.tree) among
            (λ m. scope_ends kind (codes "html") refl b.tree m) (λ m. scope_ends kind (codes "template") refl b.tree m) off b.tree.stack
            scope g.0),
        at.2.1,
      ),
      no_keep (with_tree b (with_stack b.tree (beyond (λ m. not (is_one b.tree names m)) b.tree.stack))),
    )
  where
    s : List ℕ
    s = beyond (λ m. not (is_one b.tree names m)) b.tree.stack

    whole : own b.mode ≡ Std Inside (is_cell b.mode) → is_cell b.mode ≡ false → Stk (Plain (Std Inside false)) (labels b.tree.nodes) s →
        Stk (Plain (own b.mode)) (labels b.tree.nodes) s
    whole e f h = subst (λ x. Stk (Plain x) (labels b.tree.nodes) s) (sym (e ∙ ap (Std Inside) f)) h

until_scoped_at : (place : Where) (kind : ScopeKind) (wanted : Names) (info : Info) (names : Names) (b : Building) (new : Level) →
    holds_of info b.token ≡ true → until_scoped place kind wanted info names ≡ Some new →
    At (Scoped place kind wanted) b → At new (perform (PopUntil names) b)
unfolding perform
until_scoped_at place kind wanted info names b new k e at = by (names_among wanted names && names_apart framing names info) refl e
  where
    after_tree : GrowingTree
    after_tree = with_stack b.tree (past (is_one b.tree (names_for names b.token)) b.tree.stack)

    scope_of : names_among wanted names ≡ true → has_in_scope kind (names_for names b.token) b.tree ≡ true
    scope_of among = scope_wider (is_one b.tree (names_for wanted b.token)) (is_one b.tree (names_for names b.token))
        (ends_scope kind b.tree) (names_wider b.tree wanted names b.token among) b.tree.stack at.2

    tree : names_among wanted names && names_apart framing names info ≡ true → TreeIs (Std Inside false) after_tree
    tree f = past_plain place kind names info b at.0 at.1 k (scope_of (both _ _ f).0) (both (names_among wanted names)
        (names_apart framing names info) f).1

    inner : names_among wanted names && names_apart framing names info ≡ true → (x y z : Bool) → no_cell place ≡ x →
        is_table_scope kind ≡ y → names_apart fixed names info ≡ z →
        elim (x || (not y && z)) as (λ _. Option Level) [
          | true ↦ Some (Late place Of false)
          | false ↦ Some
              (Late place (Fixed (Std Inside false)) false)
        ] ≡ Some new → At new (with_tree b after_tree)
    inner f true y z a c d g = some_at (Late place Of false) new (with_tree b after_tree) g
        (unclaimed_back place b after_tree a at.1.0 at.1.1 (tree f))
    inner f false false true a c d g = some_at (Late place Of false) new (with_tree b after_tree) g
        (past_at place kind names info b at.0 at.1 k (scope_of (both _ _ f).0) d c)
    inner f false false false a c d g = some_at (Late place (Fixed (Std Inside false)) false) new (with_tree b after_tree) g (
      at.1.0,
      at.1.1,
      tree f,
      no_keep (with_tree b after_tree),
    )
    inner f false true z a c d g = some_at (Late place (Fixed (Std Inside false)) false) new (with_tree b after_tree) g (
      at.1.0,
      at.1.1,
      tree f,
      no_keep (with_tree b after_tree),
    )

    by : (x : Bool) → names_among wanted names && names_apart framing names info ≡ x → elim x as (λ _. Option Level) [
      | false ↦ until (Late place Of false) info names []
      | true ↦ elim (no_cell place || (not (is_table_scope kind) && names_apart fixed names info)) as (λ _. Option Level)
          [ true ↦ Some (Late place Of false) | false ↦ Some (Late place (Fixed (Std Inside false)) false) ]
    ] ≡ Some new → At new (with_tree b after_tree)
    by true f g = inner f (no_cell place) (is_table_scope kind) (names_apart fixed names info) refl refl refl g
    by false f g = until_cell place info names b new g at.1

scoped_next_at : (place : Where) (kind : ScopeKind) (wanted : Names) (info : Info) (action : Action) (tests : List Test) (b : Building)
    (new : Level) → holds_of info b.token ≡ true → scoped_next place kind wanted info action tests ≡ Some new →
    At (Scoped place kind wanted) b → At new (after tests action b)
unfolding perform
scoped_next_at place kind wanted info ImpliedEndTags [] b new k e at = if_so_at _ (Scoped place kind wanted) new _ e
    (λ s. scoped_implied place kind wanted [] b
    (λ n h w. opposite (is_one b.tree implied n) (named_apart (names_for wanted b.token) implied
    (names_apart_so implied wanted info b.token refl s k) (label_of (kind_of b.tree n)) w) (both (is_one b.tree implied n) _ h).0) at)
scoped_next_at place kind wanted info (ImpliedEndTagsBut names) [] b new k e at = if_so_at _ (Scoped place kind wanted) new _ e
    (λ s. scoped_implied place kind wanted (names_for names b.token) b (none (names_among wanted names) refl s) at)
  where
    none : (x : Bool) → names_among wanted names ≡ x → x || names_apart implied wanted info ≡ true → (n : ℕ) → is_one b.tree implied n &&
        not (is_one b.tree (names_for names b.token) n) ≡ true → is_one b.tree (names_for wanted b.token) n ≡ true → ⊥
    none true f s n h w = opposite (is_one b.tree (names_for names b.token) n) (both (is_one b.tree implied n)
        (not (is_one b.tree (names_for names b.token) n)) h).1 (names_wider b.tree wanted names b.token f n w)
    none false f s n h w = opposite (is_one b.tree implied n) (named_apart (names_for wanted b.token) implied
        (names_apart_so implied wanted info b.token refl s k) (label_of (kind_of b.tree n)) w) (both (is_one b.tree implied n) _ h).0
scoped_next_at place kind wanted info (PopUntil names) [] b new k e at = until_scoped_at place kind wanted info names b new k e at
scoped_next_at place kind (These wanted) info (PopUpTo (These names)) [] b new k e at = if_so_at _ (Late place OfPlain false) new _ e (λ s.
    let one : (no_cell place ≡ true) × (has_all wanted names &&
    (apart wanted framing && (apart names cells && not (is_among (codes "head") names && is_among (codes "frameset") names))) ≡ true) =
    both _ _ s in
    let two : (has_all wanted names ≡ true) × (apart wanted framing && (apart names cells && not (is_among (codes "head") names && is_among
    (codes "frameset") names)) ≡ true) = both _ _ one.1 in
    let three : (apart wanted framing ≡ true) × (apart names cells && not (is_among (codes "head") names && is_among (codes "frameset")
    names) ≡ true) = both _ _ two.1 in
    upto_plain place kind wanted names b one.0 three.0 (λ n h. same_one b.tree wanted names two.0 n h)
    (both (apart names cells) _ three.1).0 at.1 at.2)
scoped_next_at place kind Own info (PopUpTo (These names)) [] b new k e at = if_so_at _ (Late place OfPlain false) new _ e (λ s.
    let one : (no_cell place ≡ true) × (own_within names info && (own_apart framing info && apart names cells) ≡ true) = both _ _ s in
    let two : (own_within names info ≡ true) × (own_apart framing info && apart names cells ≡ true) = both _ _ one.1 in
    upto_plain place kind (own_name b.token ∷ []) names b one.0
    (ap (λ x. x && true) (own_apart_so framing info b.token refl (both _ _ two.1).0 k))
    (λ n h. same_one b.tree (own_name b.token ∷ []) names (ap (λ x. x && true) (own_within_so names info b.token two.0 k)) n h)
    (both (own_apart framing info) (apart names cells) two.1).1 at.1 at.2)
scoped_next_at place kind wanted info action tests b new k e at = late_next_at place Of false info action tests b new k e at.1

-- ---- before there is a head element

early_pushed : (other : List Label → List ℕ → Type 0) (shape : List Label → List ℕ → Type 0) (spot : Place) (name : List ℕ)
    (attrs : List NodeAttr) (t : GrowingTree) →
    ((ls old : List Label) (n : ℕ) (s : List ℕ) → ((test : Label → Bool) → test (label_for Html name) ≡ true → IsAt test ls n) →
    shape ls s → other ls (n ∷ s)) →
    ((new : GrowingTree) → Grows t.nodes new.nodes → shape (labels t.nodes) t.stack → shape (labels new.nodes) t.stack) → EarlyIs shape t →
    EarlyIs other (inserted_at spot Html name attrs t)
early_pushed other shape spot name attrs t step grown h =
    subst (λ (u : GrowingTree). EarlyIs other (pushed (fresh t) u)) (sym makes.only) (
      step (labels made.nodes) (labels t.nodes)
          (fresh t) t.stack makes.made (grown made makes.grows h.0),
      h.1,
    )
  where
    made : GrowingTree
    made = put (fresh t) spot (created_element Html name attrs t)

    makes : Makes (label_for Html name) t made
    makes = makes_inserted spot Html name attrs t

root_made : (name : List ℕ) (attrs : List NodeAttr) (t : GrowingTree) → is_among name (codes "html" ∷ []) ≡ true →
    EarlyIs (λ ls s. s ≡ []) t → EarlyIs IsRoot (inserted_at (EndOf 0) Html name attrs t)
root_made name attrs t is h = early_pushed IsRoot (λ ls s. s ≡ []) (EndOf 0) name attrs t
    (λ ls old n s made e. subst (λ q. IsRoot ls (n ∷ q)) (sym e) (made html is)) (λ new grows e. e) h

head_made : (name : List ℕ) (attrs : List NodeAttr) (t : GrowingTree) → is_among name (codes "head" ∷ []) ≡ true → EarlyIs IsRoot t →
    EarlyIs IsHead (inserted Html name attrs t)
head_made name attrs t is h = early_pushed IsHead IsRoot (place t) name attrs t (λ ls old n s made r. (made head is, r))
    (λ new grows r. root_grown t.nodes new.nodes grows t.stack r) h

first_is : (mode : Mode) → is_before_head mode ≡ true → mode ≡ BeforeHead
first_is Dispatcher h = never h
first_is Initial h = never h
first_is BeforeHtml h = never h
first_is BeforeHead h = refl
first_is InHead h = never h
first_is InHeadNoscript h = never h
first_is AfterHead h = never h
first_is InBody h = never h
first_is Text h = never h
first_is InTable h = never h
first_is InTableText h = never h
first_is InCaption h = never h
first_is InColumnGroup h = never h
first_is InTableBody h = never h
first_is InRow h = never h
first_is InCell h = never h
first_is InTemplate h = never h
first_is AfterBody h = never h
first_is InFrameset h = never h
first_is AfterFrameset h = never h
first_is AfterAfterBody h = never h
first_is AfterAfterFrameset h = never h
first_is ForeignContent h = never h

head_set : (b : Building) → EarlyIs IsHead b.tree → TreeIs Head (record b.tree { head = Some (current b.tree) })
head_set b h = (
  h.0,
  record {
    entries = subst (AllListed (labels b.tree.nodes)) (sym h.1.0) tt;
    form_is = form b.tree.form h.1.1;
    found_is = subst (IsFound (labels b.tree.nodes)) (sym h.1.2) tt;
    head_is = by b.tree.stack h.0;
  },
)
  where
    form : (form : FormPointer) → is_at_node form ≡ false → IsForm (labels b.tree.nodes) form
    form NoForm e = tt
    form FormOfContext e = tt
    form (FormAt n) e = cc

    by : (s : List ℕ) → IsHead (labels b.tree.nodes) s → IsAt head (labels b.tree.nodes) (top s)
    by [] k = absurd k
    by (n ∷ ns) k = k.0

-- ---- a turn may begin

back_turn : (b : Building) → Content b.template_modes → TreeIs (own b.original) b.tree → Turn (record b { mode = b.original })
back_turn b c h = (c, by b.original h)
  where
    by : (m : Mode) → TreeIs (own m) b.tree → TurnIs m (record b { mode = b.original })
    by Dispatcher h = absurd h.0
    by Initial h = absurd h.0
    by BeforeHtml h = absurd h.0
    by BeforeHead h = absurd h.0
    by InHead h = h
    by InHeadNoscript h = h
    by AfterHead h = h
    by InBody h = h
    by Text h = absurd h.0
    by InTable h = h
    by InTableText h = absurd h.0
    by InCaption h = h
    by InColumnGroup h = h
    by InTableBody h = h
    by InRow h = h
    by InCell h = h
    by InTemplate h = h
    by AfterBody h = h
    by InFrameset h = h
    by AfterFrameset h = h
    by AfterAfterBody h = h
    by AfterAfterFrameset h = h
    by ForeignContent h = absurd h.0

foster_turn : (b : Building) → Turn b → Turn (with_tree b (record b.tree { fostering = false }))
foster_turn b h = (h.0, by b.mode h.1)
  where
    by : (m : Mode) → TurnIs m b → TurnIs m (with_tree b (record b.tree { fostering = false }))
    by Dispatcher h = h
    by Initial h = h
    by BeforeHtml h = h
    by BeforeHead h = h
    by InHead h = h
    by InHeadNoscript h = h
    by AfterHead h = h
    by InBody h = h
    by Text h = h
    by InTable h = h
    by InTableText h = h
    by InCaption h = h
    by InColumnGroup h = h
    by InTableBody h = h
    by InRow h = h
    by InCell h = h
    by InTemplate h = h
    by AfterBody h = h
    by InFrameset h = h
    by AfterFrameset h = h
    by AfterAfterBody h = h
    by AfterAfterFrameset h = h
    by ForeignContent h = h

foreign_past : (place : Where) (b : Building) → At (Foreign place) b →
    LateAt place Of false (with_tree b (with_stack b.tree (past (λ n. bytes_eq (lower (local_of b.tree n)) (own_name b.token))
    b.tree.stack)))
foreign_past place b at =
    let good : (k : Sort) × (c : Bool) × (own b.mode ≡ Std k c) × Good k c b.tree = own_good place b false Of refl at.0 at.1 in
    let st : Stk (Std good.0 good.1) (labels b.tree.nodes) (past (λ n. bytes_eq (lower (local_of b.tree n)) (own_name b.token))
    b.tree.stack) =
    past_own good.0 good.1 b.tree (own_name b.token) b.tree.stack at.2 (good.3.0, good.3.1) in (
      at.1.0,
      at.1.1,
      subst (λ x. TreeIs x (with_stack b.tree (past (λ n. bytes_eq (lower (local_of b.tree n)) (own_name b.token))
          b.tree.stack))) (sym good.2) (st, good.3.2),
      λ k. never k,
    )

-- where a template is open
opened_free : (place : Where) (b : Building) → At (Opened place) b → LateAt place (Fixed (Std Inside false)) false b
opened_free place b at = (let g : Good Inside (is_cell b.mode) b.tree = in_good place b false Of refl at.0 at.1 in (
  at.1.0,
  at.1.1,
  ((g.0, λ c. never c), g.2),
  λ k. never k,
))

opened_kept : (place : Where) (b : Building) → At (Opened place) b →
    At (OpenedFree place) (with_tree b (implied_of thoroughly_implied [] b.tree))
opened_kept place b at =
    let free : LateAt place (Fixed (Std Inside false)) false b = opened_free place b at in
    let good : Good Inside false (implied_of thoroughly_implied [] b.tree) = good_implied_all Inside b.tree thoroughly_implied [] refl
    (free.2.0.0, free.2.0.1, free.2.1) in (
      at.0,
      (at.1.0, at.1.1, ((good.0, good.1), good.2), λ k. never k),
      any_beyond (is_one b.tree (codes "template" ∷ [])) (λ n. is_one b.tree thoroughly_implied n && not (is_one b.tree [] n))
          (λ n h w. opposite (is_one b.tree (codes "template" ∷ []) n) (named_apart thoroughly_implied (codes "template" ∷ []) refl
          (label_of (kind_of b.tree n)) (both (is_one b.tree thoroughly_implied n) _ h).0) w) b.tree.stack at.2,
    )
  where
    any_beyond : (wanted test : ℕ → Bool) → ((n : ℕ) → test n ≡ true → wanted n ≡ true → ⊥) → (s : List ℕ) → list_any wanted s ≡ true →
        list_any wanted (beyond test s) ≡ true
    any_beyond wanted test apart_so [] h = h
    any_beyond wanted test apart_so (n ∷ ns) h = by (test n) (wanted n) refl refl h (λ more. any_beyond wanted test apart_so ns more)
      where
        by : (x y : Bool) → test n ≡ x → wanted n ≡ y → y || list_any wanted ns ≡ true →
            (list_any wanted ns ≡ true → list_any wanted (beyond test ns) ≡ true) →
            list_any wanted (elim x as (λ _. List ℕ) [ true ↦ beyond test ns | false ↦ n ∷ ns ]) ≡ true
        by true true e f k go = absurd (apart_so n e f)
        by true false e f k go = go k
        by false y e f k go = ap (λ x. x || list_any wanted ns) f ∙ k

opened_until : (place : Where) (info : Info) (names : Names) (tests : List Test) (b : Building) (new : Level) →
    until (OpenedFree place) info names tests ≡ Some new → At (OpenedFree place) b → At new (after tests (PopUntil names) b)
unfolding perform
opened_until place info (These names) [] b new e at = if_so_at _ (Late place (Fixed Loose) false) new _ e
    (λ s. (
      at.1.0,
      at.1.1,
      (by (both (has_all names (codes "template" ∷ [])) (has_all (codes "template" ∷ []) names) s), at.1.2.1),
      λ k. never k,
    ))
  where
    one : ℕ → Bool
    one n = is_one b.tree (codes "template" ∷ []) n

    same_past : (f g : ℕ → Bool) → ((n : ℕ) → f n ≡ g n) → (s : List ℕ) → past f s ≡ past g s
    same_past f g same [] = refl
    same_past f g same (n ∷ ns) = ap (λ x. elim x as (λ _. List ℕ) [ true ↦ ns | false ↦ past f ns ]) (same n) ∙
        ap (λ q. elim (g n) as (λ _. List ℕ) [ true ↦ ns | false ↦ q ]) (same_past f g same ns)

    iff : (x y : Bool) → (x ≡ true → y ≡ true) → (y ≡ true → x ≡ true) → x ≡ y
    iff true true f g = refl
    iff false false f g = refl
    iff true false f g = sym (f refl)
    iff false true f g = g refl

    by : (has_all names (codes "template" ∷ []) ≡ true) × (has_all (codes "template" ∷ []) names ≡ true) → Stk Loose (labels b.tree.nodes)
        (past (is_one b.tree names) b.tree.stack)
    by two = subst (λ s. Stk Loose (labels b.tree.nodes) s)
        (sym (same_past (is_one b.tree names) one (λ n. iff (is_one b.tree names n) (one n) (same_one b.tree names (codes "template" ∷ [])
        two.0 n) (same_one b.tree (codes "template" ∷ []) names two.1 n)) b.tree.stack))
        (past_template b.tree b.tree.stack at.2 at.1.2.0.0)
opened_until place info Own _ b new e at = none_some e
opened_until place info (These names) (test ∷ tests) b new e at = none_some e

pub next_at : (level : Level) (info : Info) (action : Action) (tests : List Test) (b : Building) (new : Level) →
    holds_of info b.token ≡ true → next level info action tests ≡ Some new → At level b → At new (after tests action b)
unfolding perform
next_at Never info action tests b new k e at = absurd at
next_at Fine info FosterOff [] b new k e at = some_at Fine new _ e (foster_turn b at)
next_at Bare info (SwitchTo mode) [] b new k e at = if_so_at _ Bare new _ e (λ s. (s, at.1, at.2))
next_at Bare info InsertRootElement [] b new k e at = if_so_at _ RootMade new _ e
    (λ s. (at.1, root_made (own_name b.token) b.attrs b.tree (own_within_so (codes "html" ∷ []) info b.token s k) at.2))
next_at Bare info (InsertRootNamed name) [] b new k e at = if_so_at _ RootMade new _ e (λ s. (at.1, root_made name [] b.tree s at.2))
next_at RootMade info (SwitchTo mode) [] b new k e at = if_so_at _ Before new _ e (λ s. (first_is mode s, at.0, at.1))
next_at Before info InsertElement [] b new k e at = if_so_at _ HeadMade new _ e
    (λ s. (at.1, head_made (own_name b.token) b.attrs b.tree (own_within_so (codes "head" ∷ []) info b.token s k) at.2))
next_at Before info (InsertNamed name) [] b new k e at = if_so_at _ HeadMade new _ e (λ s. (at.1, head_made name [] b.tree s at.2))
next_at HeadMade info SetHeadPointer [] b new k e at = some_at (Late Nowhere (Fixed Head) false) new _ e (
  tt,
  at.0,
  head_set b at.1,
  λ q. never q,
)
next_at TextMode info Pop [] b new k e at = some_at Behind new _ e (at.1, pop_held (own b.original) b.tree at.2)
next_at Behind info SwitchBack [] b new k e at = some_at Fine new _ e (back_turn b at.0 at.1)
next_at TableText info SwitchBack [] b new k e at = some_at Fine new _ e (back_turn b at.1 at.2)
next_at (Late place rel kept) info action tests b new k e at = late_next_at place rel kept info action tests b new k e at
next_at (Scoped place kind wanted) info action tests b new k e at = scoped_next_at place kind wanted info action tests b new k e at
next_at (Opened place) info AllImpliedEndTags [] b new k e at = some_at (OpenedFree place) new _ e (opened_kept place b at)
next_at (Opened place) info (PopUntil names) tests b new k e at = opened_until place info names tests b new e (
  at.0,
  opened_free place b at,
  at.2,
)
next_at (OpenedFree place) info (PopUntil names) tests b new k e at = opened_until place info names tests b new e at
next_at (Foreign place) info PopUntilOwnInAnyCase [] b new k e at = some_at (Late place Of false) new _ e (foreign_past place b at)
next_at level info action tests b new k e at = none_some e
