-- Each action leads to the level that is computed.
use Rattle.std.specs.Prelude.{◌≡◌, ◌||◌, refl, ℕ, Bool, true, false, not, ◌&&◌, List, [], ◌∷◌, Option, None, Some, codes, drop}
use Rattle.std.proofs.Common.{inl, inr}
use Rattle.std.specs.List.{list_all, list_any}
use Rattle.std.proofs.lemmas.Option.{same_Some}
use mathlib.Core.Path.{sym, subst}
use Rattle.standard_tokens.specs.Tokens.{Token}
use Rattle.standard_trees.specs.RuleWords.{AfterAfterBody, AfterAfterFrameset, AfterBody, AfterFrameset, AfterHead, BeforeHead, BeforeHtml}
use Rattle.standard_trees.specs.RuleWords.{Dispatcher, ForeignContent, InBody, InCaption, InCell, InColumnGroup, InFrameset, InHead}
use Rattle.standard_trees.specs.RuleWords.{InHeadNoscript}
use Rattle.standard_trees.specs.RuleWords.{InRow, InTable, InTableBody, InTableText, InTemplate, Initial, Mode, Text, Test, These}
use Rattle.standard_trees.specs.RuleWords.{CurrentNode, is}
use Rattle.standard_trees.specs.TreeStore.{Html, NodeAttr}
use Rattle.standard_trees.specs.GrowingTree.{GrowingTree, current, inserted, is_among, is_one, top, with_stack}
use Rattle.standard_trees.specs.Building.{Building, is_met, with_tree}
use Rattle.standard_order.proofs.Labels.{Is as IsAt, Label, is_at, labels}
use Rattle.standard_order.proofs.StandingStacks.{Framed, Has, Inside, Sort, Stands, both, cell, cells, fixed}
use Rattle.standard_order.proofs.StandingStacks.{loose, never, only_apart}
use Rattle.standard_order.proofs.GoodTrees.{Good, apart}
use Rattle.standard_order.proofs.Levels.{Above, Exact, Fine, Fixed, Frames, Head, Held, In, Info, Late, Level, Nowhere, Of, OfHeld, OfPlain}
use Rattle.standard_order.proofs.Levels.{Plain, Rel, Root, Shape, Sorted, Std, Where, if_so, is_known, known, made, popped, popped_if}
use Rattle.standard_order.proofs.Levels.{has_sort, is_framed, own, own_apart, own_within, settled, switched, switched_if, switched_now}
use Rattle.standard_order.proofs.Levels.{switched_plainly, weak, where_of}
use Rattle.standard_order.proofs.LevelFacts.{At, Is, LateAt, Stk, TreeIs, TurnIs, shape_for, weak_stk}
use Rattle.standard_order.proofs.LevelTrees.{cell_pushed, frameset_pushed, good_of, held_pushed, inside_own, of_good, place_sorted}
use Rattle.standard_order.proofs.LevelTrees.{pop_above, pop_head, pop_held, pop_plain, sorted_op, sorted_own, template_pushed}
use Rattle.standard_order.proofs.StandingStacks.{plain_popped, loose_plain, valid}
use Rattle.standard_order.proofs.GoodTrees.{loose_no_cell}

-- ---- conditions

pub if_so_at : (x : Bool) (level new : Level) (c : Building) → if_so x level ≡ Some new → (x ≡ true → At level c) → At new c
if_so_at true level new c e h = subst (λ l. At l c) (same_Some level new e) (h refl)
if_so_at false level new c e h = cc

pub none_some : {A : Type 0} {new : Level} → None ≡ Some new → A
none_some h = cc

pub some_at : (level new : Level) (c : Building) → Some level ≡ Some new → At level c → At new c
some_at level new c e h = subst (λ l. At l c) (same_Some level new e) h

pub either_way : (P : Building → Type 0) (x : Bool) (b c : Building) → P c → P b → P (elim x [ true ↦ c | false ↦ b ])
either_way P true b c h k = h
either_way P false b c h k = k

-- ---- what is known

-- the stack of a mode, in the words of what is known of the mode
own_known : (place : Where) (mode : Mode) (token : Token) (ls : List Label) (s : List ℕ) → is_known place Of ≡ true → Is place mode token →
    Stk (own mode) ls s → Stk (known place Of) ls s
own_known (Exact one) mode token ls s k at st = subst (λ m. Stk (own m) ls s) at st
own_known (In c) mode token ls s k at st = ((subst (λ x. Stk x ls s) (inside_own mode at.0) st).0, λ c. never c)
own_known Frames mode token ls s k at st = framed_stk mode at st
  where
    framed_stk : (m : Mode) → is_framed m ≡ true → Stk (own m) ls s → Stk (Std Framed false) ls s
    framed_stk Dispatcher h x = never h
    framed_stk Initial h x = never h
    framed_stk BeforeHtml h x = never h
    framed_stk BeforeHead h x = never h
    framed_stk InHead h x = never h
    framed_stk InHeadNoscript h x = never h
    framed_stk AfterHead h x = never h
    framed_stk InBody h x = never h
    framed_stk Text h x = never h
    framed_stk InTable h x = never h
    framed_stk InTableText h x = never h
    framed_stk InCaption h x = never h
    framed_stk InColumnGroup h x = never h
    framed_stk InTableBody h x = never h
    framed_stk InRow h x = never h
    framed_stk InCell h x = never h
    framed_stk InTemplate h x = never h
    framed_stk AfterBody h x = never h
    framed_stk InFrameset h x = x
    framed_stk AfterFrameset h x = x
    framed_stk AfterAfterBody h x = never h
    framed_stk AfterAfterFrameset h x = x
    framed_stk ForeignContent h x = never h
own_known Sorted mode token ls s k at st = cc
own_known Nowhere mode token ls s k at st = cc

pub known_tree : (place : Where) (rel : Rel) (kept : Bool) (b : Building) → is_known place rel ≡ true → LateAt place rel kept b →
    TreeIs (known place rel) b.tree
known_tree place (Fixed shape) kept b k at = at.2
known_tree place Of kept b k at = (own_known place b.mode b.token (labels b.tree.nodes) b.tree.stack k at.0 at.2.0, at.2.1)
known_tree place OfHeld kept b k at = (by b.tree.stack at.2.0, at.2.1)
  where
    of_known : (p : Where) → is_known p OfHeld ≡ true → is_known p Of ≡ true
    of_known (Exact m) h = refl
    of_known (In c) h = refl
    of_known Frames h = refl
    of_known Sorted h = cc
    of_known Nowhere h = cc

    by : (s : List ℕ) → Stk (Held (own b.mode)) (labels b.tree.nodes) s → Stk (known place OfHeld) (labels b.tree.nodes) s
    by [] st = st
    by (n ∷ ns) st = (st.0, own_known place b.mode b.token (labels b.tree.nodes) ns (of_known place k) at.0 st.1)
known_tree place OfPlain kept b k at = (by b.tree.stack at.2.0, at.2.1)
  where
    of_known : (p : Where) → is_known p OfPlain ≡ true → is_known p Of ≡ true
    of_known (Exact m) h = refl
    of_known (In c) h = refl
    of_known Frames h = refl
    of_known Sorted h = cc
    of_known Nowhere h = cc

    by : (s : List ℕ) → Stk (Plain (own b.mode)) (labels b.tree.nodes) s → Stk (known place OfPlain) (labels b.tree.nodes) s
    by [] st = st
    by (n ∷ ns) st = (st.0, own_known place b.mode b.token (labels b.tree.nodes) ns (of_known place k) at.0 st.1)

-- ---- inserting an element

-- what is known of its name
pub record Named (info : Info) (name : List ℕ) : Type 0 where
  pub off : own_apart fixed info ≡ true → not (is_among name fixed) ≡ true
  pub within : (others : List (List ℕ)) → own_within others info ≡ true → is_among name others ≡ true

pub no_keep : (b : Building) → false ≡ true → b.original ≡ b.mode
no_keep b h = never h

pub made_at : (place : Where) (rel : Rel) (kept : Bool) (info : Info) (b : Building) (name : List ℕ) (attrs : List NodeAttr) (new : Level) →
    Named info name → made place rel info ≡ Some new → LateAt place rel kept b →
    At new (with_tree b (inserted Html name attrs b.tree))
made_at place rel kept info b name attrs new named e at = by_apart (own_apart fixed info) refl e
  where
    t : GrowingTree
    t = inserted Html name attrs b.tree

    T : Bool
    T = own_within (codes "template" ∷ []) info && (is_known place rel && (weak (known place rel) (Std Inside false) || weak
        (known place rel) Head))

    C : Bool
    C = own_within cells info && (is_known place rel && weak (known place rel) (Std Inside false))

    F : Bool
    F = own_within (codes "frameset" ∷ []) info && (is_known place rel && weak (known place rel) (Std Framed false))

    with_shape : (shape : Shape) → TreeIs shape t → At (Late place (Fixed shape) false) (with_tree b t)
    with_shape shape h = (at.0, at.1, h, no_keep (with_tree b t))

    by_frameset : if_so F (Late place (Fixed (Std Framed false)) false) ≡ Some new → At new (with_tree b t)
    by_frameset k = if_so_at F (Late place (Fixed (Std Framed false)) false) new (with_tree b t) k (λ f.
        let one : (own_within (codes "frameset" ∷ []) info ≡ true) × (is_known place rel && weak (known place rel)
        (Std Framed false) ≡ true) = both _ _ f in
        let two : (is_known place rel ≡ true) × (weak (known place rel) (Std Framed false) ≡ true) = both _ _ one.1 in
        with_shape (Std Framed false) (frameset_pushed (known place rel) name attrs b.tree (named.within (codes "frameset" ∷ []) one.0)
        two.1 (known_tree place rel kept b two.0 at)))

    by_cell : (x : Bool) → C ≡ x → elim x as (λ _. Option Level) [
      | true ↦ Some (Late place (Fixed (Std Inside true)) false)
      | false ↦ if_so
          F (Late place (Fixed (Std Framed false)) false)
    ] ≡ Some new → At new (with_tree b t)
    by_cell true f k =
        let one : (own_within cells info ≡ true) × (is_known place rel && weak (known place rel) (Std Inside false) ≡ true) = both _ _ f in
        let two : (is_known place rel ≡ true) × (weak (known place rel) (Std Inside false) ≡ true) = both _ _ one.1 in
        some_at (Late place (Fixed (Std Inside true)) false) new (with_tree b t) k
        (with_shape (Std Inside true) (cell_pushed (known place rel) name attrs b.tree (named.within cells one.0) two.1
        (known_tree place rel kept b two.0 at)))
    by_cell false f k = by_frameset k

    by_template : (x : Bool) → T ≡ x → elim x as (λ _. Option Level) [
      | true ↦ Some (Late place (Fixed (Std Inside false)) false)
      | false ↦ elim C as (λ _. Option Level) [
        | true ↦ Some (Late place (Fixed (Std Inside true)) false)
        | false ↦ if_so F
            (Late place (Fixed (Std Framed false)) false)
      ]
    ] ≡ Some new → At new (with_tree b t)
    by_template true f k =
        let one : (own_within (codes "template" ∷ []) info ≡ true) ×
        (is_known place rel && (weak (known place rel) (Std Inside false) || weak (known place rel) Head) ≡ true) = both _ _ f in
        let two : (is_known place rel ≡ true) × (weak (known place rel) (Std Inside false) || weak (known place rel) Head ≡ true) =
        both _ _ one.1 in
        some_at (Late place (Fixed (Std Inside false)) false) new (with_tree b t) k
        (with_shape (Std Inside false) (template_pushed (known place rel) name attrs b.tree (named.within (codes "template" ∷ []) one.0)
        two.1 (known_tree place rel kept b two.0 at)))
    by_template false f k = by_cell C refl k

    by_rel : (r : Rel) → rel ≡ r → not (is_among name fixed) ≡ true → elim r as (λ _. Option Level) [
      | Of ↦ Some (Late place OfHeld false)
      | Fixed shape ↦ Some (Late place (Fixed (Held shape)) false)
      | OfHeld ↦ if_so (has_sort place) (Late place OfHeld false)
      | OfPlain ↦ None
    ] ≡ Some new → At new (with_tree b t)
    by_rel Of f ok k = some_at (Late place OfHeld false) new (with_tree b t) k (
      at.0,
      at.1,
      held_pushed (own b.mode) name attrs b.tree ok
          (subst (λ r. TreeIs (shape_for r b.mode) b.tree) f at.2),
      no_keep (with_tree b t),
    )
    by_rel (Fixed shape) f ok k = some_at (Late place (Fixed (Held shape)) false) new (with_tree b t) k
        (with_shape (Held shape) (held_pushed shape name attrs b.tree ok (subst (λ r. TreeIs (shape_for r b.mode) b.tree) f at.2)))
    by_rel OfHeld f ok k = if_so_at (has_sort place) (Late place OfHeld false) new (with_tree b t) k (λ s.
        let shape : (q : Sort) × (c : Bool) × (own b.mode ≡ Std q c) = sorted_own b.mode (place_sorted place b.mode b.token s at.0) in (
          at.0,
          at.1,
          held_pushed (own b.mode) name attrs b.tree ok
              (of_good shape.0 shape.1 b.mode b.tree shape.2 (good_of shape.0 shape.1 b.mode OfHeld b.tree shape.2 (inr (inl refl))
              (subst (λ r. TreeIs (shape_for r b.mode) b.tree) f at.2))),
          no_keep (with_tree b t),
        ))
    by_rel OfPlain f ok k = cc

    by_apart : (x : Bool) → own_apart fixed info ≡ x → elim x as (λ _. Option Level) [
      | true ↦ elim rel as (λ _. Option Level) [
        | Of ↦ Some (Late place OfHeld false)
        | Fixed shape ↦ Some (Late place (Fixed (Held shape)) false)
        | OfHeld ↦ if_so (has_sort place) (Late place OfHeld false)
        | OfPlain ↦ None
      ]
      | false ↦ elim T as (λ _. Option Level) [
        | true ↦ Some (Late place (Fixed (Std Inside false)) false)
        | false ↦ elim C as (λ _. Option Level) [
          | true ↦ Some (Late place (Fixed (Std Inside true)) false)
          | false ↦ if_so F
              (Late place (Fixed (Std Framed false)) false)
        ]
      ]
    ] ≡ Some new → At new (with_tree b t)
    by_apart true f k = by_rel rel refl (named.off f) k
    by_apart false f k = by_template T refl k

-- ---- popping the current node

popped_at : (place : Where) (rel : Rel) (kept : Bool) (b : Building) (new : Level) → popped place rel ≡ Some new → LateAt place rel kept b →
    At new (with_tree b (with_stack b.tree (drop 1 b.tree.stack)))
popped_at place OfHeld kept b new e at = some_at (Late place Of false) new (with_tree b (with_stack b.tree (drop 1 b.tree.stack))) e (
  at.0,
  at.1,
  pop_held (own b.mode) b.tree at.2,
  no_keep (with_tree b (with_stack b.tree (drop 1 b.tree.stack))),
)
popped_at place OfPlain kept b new e at = some_at (Late place Of false) new (with_tree b (with_stack b.tree (drop 1 b.tree.stack))) e (
  at.0,
  at.1,
  pop_plain (own b.mode) b.tree at.2,
  no_keep (with_tree b (with_stack b.tree (drop 1 b.tree.stack))),
)
popped_at place (Fixed (Held shape)) kept b new e at = some_at (Late place (Fixed shape) false) new
    (with_tree b (with_stack b.tree (drop 1 b.tree.stack))) e (
      at.0,
      at.1,
      pop_held shape b.tree at.2,
      no_keep (with_tree b (with_stack b.tree (drop 1 b.tree.stack))),
    )
popped_at place (Fixed (Plain shape)) kept b new e at = some_at (Late place (Fixed shape) false) new
    (with_tree b (with_stack b.tree (drop 1 b.tree.stack))) e (
      at.0,
      at.1,
      pop_plain shape b.tree at.2,
      no_keep (with_tree b (with_stack b.tree (drop 1 b.tree.stack))),
    )
popped_at Frames (Fixed (Above shape)) kept b new e at =
    if_so_at (weak shape (Std Framed false)) (Late Frames Of false) new (with_tree b (with_stack b.tree (drop 1 b.tree.stack))) e (λ w.
    let h : TreeIs shape (with_stack b.tree (drop 1 b.tree.stack)) = pop_above shape b.tree at.2 in (
      at.0,
      at.1,
      framed_back b.mode at.0 (weak_stk shape (Std Framed false) w (labels b.tree.nodes) (drop 1 b.tree.stack) h.0, h.1),
      no_keep (with_tree b (with_stack b.tree (drop 1 b.tree.stack))),
    ))
  where
    framed_back : (m : Mode) → is_framed m ≡ true → TreeIs (Std Framed false) (with_stack b.tree (drop 1 b.tree.stack)) →
        TreeIs (own m) (with_stack b.tree (drop 1 b.tree.stack))
    framed_back Dispatcher h x = never h
    framed_back Initial h x = never h
    framed_back BeforeHtml h x = never h
    framed_back BeforeHead h x = never h
    framed_back InHead h x = never h
    framed_back InHeadNoscript h x = never h
    framed_back AfterHead h x = never h
    framed_back InBody h x = never h
    framed_back Text h x = never h
    framed_back InTable h x = never h
    framed_back InTableText h x = never h
    framed_back InCaption h x = never h
    framed_back InColumnGroup h x = never h
    framed_back InTableBody h x = never h
    framed_back InRow h x = never h
    framed_back InCell h x = never h
    framed_back InTemplate h x = never h
    framed_back AfterBody h x = never h
    framed_back InFrameset h x = x
    framed_back AfterFrameset h x = x
    framed_back AfterAfterBody h x = never h
    framed_back AfterAfterFrameset h x = x
    framed_back ForeignContent h x = never h
popped_at (Exact InHead) Of kept b new e at = some_at (Late (Exact InHead) (Fixed Root) false) new
    (with_tree b (with_stack b.tree (drop 1 b.tree.stack))) e (
      at.0,
      at.1,
      pop_head b.tree (subst (λ m. TreeIs (own m) b.tree) at.0 at.2),
      no_keep (with_tree b (with_stack b.tree (drop 1 b.tree.stack))),
    )
popped_at (Exact InHeadNoscript) Of kept b new e at = some_at (Late (Exact InHeadNoscript) (Fixed Head) false) new
    (with_tree b (with_stack b.tree (drop 1 b.tree.stack))) e (
      at.0,
      at.1,
      pop_held Head b.tree (subst (λ m. TreeIs (own m) b.tree) at.0 at.2),
      no_keep (with_tree b (with_stack b.tree (drop 1 b.tree.stack))),
    )
popped_at _ _ kept b new e at = none_some e

-- an element above such a stack is forgotten
pub forgotten : (place : Where) (rel : Rel) (kept : Bool) (b : Building) → settled place rel ≡ true → LateAt place rel kept b →
    LateAt place Of false b
forgotten place rel kept b s at = sorted_op place rel kept b b.tree s (λ k c g. g) at

-- the current node has one of these names
pub current_named : (k : Sort) (c : Bool) (t : GrowingTree) (names : List (List ℕ)) → apart names fixed ≡ true →
    is_one t names (current t) ≡ true → Good k c t → TreeIs (Plain (Std k c)) t
current_named k c t names ok h good = (by t.stack h good.0 good.1, good.2)
  where
    by : (s : List ℕ) → is_one t names (top s) ≡ true → Stands k (labels t.nodes) s → (c ≡ true → Has cell (labels t.nodes) s) →
        Stk (Plain (Std k c)) (labels t.nodes) s
    by [] g stands celled = absurd stands
    by (n ∷ ns) g stands celled = (
      l,
      (
        plain_popped k (labels t.nodes) n ns (loose_plain (labels t.nodes) n l) stands,
        λ d. rest (is_at cell (labels t.nodes) n) refl (celled d),
      ),
    )
      where
        l : IsAt loose (labels t.nodes) n
        l = only_apart names fixed ok t n (valid k (labels t.nodes) n ns stands) g

        rest : (x : Bool) → is_at cell (labels t.nodes) n ≡ x → x || list_any (is_at cell (labels t.nodes)) ns ≡ true →
            Has cell (labels t.nodes) ns
        rest true e f = absurd (loose_no_cell (labels t.nodes) n l e)
        rest false e f = f

pub popped_if_at : (place : Where) (rel : Rel) (kept : Bool) (tests : List Test) (b : Building) (new : Level) →
    popped_if place rel tests ≡ Some new → LateAt place rel kept b →
    At new (elim (list_all (is_met b) tests) [ true ↦ with_tree b (with_stack b.tree (drop 1 b.tree.stack)) | false ↦ b ])
popped_if_at place rel kept [] b new e at = popped_at place rel kept b new e at
popped_if_at place OfPlain kept (test ∷ tests) b new e at =
    if_so_at (has_sort place) (Late place Of false) new _ e (λ s. either_way (LateAt place Of false) (list_all (is_met b) (test ∷ tests)) b
    (with_tree b (with_stack b.tree (drop 1 b.tree.stack)))
    (at.0, at.1, pop_plain (own b.mode) b.tree at.2, no_keep (with_tree b (with_stack b.tree (drop 1 b.tree.stack))))
    (forgotten place OfPlain kept b s at))
popped_if_at place Of kept (is (CurrentNode (These names)) ∷ []) b new e at =
    if_so_at (has_sort place && apart names fixed) (Late place Of false) new _ e (λ s. by (both (has_sort place) (apart names fixed) s).0
    (both (has_sort place) (apart names fixed) s).1 (is_one b.tree names (current b.tree)) refl)
  where
    by : has_sort place ≡ true → apart names fixed ≡ true → (x : Bool) → is_one b.tree names (current b.tree) ≡ x →
        LateAt place Of false (elim (x && true) as (λ _. Building) [
          | true ↦ with_tree b (with_stack b.tree (drop 1 b.tree.stack))
          | false ↦ b
        ])
    by s ok false f = forgotten place Of kept b s at
    by s ok true f =
        let shape : (q : Sort) × (c : Bool) × (own b.mode ≡ Std q c) = sorted_own b.mode (place_sorted place b.mode b.token s at.0) in
        let h : TreeIs (Plain (Std shape.0 shape.1)) b.tree = current_named shape.0 shape.1 b.tree names ok f
        (good_of shape.0 shape.1 b.mode Of b.tree shape.2 (inl refl) at.2) in (
          at.0,
          at.1,
          subst (λ x. TreeIs x (with_stack b.tree (drop 1 b.tree.stack))) (sym shape.2)
              (pop_plain (Std shape.0 shape.1) b.tree h),
          no_keep (with_tree b (with_stack b.tree (drop 1 b.tree.stack))),
        )
popped_if_at place rel kept _ b new e at = none_some e

-- ---- switching the mode

where_is : (mode : Mode) (token : Token) → Is (where_of mode) mode token
where_is Dispatcher token = refl
where_is Initial token = refl
where_is BeforeHtml token = refl
where_is BeforeHead token = refl
where_is InHead token = refl
where_is InHeadNoscript token = refl
where_is AfterHead token = refl
where_is InBody token = (refl, (λ h. refl), λ h. never h)
where_is Text token = refl
where_is InTable token = (refl, (λ h. refl), λ h. never h)
where_is InTableText token = refl
where_is InCaption token = (refl, (λ h. refl), λ h. never h)
where_is InColumnGroup token = (refl, (λ h. refl), λ h. never h)
where_is InTableBody token = (refl, (λ h. refl), λ h. never h)
where_is InRow token = (refl, (λ h. refl), λ h. never h)
where_is InCell token = refl
where_is InTemplate token = (refl, (λ h. refl), λ h. never h)
where_is AfterBody token = (refl, (λ h. refl), λ h. never h)
where_is InFrameset token = refl
where_is AfterFrameset token = refl
where_is AfterAfterBody token = (refl, (λ h. refl), λ h. never h)
where_is AfterAfterFrameset token = refl
where_is ForeignContent token = refl

later_at : (place : Where) (rel : Rel) (kept : Bool) (mode : Mode) (x : Bool) (b : Building) (new : Level) →
    switched_if place rel mode ≡ Some new → LateAt place rel kept b → At new (elim x [ true ↦ record b { mode = mode } | false ↦ b ])
later_at Frames Of kept mode x b new e at =
    if_so_at (is_framed mode) (Late Frames Of false) new _ e (λ f. either_way (LateAt Frames Of false) x b (record b { mode = mode })
    (f, at.1, to_framed mode f (from_framed b.mode at.0 at.2), no_keep (record b { mode = mode })) (at.0, at.1, at.2, no_keep b))
  where
    from_framed : (m : Mode) → is_framed m ≡ true → TreeIs (own m) b.tree → TreeIs (Std Framed false) b.tree
    from_framed Dispatcher h x = never h
    from_framed Initial h x = never h
    from_framed BeforeHtml h x = never h
    from_framed BeforeHead h x = never h
    from_framed InHead h x = never h
    from_framed InHeadNoscript h x = never h
    from_framed AfterHead h x = never h
    from_framed InBody h x = never h
    from_framed Text h x = never h
    from_framed InTable h x = never h
    from_framed InTableText h x = never h
    from_framed InCaption h x = never h
    from_framed InColumnGroup h x = never h
    from_framed InTableBody h x = never h
    from_framed InRow h x = never h
    from_framed InCell h x = never h
    from_framed InTemplate h x = never h
    from_framed AfterBody h x = never h
    from_framed InFrameset h x = x
    from_framed AfterFrameset h x = x
    from_framed AfterAfterBody h x = never h
    from_framed AfterAfterFrameset h x = x
    from_framed ForeignContent h x = never h

    to_framed : (m : Mode) → is_framed m ≡ true → TreeIs (Std Framed false) b.tree → TreeIs (own m) b.tree
    to_framed Dispatcher h x = never h
    to_framed Initial h x = never h
    to_framed BeforeHtml h x = never h
    to_framed BeforeHead h x = never h
    to_framed InHead h x = never h
    to_framed InHeadNoscript h x = never h
    to_framed AfterHead h x = never h
    to_framed InBody h x = never h
    to_framed Text h x = never h
    to_framed InTable h x = never h
    to_framed InTableText h x = never h
    to_framed InCaption h x = never h
    to_framed InColumnGroup h x = never h
    to_framed InTableBody h x = never h
    to_framed InRow h x = never h
    to_framed InCell h x = never h
    to_framed InTemplate h x = never h
    to_framed AfterBody h x = never h
    to_framed InFrameset h x = x
    to_framed AfterFrameset h x = x
    to_framed AfterAfterBody h x = never h
    to_framed AfterAfterFrameset h x = x
    to_framed ForeignContent h x = never h
later_at _ _ kept mode x b new e at = none_some e

pub switched_at : (place : Where) (rel : Rel) (kept : Bool) (mode : Mode) (tests : List Test) (b : Building) (new : Level) →
    switched place rel kept mode tests ≡ Some new → LateAt place rel kept b →
    At new (elim (list_all (is_met b) tests) [ true ↦ record b { mode = mode } | false ↦ b ])
switched_at place rel kept mode [] b new e at = by_text rel refl kept refl mode refl e
  where
    plainly : elim (is_known place rel) as (λ _. Option Level) [
      | false ↦ None
      | true ↦ elim (weak (known place rel) (own mode)) as (λ _. Option Level) [
        | true ↦ Some (Late (where_of mode) Of false)
        | false ↦ Some
            (Late (where_of mode) (Fixed (known place rel)) false)
      ]
    ] ≡ Some new → LateAt place rel kept b → At new (record b { mode = mode })
    plainly k a = by_known (is_known place rel) refl k
      where
        by_known : (x : Bool) → is_known place rel ≡ x → elim x as (λ _. Option Level) [
          | false ↦ None
          | true ↦ elim (weak (known place rel) (own mode)) as (λ _. Option Level) [
            | true ↦ Some (Late (where_of mode) Of false)
            | false ↦ Some (Late (where_of mode) (Fixed (known place rel)) false)
          ]
        ] ≡ Some new → At new (record b { mode = mode })
        by_known false f g = cc
        by_known true f g = by_weak (weak (known place rel) (own mode)) refl g
          where
            tree : TreeIs (known place rel) b.tree
            tree = known_tree place rel kept b f a

            by_weak : (x : Bool) → weak (known place rel) (own mode) ≡ x →
                elim x as (λ _. Option Level) [
                  | true ↦ Some (Late (where_of mode) Of false)
                  | false ↦ Some
                      (Late (where_of mode) (Fixed (known place rel)) false)
                ] ≡ Some new →
                At new (record b { mode = mode })
            by_weak true w h = some_at (Late (where_of mode) Of false) new (record b { mode = mode }) h (
              where_is mode b.token,
              a.1,
              (weak_stk (known place rel) (own mode) w (labels b.tree.nodes) b.tree.stack tree.0, tree.1),
              no_keep (record b { mode = mode }),
            )
            by_weak false w h = some_at (Late (where_of mode) (Fixed (known place rel)) false) new (record b { mode = mode }) h
                (where_is mode b.token, a.1, tree, no_keep (record b { mode = mode }))

    by_text : (r : Rel) → rel ≡ r → (q : Bool) → kept ≡ q → (m : Mode) → mode ≡ m → switched_now place r q m ≡ Some new →
        At new (record b { mode = mode })
    by_text OfHeld f true g Text h k = some_at Fine new (record b { mode = mode }) k (
      at.1,
      subst (λ m. TurnIs m (record b { mode = mode })) (sym h)
          (subst (λ m. TreeIs (Held (own m)) b.tree) (sym (at.3 g)) (subst (λ r. TreeIs (shape_for r b.mode) b.tree) f at.2)),
    )
    by_text Of f q g m h k = plainly (subst (λ z. switched_plainly place z mode ≡ Some new) (sym f)
        (subst (λ y. switched_plainly place Of y ≡ Some new) (sym h) k)) at
    by_text OfPlain f q g m h k = plainly (subst (λ z. switched_plainly place z mode ≡ Some new) (sym f)
        (subst (λ y. switched_plainly place OfPlain y ≡ Some new) (sym h) k)) at
    by_text (Fixed shape) f q g m h k = plainly (subst (λ z. switched_plainly place z mode ≡ Some new) (sym f)
        (subst (λ y. switched_plainly place (Fixed shape) y ≡ Some new) (sym h) k)) at
    by_text OfHeld f false g m h k = plainly (subst (λ z. switched_plainly place z mode ≡ Some new) (sym f)
        (subst (λ y. switched_plainly place OfHeld y ≡ Some new) (sym h) k)) at
    by_text OfHeld f true g Dispatcher h k = plainly (subst (λ z. switched_plainly place z mode ≡ Some new) (sym f)
        (subst (λ y. switched_plainly place OfHeld y ≡ Some new) (sym h) k)) at
    by_text OfHeld f true g Initial h k = plainly (subst (λ z. switched_plainly place z mode ≡ Some new) (sym f)
        (subst (λ y. switched_plainly place OfHeld y ≡ Some new) (sym h) k)) at
    by_text OfHeld f true g BeforeHtml h k = plainly (subst (λ z. switched_plainly place z mode ≡ Some new) (sym f)
        (subst (λ y. switched_plainly place OfHeld y ≡ Some new) (sym h) k)) at
    by_text OfHeld f true g BeforeHead h k = plainly (subst (λ z. switched_plainly place z mode ≡ Some new) (sym f)
        (subst (λ y. switched_plainly place OfHeld y ≡ Some new) (sym h) k)) at
    by_text OfHeld f true g InHead h k = plainly (subst (λ z. switched_plainly place z mode ≡ Some new) (sym f)
        (subst (λ y. switched_plainly place OfHeld y ≡ Some new) (sym h) k)) at
    by_text OfHeld f true g InHeadNoscript h k = plainly (subst (λ z. switched_plainly place z mode ≡ Some new) (sym f)
        (subst (λ y. switched_plainly place OfHeld y ≡ Some new) (sym h) k)) at
    by_text OfHeld f true g AfterHead h k = plainly (subst (λ z. switched_plainly place z mode ≡ Some new) (sym f)
        (subst (λ y. switched_plainly place OfHeld y ≡ Some new) (sym h) k)) at
    by_text OfHeld f true g InBody h k = plainly (subst (λ z. switched_plainly place z mode ≡ Some new) (sym f)
        (subst (λ y. switched_plainly place OfHeld y ≡ Some new) (sym h) k)) at
    by_text OfHeld f true g InTable h k = plainly (subst (λ z. switched_plainly place z mode ≡ Some new) (sym f)
        (subst (λ y. switched_plainly place OfHeld y ≡ Some new) (sym h) k)) at
    by_text OfHeld f true g InTableText h k = plainly (subst (λ z. switched_plainly place z mode ≡ Some new) (sym f)
        (subst (λ y. switched_plainly place OfHeld y ≡ Some new) (sym h) k)) at
    by_text OfHeld f true g InCaption h k = plainly (subst (λ z. switched_plainly place z mode ≡ Some new) (sym f)
        (subst (λ y. switched_plainly place OfHeld y ≡ Some new) (sym h) k)) at
    by_text OfHeld f true g InColumnGroup h k = plainly (subst (λ z. switched_plainly place z mode ≡ Some new) (sym f)
        (subst (λ y. switched_plainly place OfHeld y ≡ Some new) (sym h) k)) at
    by_text OfHeld f true g InTableBody h k = plainly (subst (λ z. switched_plainly place z mode ≡ Some new) (sym f)
        (subst (λ y. switched_plainly place OfHeld y ≡ Some new) (sym h) k)) at
    by_text OfHeld f true g InRow h k = plainly (subst (λ z. switched_plainly place z mode ≡ Some new) (sym f)
        (subst (λ y. switched_plainly place OfHeld y ≡ Some new) (sym h) k)) at
    by_text OfHeld f true g InCell h k = plainly (subst (λ z. switched_plainly place z mode ≡ Some new) (sym f)
        (subst (λ y. switched_plainly place OfHeld y ≡ Some new) (sym h) k)) at
    by_text OfHeld f true g InTemplate h k = plainly (subst (λ z. switched_plainly place z mode ≡ Some new) (sym f)
        (subst (λ y. switched_plainly place OfHeld y ≡ Some new) (sym h) k)) at
    by_text OfHeld f true g AfterBody h k = plainly (subst (λ z. switched_plainly place z mode ≡ Some new) (sym f)
        (subst (λ y. switched_plainly place OfHeld y ≡ Some new) (sym h) k)) at
    by_text OfHeld f true g InFrameset h k = plainly (subst (λ z. switched_plainly place z mode ≡ Some new) (sym f)
        (subst (λ y. switched_plainly place OfHeld y ≡ Some new) (sym h) k)) at
    by_text OfHeld f true g AfterFrameset h k = plainly (subst (λ z. switched_plainly place z mode ≡ Some new) (sym f)
        (subst (λ y. switched_plainly place OfHeld y ≡ Some new) (sym h) k)) at
    by_text OfHeld f true g AfterAfterBody h k = plainly (subst (λ z. switched_plainly place z mode ≡ Some new) (sym f)
        (subst (λ y. switched_plainly place OfHeld y ≡ Some new) (sym h) k)) at
    by_text OfHeld f true g AfterAfterFrameset h k = plainly (subst (λ z. switched_plainly place z mode ≡ Some new) (sym f)
        (subst (λ y. switched_plainly place OfHeld y ≡ Some new) (sym h) k)) at
    by_text OfHeld f true g ForeignContent h k = plainly (subst (λ z. switched_plainly place z mode ≡ Some new) (sym f)
        (subst (λ y. switched_plainly place OfHeld y ≡ Some new) (sym h) k)) at
switched_at place rel kept mode (test ∷ tests) b new e at = later_at place rel kept mode (list_all (is_met b) (test ∷ tests)) b new e at
