-- Each action leads to the level that is computed, whatever the level was.
use Rattle.std.specs.Prelude.{◌≡◌, ◌||◌, ◌⊎◌, refl, ℕ, Bool, true, false, not, ◌&&◌, List, [], ◌∷◌, Option, None, Some, codes, drop}
use Rattle.std.proofs.Common.{inl, inr}
use Rattle.std.specs.List.{list_all, list_any}
use mathlib.Core.Path.{◌∙◌, sym, ap, subst}
use Rattle.standard_tokens.specs.Tokens.{AChar, AComment, ADoctype, AStart, AnEnd, AnEof, Token}
use Rattle.standard_trees.specs.NameLists.{implied}
use Rattle.standard_trees.specs.RuleWords.{Action, AdjustSvgName, AdoptionAgency, AnyOtherEndTag, CloseItems, CloseP}
use Rattle.standard_trees.specs.RuleWords.{DropFound, EndForm, FindListed, ImpliedEndTags, ImpliedEndTagsBut}
use Rattle.standard_trees.specs.RuleWords.{InBody, InScope, InsertElement, InsertMathmlElement, InsertNamed}
use Rattle.standard_trees.specs.RuleWords.{InsertSvgElement, KeepMode, ListElement, Mode, Names, Own, Pop}
use Rattle.standard_trees.specs.RuleWords.{PopForeignElements, PopTemplateMode, PopToTopmost}
use Rattle.standard_trees.specs.RuleWords.{PopUntil, PopUpTo, PushTemplateMode, ReconstructFormatting, Rename}
use Rattle.standard_trees.specs.RuleWords.{ResetMode, ScopeKind, SetFormPointer, SwitchTo, TableScope, Test}
use Rattle.standard_trees.specs.RuleWords.{These, is}
use Rattle.standard_trees.specs.RuleWords.{Dispatcher, Initial, BeforeHtml, BeforeHead, InHead, InHeadNoscript, AfterHead, Text, InTable}
use Rattle.standard_trees.specs.RuleWords.{InTableText, InCaption, InColumnGroup, InTableBody, InRow, InCell, InTemplate, AfterBody}
use Rattle.standard_trees.specs.RuleWords.{InFrameset, AfterFrameset, AfterAfterBody, AfterAfterFrameset, ForeignContent}
use Rattle.standard_trees.specs.TreeStore.{Html, MathMl, Svg}
use Rattle.standard_trees.specs.GrowingTree.{FormPointer, FormAt, GrowingTree, NoForm, beyond, current, ends_scope, has_in_scope, in_scope}
use Rattle.standard_trees.specs.GrowingTree.{is_among, is_foreign, is_one, past, topmost, with_stack}
use Rattle.standard_trees.specs.Formatting.{last_listed}
use Rattle.standard_trees.specs.Building.{Building, is_met, names_for, own_name, perform, renamed, reset_from, with_tree}
use Rattle.standard_order.proofs.Labels.{Is as IsAt, is_at, labels}
use Rattle.standard_order.proofs.StandingStacks.{Closed, Framed, Inside, IsHead, Sort, Stands, both, cell, cells, fixed, framing}
use Rattle.standard_order.proofs.StandingStacks.{never, only_apart, past_stands}
use Rattle.standard_order.proofs.GoodTrees.{Good, IsForm, IsFound, apart, cell_is_one, cells_end, good_beyond, good_form}
use Rattle.standard_order.proofs.GoodTrees.{good_form_ended, good_found, good_implied, good_past, good_reconstructed, good_without_found}
use Rattle.standard_order.proofs.GoodTrees.{good_without_p, held, held_loose, in_scope_any}
use Rattle.standard_order.proofs.GoodEnds.{good_adoption, good_closed_item, last_held, third_listed}
use Rattle.standard_order.proofs.Levels.{End, EndBut, StartBut, Any, is_end_info, Exact, Fine, Fixed, Held, In, Info, Late, Level, Loose}
use Rattle.standard_order.proofs.Levels.{Of, OfHeld, OfPlain, Rel, Root, Shape, Std, Where, has_all, has_sort, held_only, if_so}
use Rattle.standard_order.proofs.Levels.{inside_next, is_content, is_cell, is_in, is_inside, is_of, is_some_in, known, is_known, late_next}
use Rattle.standard_order.proofs.Levels.{named_if, names_among, names_apart, no_cell, own, own_apart, settled, until}
use Rattle.standard_order.proofs.Levels.{until_if, weak, is_table_scope, Start}
use Rattle.standard_order.proofs.LevelFacts.{At, Content, Is, LateAt, Stk, TreeIs, Turn, TurnIs, keeps_cells, shape_for, tree_listed}
use Rattle.standard_order.proofs.LevelFacts.{stands_weaker, weak_stk}
use Rattle.standard_order.proofs.LevelTrees.{foreign_pushed, good_of, good_other_end, holds_of, inside_op, of_good, only_foreign}
use Rattle.standard_order.proofs.LevelTrees.{own_apart_so, own_within_so, sorted_op, sorted_own, place_sorted, place_inside, topmost_html}
use Rattle.standard_order.proofs.LevelTrees.{upto_stands, inside_own}
use Rattle.standard_order.proofs.LevelSteps.{Named, either_way, forgotten, if_so_at, known_tree, made_at, none_some, no_keep, popped_if_at}
use Rattle.standard_order.proofs.LevelSteps.{some_at, switched_at}
use Rattle.standard_order.proofs.ResetModes.{head_resets, reset_fits}
use Rattle.standard_order.proofs.Levels.{Frames, Sorted, Nowhere, Space, Remark, Typed, Other, Plain}
use Rattle.standard_trees.specs.GrowingTree.{inserted, top, key}
use Rattle.standard_order.proofs.GoodTrees.{good_inserted_at, label_for, among_more, ends_at_cells}
use Rattle.standard_order.proofs.StandingStacks.{plain_allowed, fewer}
use Rattle.standard_order.proofs.ResetModes.{Fits, is_last}
use Rattle.standard_trees.specs.RuleWords.{Scope, ListItemScope, ButtonScope}

abbrev pub after : List Test → Action → Building → Building
after tests action b = elim (list_all (is_met b) tests) [ true ↦ perform action b | false ↦ b ]

-- ---- what is good in modes whose stack ends in such a way

-- performed or not, the operation is good
sorted_if : (place : Where) (rel : Rel) (kept : Bool) (b : Building) (t : GrowingTree) (x : Bool) → settled place rel ≡ true →
    ((k : Sort) (c : Bool) → Good k c b.tree → Good k c t) → LateAt place rel kept b →
    LateAt place Of false (elim x [ true ↦ with_tree b t | false ↦ b ])
sorted_if place rel kept b t x s op at = either_way (LateAt place Of false) x b (with_tree b t) (sorted_op place rel kept b t s op at)
    (forgotten place rel kept b s at)

inside_if : (place : Where) (rel : Rel) (kept : Bool) (b : Building) (t : GrowingTree) (x : Bool) → is_in place ≡ true →
    settled place rel ≡ true → (Good Inside (is_cell b.mode) b.tree → Good Inside (is_cell b.mode) t) →
    LateAt place rel kept b → LateAt place Of false (elim x [ true ↦ with_tree b t | false ↦ b ])
inside_if place rel kept b t x i s op at = either_way (LateAt place Of false) x b (with_tree b t) (inside_op place rel kept b t i s op at)
    (forgotten place rel kept b s at)

found_loose : (t : GrowingTree) (names : List (List ℕ)) (k : Sort) (c : Bool) → Good k c t →
    IsFound (labels t.nodes) (last_listed t names t.listed)
found_loose t names k c good = by (last_listed t names t.listed) refl
  where
    by : (o : Option ℕ) → last_listed t names t.listed ≡ o → IsFound (labels t.nodes) o
    by None e = tt
    by (Some n) e = held_loose (labels t.nodes) n (last_held (labels t.nodes) t names t.listed good.2.entries n e)

-- a token that is renamed
keeps_renamed : (name : List ℕ) (t : Token) → keeps_cells t ≡ true → keeps_cells (renamed name t) ≡ true
keeps_renamed name (AStart old attrs closing) h = refl
keeps_renamed name (AnEnd old) h = h
keeps_renamed name (AChar c) h = refl
keeps_renamed name (AComment text) h = refl
keeps_renamed name (ADoctype d) h = refl
keeps_renamed name AnEof h = refl

place_renamed : (place : Where) (mode : Mode) (name : List ℕ) (t : Token) → Is place mode t → Is place mode (renamed name t)
place_renamed (Exact one) mode name t at = at
place_renamed (In c) mode name t at = (at.0, at.1, λ h. keeps_renamed name t (at.2 h))
place_renamed Frames mode name t at = at
place_renamed Sorted mode name t at = at
place_renamed Nowhere mode name t at = tt

renamed_at : (place : Where) (rel : Rel) (kept : Bool) (b : Building) (name : List ℕ) (x : Bool) → LateAt place rel kept b →
    LateAt place rel false (elim x [ true ↦ record b { token = renamed name b.token } | false ↦ b ])
renamed_at place rel kept b name x at = either_way (LateAt place rel false) x b (record b { token = renamed name b.token })
    (place_renamed place b.mode name b.token at.0, at.1, at.2, no_keep (record b { token = renamed name b.token })) (
      at.0,
      at.1,
      at.2,
      no_keep b,
    )

some_in : (place : Where) (mode : Mode) (token : Token) → is_some_in place ≡ true → Is place mode token →
    (is_cell mode ≡ true → keeps_cells token ≡ true) × (is_in place ≡ true)
some_in (In c) mode token h at = (at.2, refl)
some_in (Exact one) mode token h at = cc
some_in Frames mode token h at = cc
some_in Sorted mode token h at = cc
some_in Nowhere mode token h at = cc

inside_next_at : (place : Where) (rel : Rel) (kept : Bool) (info : Info) (action : Action) (tests : List Test) (b : Building)
    (new : Level) → holds_of info b.token ≡ true → inside_next place rel info action ≡ Some new →
    LateAt place rel kept b → At new (after tests action b)
unfolding perform
inside_next_at place rel kept info ReconstructFormatting tests b new k e at = if_so_at _ (Late place Of false) new _ e
    (λ s. sorted_if place rel kept b _ (list_all (is_met b) tests) s (λ q c g. good_reconstructed q c b.tree g) at)
inside_next_at place rel kept info CloseP tests b new k e at = if_so_at _ (Late place Of false) new _ e (λ s. sorted_if place rel kept b _
    (list_all (is_met b) tests) s (λ q c g. good_without_p q c b.tree g) at)
inside_next_at place rel kept info ImpliedEndTags tests b new k e at = if_so_at _ (Late place Of false) new _ e
    (λ s. sorted_if place rel kept b _ (list_all (is_met b) tests) s (λ q c g. good_implied q c b.tree implied [] refl g) at)
inside_next_at place rel kept info (ImpliedEndTagsBut names) tests b new k e at =
    if_so_at _ (Late place Of false) new _ e (λ s. sorted_if place rel kept b _ (list_all (is_met b) tests) s
    (λ q c g. good_implied q c b.tree implied (names_for names b.token) refl g) at)
inside_next_at place rel kept info (CloseItems names) tests b new k e at =
    if_so_at _ (Late place Of false) new _ e (λ s. sorted_if place rel kept b _ (list_all (is_met b) tests) (both _ _ s).0
    (λ q c g. good_closed_item q c names b.tree (both (settled place rel) (apart names fixed) s).1 g) at)
inside_next_at place rel kept info EndForm tests b new k e at =
    if_so_at _ (Late place Of false) new _ e (λ s. sorted_if place rel kept b _ (list_all (is_met b) tests) s
    (λ q c g. good_form_ended q c (record b.tree { form = NoForm }) b.tree.form g.2.form_is (good_form q c b.tree NoForm tt g)) at)
inside_next_at place rel kept info DropFound tests b new k e at = if_so_at _ (Late place Of false) new _ e
    (λ s. sorted_if place rel kept b _ (list_all (is_met b) tests) s (λ q c g. good_without_found q c b.tree g) at)
inside_next_at place rel kept info (FindListed names) tests b new k e at =
    if_so_at _ (Late place Of false) new _ e (λ s. sorted_if place rel kept b _ (list_all (is_met b) tests) s
    (λ q c g. good_found q c b.tree _ (found_loose b.tree (names_for names b.token) q c g) g) at)
inside_next_at place rel kept info AdoptionAgency tests b new k e at =
    if_so_at _ (Late place Of false) new _ e (λ s. inside_if place rel kept b _ (list_all (is_met b) tests) (both (is_in place) _ s).0
    (both (settled place rel) (own_apart fixed info) (both (is_in place) _ s).1).0
    (λ g. good_adoption (is_cell b.mode) (own_name b.token) b.tree (own_apart_so fixed info b.token refl
    (both (settled place rel) (own_apart fixed info) (both (is_in place) _ s).1).1 k) g) at)
inside_next_at place rel kept info AnyOtherEndTag tests b new k e at =
    if_so_at _ (Late place Of false) new _ e (λ s. inside_if place rel kept b _ (list_all (is_met b) tests)
    (some_in place b.mode b.token (both (is_some_in place) _ s).0 at.0).1 (both (settled place rel) _ (both (is_some_in place) _ s).1).0
    (λ g. good_other_end (is_cell b.mode) (own_name b.token) b.tree
    (own_apart_so (codes "html" ∷ codes "template" ∷ []) info b.token refl (both (own_apart (codes "html" ∷ codes "template" ∷ []) info)
    (is_end_info info) (both (settled place rel) _ (both (is_some_in place) _ s).1).1).0 k)
    (λ c. end_kept info b.token (both (own_apart (codes "html" ∷ codes "template" ∷ []) info) (is_end_info info)
    (both (settled place rel) _ (both (is_some_in place) _ s).1).1).1 k
    ((some_in place b.mode b.token (both (is_some_in place) _ s).0 at.0).0 c)) g) at)
  where
    end_kept : (i : Info) (t : Token) → is_end_info i ≡ true → holds_of i t ≡ true → keeps_cells t ≡ true →
        not (is_among (own_name t) cells) ≡ true
    end_kept i (AnEnd name) f g h = h
    end_kept (End names) (AStart name attrs closing) f g h = cc
    end_kept (EndBut names) (AStart name attrs closing) f g h = cc
    end_kept (Start names) (AStart name attrs closing) f g h = cc
    end_kept (StartBut names) (AStart name attrs closing) f g h = cc
    end_kept (Any starts ends) (AStart name attrs closing) f g h = cc
    end_kept Space (AStart name attrs closing) f g h = cc
    end_kept Remark (AStart name attrs closing) f g h = cc
    end_kept Typed (AStart name attrs closing) f g h = cc
    end_kept Other (AStart name attrs closing) f g h = cc
    end_kept i (AChar c) f g h = refl
    end_kept i (AComment text) f g h = refl
    end_kept i (ADoctype d) f g h = refl
    end_kept i AnEof f g h = refl
inside_next_at place rel kept info (Rename name) tests b new k e at = some_at (Late place rel false) new _ e
    (renamed_at place rel kept b name (list_all (is_met b) tests) at)
inside_next_at place rel kept info AdjustSvgName tests b new k e at = some_at (Late place rel false) new _ e
    (renamed_at place rel kept b _ (list_all (is_met b) tests) at)
inside_next_at place rel kept info _ tests b new k e at = none_some e

-- ---- where it is known how the stack ends

start_named : (name : List ℕ) → Named (Start (name ∷ [])) name
start_named name = record {
  off = λ h. (both (not (is_among name fixed)) true h).0;
  within = λ others h. (both (is_among name others) true h).0;
}

own_named : (info : Info) (t : Token) → holds_of info t ≡ true → Named info (own_name t)
own_named info t k = record {
  off = λ h. own_apart_so fixed info t refl h k;
  within = λ others h. own_within_so others info t h k;
}

named_if_at : (place : Where) (rel : Rel) (kept : Bool) (name : List ℕ) (tests : List Test) (b : Building) (new : Level) →
    named_if place rel name tests ≡ Some new → LateAt place rel kept b → At new (after tests (InsertNamed name) b)
unfolding perform
named_if_at place rel kept name [] b new e at = made_at place rel kept (Start (name ∷ [])) b name [] new (start_named name) e at
named_if_at place rel kept name (test ∷ tests) b new e at = if_so_at _ (Late place Of false) new _ e (λ s.
    let two : (has_sort place ≡ true) × (is_of rel && apart (name ∷ []) fixed ≡ true) = both _ _ s in
    let three : (is_of rel ≡ true) × (apart (name ∷ []) fixed ≡ true) = both _ _ two.1 in
    either_way (LateAt place Of false) (list_all (is_met b) (test ∷ tests)) b _
    (sorted_op place rel kept b (inserted Html name [] b.tree) (of_settled rel three.0 two.0)
    (λ q c g. good_inserted_at q c (Rattle.standard_trees.specs.GrowingTree.place b.tree) Html name [] b.tree
    (plain_allowed q (label_for Html name ∷ []) 0 (fewer_name name (both (not (is_among name fixed)) true three.1).0)) g) at)
    (forgotten place rel kept b (of_settled rel three.0 two.0) at))
  where
    fewer_name : (n : List ℕ) → not (is_among n fixed) ≡ true → not (is_among n framing) ≡ true
    fewer_name n h = fewer n framing fixed refl h

    of_settled : (r : Rel) → is_of r ≡ true → has_sort place ≡ true → settled place r ≡ true
    of_settled Of h k = k
    of_settled OfHeld h k = cc
    of_settled OfPlain h k = cc
    of_settled (Fixed shape) h k = cc

of_so : (place : Where) (r : Rel) → is_of r ≡ true → has_sort place ≡ true → settled place r ≡ true
of_so place Of h k = k
of_so place OfHeld h k = cc
of_so place OfPlain h k = cc
of_so place (Fixed shape) h k = cc

of_is : (r : Rel) → is_of r ≡ true → r ≡ Of
of_is Of h = refl
of_is OfHeld h = cc
of_is OfPlain h = cc
of_is (Fixed shape) h = cc

in_has_sort : (place : Where) → is_in place ≡ true → has_sort place ≡ true
in_has_sort (In c) h = refl
in_has_sort (Exact m) h = by m h
  where
    by : (one : Mode) → is_in (Exact one) ≡ true → has_sort (Exact one) ≡ true
    by Dispatcher k = never k
    by Initial k = never k
    by BeforeHtml k = never k
    by BeforeHead k = never k
    by InHead k = never k
    by InHeadNoscript k = never k
    by AfterHead k = never k
    by InBody k = refl
    by Text k = never k
    by InTable k = refl
    by InTableText k = never k
    by InCaption k = refl
    by InColumnGroup k = refl
    by InTableBody k = refl
    by InRow k = refl
    by InCell k = refl
    by InTemplate k = refl
    by AfterBody k = refl
    by InFrameset k = never k
    by AfterFrameset k = never k
    by AfterAfterBody k = refl
    by AfterAfterFrameset k = never k
    by ForeignContent k = never k
in_has_sort Frames h = cc
in_has_sort Sorted h = cc
in_has_sort Nowhere h = cc

-- foreign elements
foreign_at : (place : Where) (rel : Rel) (kept : Bool) (b : Building) (t : GrowingTree) (new : Level) →
    ((shape : Shape) → TreeIs shape b.tree → TreeIs (Plain shape) t) →
    if_so (has_sort place && is_of rel) (Late place OfPlain false) ≡ Some new → LateAt place rel kept b → At new (with_tree b t)
foreign_at place rel kept b t new step e at = if_so_at _ (Late place OfPlain false) new _ e (λ s. (
  at.0,
  at.1,
  step (own b.mode) (subst (λ r. TreeIs (shape_for r b.mode) b.tree) (of_is rel (both (has_sort place) (is_of rel) s).1)
      at.2),
  no_keep (with_tree b t),
))

-- the current node is held
top_held : (shape : Shape) (t : GrowingTree) → TreeIs (Held shape) t → IsAt held (labels t.nodes) (current t)
top_held shape t h = by t.stack h.0
  where
    by : (s : List ℕ) → Stk (Held shape) (labels t.nodes) s → IsAt held (labels t.nodes) (top s)
    by [] st = absurd st
    by (n ∷ ns) st = st.0

tree_form : (shape : Shape) (t : GrowingTree) (form : FormPointer) → IsForm (labels t.nodes) form → TreeIs shape t →
    TreeIs shape (record t { form = form })
tree_form shape t form h at = (
  at.0,
  record {
    entries = at.1.entries;
    form_is = h;
    found_is = at.1.found_is;
    head_is = at.1.head_is;
  },
)

form_at : (place : Where) (rel : Rel) (kept : Bool) (tests : List Test) (b : Building) (new : Level) →
    held_only rel (Late place rel false) ≡ Some new → LateAt place rel kept b → At new (after tests SetFormPointer b)
unfolding perform
form_at place OfHeld kept tests b new e at = some_at (Late place OfHeld false) new _ e (either_way (LateAt place OfHeld false)
    (list_all (is_met b) tests) b _ (
      at.0,
      at.1,
      tree_form (Held (own b.mode)) b.tree (FormAt (current b.tree)) (held_loose (labels b.tree.nodes) (current b.tree)
          (top_held (own b.mode) b.tree at.2)) at.2,
      λ k. never k,
    ) (at.0, at.1, at.2, λ k. never k))
form_at place Of kept tests b new e at = none_some e
form_at place OfPlain kept tests b new e at = none_some e
form_at place (Fixed shape) kept tests b new e at = none_some e

list_at : (place : Where) (rel : Rel) (kept : Bool) (b : Building) (new : Level) → held_only rel (Late place rel false) ≡ Some new →
    LateAt place rel kept b → At new (perform ListElement b)
unfolding perform
list_at place OfHeld kept b new e at = some_at (Late place OfHeld false) new _ e (
  at.0,
  at.1,
  tree_listed (Held (own b.mode)) b.tree _ (
    top_held (own b.mode) b.tree at.2,
    third_listed (labels b.tree.nodes) b.tree
        (current b.tree) 0 b.tree.listed at.2.1.entries,
  ) at.2,
  λ k. never k,
)
list_at place Of kept b new e at = none_some e
list_at place OfPlain kept b new e at = none_some e
list_at place (Fixed shape) kept b new e at = none_some e

-- ---- "reset the insertion mode appropriately"

pub reset_turn : (b : Building) → TreeIs Loose b.tree → Content b.template_modes →
    Turn (record b { mode = reset_from b.tree b.template_modes b.tree.stack })
reset_turn b h content = (content, by h.0)
  where
    new : Mode
    new = reset_from b.tree b.template_modes b.tree.stack

    inside : (m : Mode) → new ≡ m → is_inside m ≡ true → Stands Inside (labels b.tree.nodes) b.tree.stack →
        (is_cell m ≡ true → list_any (is_at cell (labels b.tree.nodes)) b.tree.stack ≡ true) → TurnIs m (record b { mode = new })
    inside Dispatcher e i st c = never i
    inside Initial e i st c = never i
    inside BeforeHtml e i st c = never i
    inside BeforeHead e i st c = never i
    inside InHead e i st c = never i
    inside InHeadNoscript e i st c = never i
    inside AfterHead e i st c = never i
    inside InBody e i st c = ((st, λ k. never k), h.1)
    inside Text e i st c = never i
    inside InTable e i st c = ((st, λ k. never k), h.1)
    inside InTableText e i st c = never i
    inside InCaption e i st c = ((st, λ k. never k), h.1)
    inside InColumnGroup e i st c = ((st, λ k. never k), h.1)
    inside InTableBody e i st c = ((st, λ k. never k), h.1)
    inside InRow e i st c = ((st, λ k. never k), h.1)
    inside InCell e i st c = ((st, λ k. c refl), h.1)
    inside InTemplate e i st c = ((st, λ k. never k), h.1)
    inside AfterBody e i st c = ((st, λ k. never k), h.1)
    inside InFrameset e i st c = never i
    inside AfterFrameset e i st c = never i
    inside AfterAfterBody e i st c = ((st, λ k. never k), h.1)
    inside AfterAfterFrameset e i st c = never i
    inside ForeignContent e i st c = never i

    by : Stands Inside (labels b.tree.nodes) b.tree.stack ⊎ IsHead (labels b.tree.nodes) b.tree.stack → TurnIs new (record b { mode = new })
    by (inr at_head) = subst (λ m. TurnIs m (record b { mode = new })) (sym (head_resets b.tree b.template_modes b.tree.stack at_head))
        (at_head, h.1)
    by (inl stands) = fits (reset_fits b.tree b.template_modes h.1.head_is content b.tree.stack stands)
      where
        fits : Fits b.tree b.tree.stack new → TurnIs new (record b { mode = new })
        fits (inl f) = inside new refl f.0 stands f.1
        fits (inr f) = last new f.0
          where
            last : (m : Mode) → is_last m ≡ true → TurnIs m (record b { mode = new })
            last AfterHead e = ((f.1, λ k. never k), h.1)
            last InFrameset e = ((stands_weaker Closed Framed refl (labels b.tree.nodes) b.tree.stack f.1, λ k. never k), h.1)
            last _ e = never e

-- ---- popping up to an element

root_of : (t : GrowingTree) → (k : Sort) (c : Bool) → Good k c t → TreeIs Root (with_stack t (topmost t.stack ∷ []))
root_of t k c g = (topmost_html k (labels t.nodes) t.stack g.0, g.2)

pub own_good : (place : Where) (b : Building) (kept : Bool) (rel : Rel) → is_of rel ≡ true → has_sort place ≡ true →
    LateAt place rel kept b → (k : Sort) × (c : Bool) × (own b.mode ≡ Std k c) × Good k c b.tree
own_good place b kept rel o s at =
    let shape : (q : Sort) × (c : Bool) × (own b.mode ≡ Std q c) = sorted_own b.mode (place_sorted place b.mode b.token s at.0) in (
      shape.0,
      shape.1,
      shape.2,
      good_of shape.0 shape.1 b.mode Of b.tree shape.2 (inl refl) (subst (λ r. TreeIs (shape_for r b.mode) b.tree)
          (of_is rel o) at.2),
    )

pub in_good : (place : Where) (b : Building) (kept : Bool) (rel : Rel) → is_of rel ≡ true → is_in place ≡ true → LateAt place rel kept b →
    Good Inside (is_cell b.mode) b.tree
in_good place b kept rel o i at =
    good_of Inside (is_cell b.mode) b.mode Of b.tree (inside_own b.mode (place_inside place b.mode b.token i at.0)) (inl refl)
    (subst (λ r. TreeIs (shape_for r b.mode) b.tree) (of_is rel o) at.2)

pub no_cell_mode : (place : Where) (mode : Mode) (token : Token) → no_cell place ≡ true → Is place mode token → (is_in place ≡ true) ×
    (is_cell mode ≡ false)
no_cell_mode (In false) mode token h at = (refl, at.1 refl)
no_cell_mode (In true) mode token h at = cc
no_cell_mode (Exact m) mode token h at = cc
no_cell_mode Frames mode token h at = cc
no_cell_mode Sorted mode token h at = cc
no_cell_mode Nowhere mode token h at = cc

pub back_in : (place : Where) (b : Building) (t : GrowingTree) → is_in place ≡ true → Is place b.mode b.token → Content b.template_modes →
    Good Inside (is_cell b.mode) t → LateAt place Of false (with_tree b t)
back_in place b t i p c g = (
  p,
  c,
  of_good Inside (is_cell b.mode) b.mode t (inside_own b.mode (place_inside place b.mode b.token i p)) g,
  no_keep (with_tree b t),
)

pub same_one : (t : GrowingTree) (some others : List (List ℕ)) → has_all some others ≡ true → (n : ℕ) → is_one t some n ≡ true →
    is_one t others n ≡ true
same_one t some others h n k = among_more (key t n) some others h k

pub scope_wider : (one other ends : ℕ → Bool) → ((n : ℕ) → one n ≡ true → other n ≡ true) → (s : List ℕ) → in_scope one ends s ≡ true →
    in_scope other ends s ≡ true
scope_wider one other ends wider [] h = h
scope_wider one other ends wider (n ∷ ns) h = by (one n) (other n) (ends n) refl refl h (λ more. scope_wider one other ends wider ns more)
  where
    by : (x y z : Bool) → one n ≡ x → other n ≡ y → x || (not z && in_scope one ends ns) ≡ true →
        (in_scope one ends ns ≡ true → in_scope other ends ns ≡ true) → y || (not z && in_scope other ends ns) ≡ true
    by true true z e f k go = refl
    by true false z e f k go = never (sym f ∙ wider n e)
    by false true z e f k go = refl
    by false false true e f k go = cc
    by false false false e f k go = go k

pub names_wider : (t : GrowingTree) (wanted names : Names) (token : Token) → names_among wanted names ≡ true → (n : ℕ) →
    is_one t (names_for wanted token) n ≡ true → is_one t (names_for names token) n ≡ true
names_wider t Own Own token h n k = k
names_wider t (These some) (These others) token h n k = same_one t some others h n k
names_wider t Own (These others) token h n k = cc
names_wider t (These some) Own token h n k = cc

pub names_apart_so : (others : List (List ℕ)) (names : Names) (info : Info) (token : Token) → not (is_among [] others) ≡ true →
    names_apart others names info ≡ true → holds_of info token ≡ true → apart (names_for names token) others ≡ true
names_apart_so others Own info token e h k = ap (λ x. x && true) (own_apart_so others info token e h k)
names_apart_so others (These names) info token e h k = h

-- up to an element in scope, in a mode where no cell is claimed, or in a scope that ends at cells
pub past_at : (place : Where) (kind : ScopeKind) (names : Names) (info : Info) (b : Building) → is_in place ≡ true →
    LateAt place Of false b → holds_of info b.token ≡ true →
    has_in_scope kind (names_for names b.token) b.tree ≡ true → names_apart fixed names info ≡ true → is_table_scope kind ≡ false →
    LateAt place Of false (with_tree b (with_stack b.tree (past (is_one b.tree (names_for names b.token)) b.tree.stack)))
past_at place kind names info b i at k scope ok table =
    back_in place b (with_stack b.tree (past (is_one b.tree (names_for names b.token)) b.tree.stack)) i at.0 at.1
    (good_past Inside (is_cell b.mode) b.tree (is_one b.tree (names_for names b.token)) (ends_scope kind b.tree)
    (only_apart (names_for names b.token) fixed (names_apart_so fixed names info b.token refl ok k) b.tree)
    (λ c n. cells_end kind (ends_cells kind table) b.tree n) scope (in_good place b false Of refl i at))
  where
    ends_cells : (q : ScopeKind) → is_table_scope q ≡ false → ends_at_cells q ≡ true
    ends_cells Scope h = refl
    ends_cells ListItemScope h = refl
    ends_cells ButtonScope h = refl
    ends_cells TableScope h = cc

-- where nothing is claimed
pub past_plain : (place : Where) (kind : ScopeKind) (names : Names) (info : Info) (b : Building) → is_in place ≡ true →
    LateAt place Of false b → holds_of info b.token ≡ true →
    has_in_scope kind (names_for names b.token) b.tree ≡ true → names_apart framing names info ≡ true →
    TreeIs (Std Inside false) (with_stack b.tree (past (is_one b.tree (names_for names b.token)) b.tree.stack))
past_plain place kind names info b i at k scope ok = (
  (
    past_stands Inside (labels b.tree.nodes) (is_one b.tree (names_for names b.token)) (only_apart (names_for names b.token) framing
        (names_apart_so framing names info b.token refl ok k) b.tree) b.tree.stack
        (in_scope_any (is_one b.tree (names_for names b.token)) (ends_scope kind b.tree) b.tree.stack scope)
        (in_good place b false Of refl i at).0,
    λ c. never c,
  ),
  at.2.1,
)

-- a mode without cells has what has no claim
pub unclaimed_back : (place : Where) (b : Building) (t : GrowingTree) → no_cell place ≡ true → Is place b.mode b.token →
    Content b.template_modes → TreeIs (Std Inside false) t → LateAt place Of false (with_tree b t)
unclaimed_back place b t n p c h =
    let two : (is_in place ≡ true) × (is_cell b.mode ≡ false) = no_cell_mode place b.mode b.token n p in
    back_in place b t two.0 p c (h.0.0, (λ d. never (sym two.1 ∙ d)), h.1)

in_cell_until : (b : Building) (names : List (List ℕ)) → has_all cells names ≡ true → apart names framing ≡ true →
    LateAt (Exact InCell) Of false b → LateAt (Exact InCell) (Fixed (Std Inside false)) false
    (with_tree b (with_stack b.tree (past (is_one b.tree names) b.tree.stack)))
in_cell_until b names all ok at = (
  at.0,
  at.1,
  (
    (
      past_stands Inside (labels b.tree.nodes) (is_one b.tree names)
          (only_apart names framing ok b.tree) b.tree.stack (there b.tree.stack (good.1 refl)) good.0,
      λ c. never c,
    ),
    at.2.1,
  ),
  no_keep (with_tree b (with_stack b.tree (past (is_one b.tree names) b.tree.stack))),
)
  where
    good : Good Inside true b.tree
    good = good_of Inside true b.mode Of b.tree (ap own at.0) (inl refl) at.2

    there : (s : List ℕ) → list_any (is_at cell (labels b.tree.nodes)) s ≡ true → list_any (is_one b.tree names) s ≡ true
    there [] h = h
    there (n ∷ ns) h = by (is_at cell (labels b.tree.nodes) n) refl h (λ more. there ns more)
      where
        with_more : (x : Bool) {y : Bool} → y ≡ true → x || y ≡ true
        with_more true k = refl
        with_more false k = k

        by : (x : Bool) → is_at cell (labels b.tree.nodes) n ≡ x → x || list_any (is_at cell (labels b.tree.nodes)) ns ≡ true →
            (list_any (is_at cell (labels b.tree.nodes)) ns ≡ true → list_any (is_one b.tree names) ns ≡ true) →
            is_one b.tree names n || list_any (is_one b.tree names) ns ≡ true
        by true e k go = ap (λ x. x || list_any (is_one b.tree names) ns) (cell_is_one b.tree names all n e)
        by false e k go = with_more (is_one b.tree names n) (go k)

pub until_cell : (place : Where) (info : Info) (names : Names) (b : Building) (new : Level) →
    until (Late place Of false) info names [] ≡ Some new → LateAt place Of false b → At new (perform (PopUntil names) b)
unfolding perform
until_cell (Exact InCell) info (These names) b new e at = if_so_at _ (Late (Exact InCell) (Fixed (Std Inside false)) false) new _ e
    (λ s. in_cell_until b names (both (has_all cells names) (apart names framing) s).0 (both (has_all cells names) (apart names framing)
    s).1 at)
until_cell _ info _ b new e at = none_some e

until_late : (place : Where) (rel : Rel) (info : Info) (names : Names) (tests : List Test) (kept : Bool) (b : Building) (new : Level) →
    until (Late place rel false) info names tests ≡ Some new → LateAt place rel kept b → At new (after tests (PopUntil names) b)
unfolding perform
until_late (Exact InCell) Of info (These names) [] kept b new e at = until_cell (Exact InCell) info (These names) b new e (
  at.0,
  at.1,
  at.2,
  no_keep b,
)
until_late _ _ info _ _ kept b new e at = none_some e

until_if_at : (place : Where) (rel : Rel) (kept : Bool) (info : Info) (names : Names) (tests : List Test) (b : Building) (new : Level) →
    holds_of info b.token ≡ true → until_if place rel info names tests ≡ Some new → LateAt place rel kept b →
    At new (after tests (PopUntil names) b)
unfolding perform
until_if_at place rel kept info names (is (InScope kind wanted) ∷ []) b new k e at = if_so_at _ (Late place Of false) new _ e (λ s.
    let one : (is_in place ≡ true) × (is_of rel && (names_among wanted names && (not (is_table_scope kind) && names_apart fixed names info))
    ≡ true) = both _ _ s in
    let two : (is_of rel ≡ true) × (names_among wanted names && (not (is_table_scope kind) && names_apart fixed names info) ≡ true) =
    both _ _ one.1 in
    let three : (names_among wanted names ≡ true) × (not (is_table_scope kind) && names_apart fixed names info ≡ true) = both _ _ two.1 in
    let four : (not (is_table_scope kind) ≡ true) × (names_apart fixed names info ≡ true) = both _ _ three.1 in
    let back : LateAt place Of false b = forgotten place rel kept b (of_so place rel two.0 (in_has_sort place one.0)) at in
    by one.0 three.0 four.0 four.1 back (has_in_scope kind (names_for wanted b.token) b.tree) refl)
  where
    turned : (x : Bool) → not x ≡ true → x ≡ false
    turned true h = cc
    turned false h = refl

    by : is_in place ≡ true → names_among wanted names ≡ true → not (is_table_scope kind) ≡ true → names_apart fixed names info ≡ true →
        LateAt place Of false b → (x : Bool) → has_in_scope kind (names_for wanted b.token) b.tree ≡ x →
        LateAt place Of false (elim (x && true) as (λ _. Building) [
          | true ↦ with_tree b
              (with_stack b.tree (past (is_one b.tree (names_for names b.token)) b.tree.stack))
          | false ↦ b
        ])
    by i among table ok back false f = back
    by i among table ok back true f = past_at place kind names info b i back k (scope_wider (is_one b.tree (names_for wanted b.token))
        (is_one b.tree (names_for names b.token)) (ends_scope kind b.tree) (names_wider b.tree wanted names b.token among) b.tree.stack f)
        ok (turned (is_table_scope kind) table)
until_if_at place rel kept info names _ b new k e at = until_late place rel info names _ kept b new e at

upto_at : (place : Where) (names : List (List ℕ)) (b : Building) → no_cell place ≡ true → has_all (codes "html" ∷ codes "template" ∷ [])
    names ≡ true → LateAt place Of false b →
    LateAt place Of false (with_tree b (with_stack b.tree (beyond (λ n. not (is_one b.tree names n)) b.tree.stack)))
upto_at place names b n all at =
    unclaimed_back place b (with_stack b.tree (beyond (λ n. not (is_one b.tree names n)) b.tree.stack)) n at.0 at.1 (
      (
        upto_stands b.tree names all b.tree.stack (in_good place b false Of refl (no_cell_mode place b.mode b.token n at.0).0 at).0,
        λ c. never c,
      ),
      at.2.1,
    )

pub late_next_at : (place : Where) (rel : Rel) (kept : Bool) (info : Info) (action : Action) (tests : List Test) (b : Building)
    (new : Level) → holds_of info b.token ≡ true → late_next place rel kept info action tests ≡ Some new →
    LateAt place rel kept b → At new (after tests action b)
unfolding perform
late_next_at place rel kept info InsertElement [] b new k e at = made_at place rel kept info b (own_name b.token) b.attrs new
    (own_named info b.token k) e at
late_next_at place rel kept info (InsertNamed name) tests b new k e at = named_if_at place rel kept name tests b new e at
late_next_at place rel kept info InsertMathmlElement [] b new k e at = foreign_at place rel kept b _ new
    (λ shape h. foreign_pushed shape MathMl (own_name b.token) b.attrs b.tree refl h) e at
late_next_at place rel kept info InsertSvgElement [] b new k e at = foreign_at place rel kept b _ new (λ shape h. foreign_pushed shape Svg
    (own_name b.token) b.attrs b.tree refl h) e at
late_next_at place rel kept info SetFormPointer tests b new k e at = form_at place rel kept tests b new e at
late_next_at place rel kept info ListElement [] b new k e at = list_at place rel kept b new e at
late_next_at place rel kept info Pop tests b new k e at = popped_if_at place rel kept tests b new e at
late_next_at place rel kept info PopToTopmost [] b new k e at = if_so_at _ (Late place (Fixed Root) false) new _ e (λ s. (
  at.0,
  at.1,
  root_of b.tree Inside (is_cell b.mode) (in_good place b kept rel (both (is_in place) (is_of rel) s).1
      (both (is_in place) (is_of rel) s).0 at),
  λ q. never q,
))
late_next_at place rel kept info PopForeignElements [] b new k e at = if_so_at _ (Late place Of false) new _ e (λ s.
    sorted_op place rel kept b (with_stack b.tree (beyond (is_foreign b.tree) b.tree.stack))
    (of_so place rel (both (has_sort place) (is_of rel) s).1 (both (has_sort place) (is_of rel) s).0) (λ q c g. good_beyond q c b.tree
    (is_foreign b.tree) (only_foreign b.tree) g) at)
late_next_at place rel kept info (PopUntil names) tests b new k e at = until_if_at place rel kept info names tests b new k e at
late_next_at place rel kept info (PopUpTo (These names)) [] b new k e at = if_so_at _ (Late place Of false) new _ e (λ s.
    let one : (no_cell place ≡ true) × (is_of rel && has_all (codes "html" ∷ codes "template" ∷ []) names ≡ true) = both _ _ s in
    let two : (is_of rel ≡ true) × (has_all (codes "html" ∷ codes "template" ∷ []) names ≡ true) = both _ _ one.1 in
    upto_at place names b one.0 two.1 (forgotten place rel kept b
    (of_so place rel two.0 (in_has_sort place (no_cell_mode place b.mode b.token one.0 at.0).0)) at))
late_next_at place rel kept info KeepMode [] b new k e at = some_at (Late place rel true) new _ e (at.0, at.1, at.2, λ q. refl)
late_next_at place rel kept info ResetMode [] b new k e at = if_so_at _ Fine new _ e (λ s.
    let one : (is_in place ≡ true) × (is_known place rel && weak (known place rel) Loose ≡ true) = both _ _ s in
    let two : (is_known place rel ≡ true) × (weak (known place rel) Loose ≡ true) = both _ _ one.1 in
    let tree : TreeIs (known place rel) b.tree = known_tree place rel kept b two.0 at in
    reset_turn b (weak_stk (known place rel) Loose two.1 (labels b.tree.nodes) b.tree.stack tree.0, tree.1) at.1)
late_next_at place rel kept info (PushTemplateMode mode) [] b new k e at = if_so_at _ (Late place rel kept) new _ e
    (λ s. (at.0, ap (λ x. x && list_all is_content b.template_modes) s ∙ at.1, at.2, at.3))
late_next_at place rel kept info PopTemplateMode [] b new k e at = some_at (Late place rel kept) new _ e (
  at.0,
  dropped b.template_modes at.1,
  at.2,
  at.3,
)
  where
    dropped : (modes : List Mode) → Content modes → Content (drop 1 modes)
    dropped [] h = h
    dropped (mode ∷ modes) h = (both (is_content mode) (list_all is_content modes) h).1
late_next_at place rel kept info (SwitchTo mode) tests b new k e at = switched_at place rel kept mode tests b new e at
late_next_at place rel kept info action tests b new k e at = inside_next_at place rel kept info action tests b new k e at
