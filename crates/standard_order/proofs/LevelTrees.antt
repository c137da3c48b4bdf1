-- What actions make of the tree, where it is known how its stack ends.
use Rattle.std.specs.Prelude.{◌≡◌, ◌||◌, ◌⊎◌, refl, ℕ, Bool, true, false, not, ◌&&◌, List, [], ◌∷◌, Option, None, Some}
use Rattle.std.specs.Prelude.{bytes_eq, codes, drop}
use Rattle.std.proofs.Common.{inl, inr}
use Rattle.std.specs.List.{list_any}
use Rattle.std.proofs.lemmas.Option.{same_Some}
use Rattle.std.proofs.lemmas.Slice.Eq.{bytes_eq-Decides}
use mathlib.Core.Path.{◌∙◌, sym, ap, subst}
use Rattle.standard_tokens.specs.Tokens.{AChar, AComment, ADoctype, AStart, AnEnd, AnEof, Token}
use Rattle.standard_trees.specs.NameLists.{implied, special}
use Rattle.standard_trees.specs.RuleWords.{AfterAfterBody, AfterAfterFrameset, AfterBody, AfterFrameset, AfterHead, BeforeHead, BeforeHtml}
use Rattle.standard_trees.specs.RuleWords.{Dispatcher, ForeignContent, InBody, InCaption, InCell, InColumnGroup, InFrameset, InHead}
use Rattle.standard_trees.specs.RuleWords.{InHeadNoscript}
use Rattle.standard_trees.specs.RuleWords.{InRow, InTable, InTableBody, InTableText, InTemplate, Initial, Mode, Text}
use Rattle.standard_trees.specs.TreeStore.{ElementNode, CommentNode, ContentsNode, DoctypeNode, DocumentNode, TextNode, Html, Svg, MathMl}
use Rattle.standard_trees.specs.TreeStore.{Kind, NodeAttr, Space, is_html, key_in, space_in}
use Rattle.standard_trees.specs.GrowingTree.{GrowingTree, beyond, created_element, fresh, in_scope, inserted, is_among, is_foreign, is_one}
use Rattle.standard_trees.specs.GrowingTree.{kind_of, lower, own_before_html, past, place, pushed, put, topmost, with_stack}
use Rattle.standard_trees.specs.Formatting.{any_other_end, closed_other, ends_other, local_of}
use Rattle.standard_trees.specs.Building.{Building, is_space, own_name, with_tree}
use Rattle.standard_order.proofs.Labels.{Is as IsAt, Label, Makes, at_both, at_kind, is_at, kind_at, label_of, labels}
use Rattle.standard_order.proofs.Labels.{named, never_at}
use Rattle.standard_order.proofs.StandingStacks.{Closed, Framed, Has, Inside, IsHead, IsRoot, Only, Sort, Stands, allowed}
use Rattle.standard_order.proofs.StandingStacks.{any_valid, beyond_stands, both, cell, cells, fewer, fixed, framing, html, loose}
use Rattle.standard_order.proofs.StandingStacks.{loose_plain, never, only_apart, only_named, opposite, past_stands, plain}
use Rattle.standard_order.proofs.StandingStacks.{plain_popped, pushed_on, same_number, template, valid}
use Rattle.standard_order.proofs.GoodTrees.{Good, apart, cell_is_one, held}
use Rattle.standard_order.proofs.GoodTrees.{in_scope_any, in_scope_beyond, label_for, loose_no_cell, makes_inserted, pointers_grown}
use Rattle.standard_order.proofs.GoodEnds.{ends_scoped, one_apart}
use Rattle.standard_order.proofs.Levels.{Above, Exact, Fixed, Frames, Head, Held, In, Info, Nowhere, Of, OfHeld, OfPlain, Plain, Rel, Root}
use Rattle.standard_order.proofs.Levels.{Shape, Sorted, Std, Where, Any, End, EndBut, Other, Remark, Space as SpaceInfo, Start, StartBut}
use Rattle.standard_order.proofs.Levels.{Typed}
use Rattle.standard_order.proofs.Levels.{ends_no_cell, has_all, has_sort, is_cell, is_framed, is_in, is_inside, own, own_apart, own_within}
use Rattle.standard_order.proofs.Levels.{settled, weak}
use Rattle.standard_order.proofs.LevelFacts.{Is, LateAt, Stk, TreeIs, keeps_cells, shape_for, sorted_mode, stk_grown, weak_stk}
use Rattle.standard_order.proofs.StandingStacks.{named_apart, past_has, beyond_has}
use Rattle.standard_order.proofs.GoodTrees.{among_more}
use Rattle.std.specs.Prelude.{nat_eq}

-- ---- tokens

abbrev pub holds_of : Info → Token → Bool
holds_of (Start names) (AStart name attrs closing) = is_among name names
holds_of (StartBut names) (AStart name attrs closing) = not (is_among name names)
holds_of (End names) (AnEnd name) = is_among name names
holds_of (EndBut names) (AnEnd name) = not (is_among name names)
holds_of (Any starts ends) (AStart name attrs closing) = not (is_among name starts)
holds_of (Any starts ends) (AnEnd name) = not (is_among name ends)
holds_of (Any starts ends) (AChar c) = true
holds_of (Any starts ends) (AComment text) = true
holds_of (Any starts ends) (ADoctype d) = true
holds_of (Any starts ends) AnEof = true
holds_of SpaceInfo (AChar c) = is_space c
holds_of Remark (AComment text) = true
holds_of Typed (ADoctype d) = true
holds_of Other (AChar c) = true
holds_of Other (AComment text) = true
holds_of Other (ADoctype d) = true
holds_of Other AnEof = true
holds_of _ _ = false

among_apart_name : (name : List ℕ) (some others : List (List ℕ)) → apart some others ≡ true → is_among name some ≡ true →
    not (is_among name others) ≡ true
among_apart_name name some others ok h = named_apart some others ok (record { name = name; html = true }) h

not_among_name : (name : List ℕ) (some others : List (List ℕ)) → has_all others some ≡ true → not (is_among name some) ≡ true →
    not (is_among name others) ≡ true
not_among_name name some others ok h = fewer name others some ok h

pub own_apart_so : (others : List (List ℕ)) (info : Info) (t : Token) → not (is_among [] others) ≡ true → own_apart others info ≡ true →
    holds_of info t ≡ true → not (is_among (own_name t) others) ≡ true
own_apart_so others (Start names) (AStart name attrs closing) e a h = among_apart_name name names others a h
own_apart_so others (End names) (AnEnd name) e a h = among_apart_name name names others a h
own_apart_so others (StartBut names) (AStart name attrs closing) e a h = not_among_name name names others a h
own_apart_so others (EndBut names) (AnEnd name) e a h = not_among_name name names others a h
own_apart_so others (Any starts ends) (AStart name attrs closing) e a h = not_among_name name starts others
    (both (has_all others starts) (has_all others ends) a).0 h
own_apart_so others (Any starts ends) (AnEnd name) e a h = not_among_name name ends others
    (both (has_all others starts) (has_all others ends) a).1 h
own_apart_so others (Any starts ends) (AChar c) e a h = e
own_apart_so others (Any starts ends) (AComment text) e a h = e
own_apart_so others (Any starts ends) (ADoctype d) e a h = e
own_apart_so others (Any starts ends) AnEof e a h = e
own_apart_so others SpaceInfo (AChar c) e a h = e
own_apart_so others Remark (AComment text) e a h = e
own_apart_so others Typed (ADoctype d) e a h = e
own_apart_so others Other (AChar c) e a h = e
own_apart_so others Other (AComment text) e a h = e
own_apart_so others Other (ADoctype d) e a h = e
own_apart_so others Other AnEof e a h = e
own_apart_so others _ _ e a h = cc

pub own_within_so : (others : List (List ℕ)) (info : Info) (t : Token) → own_within others info ≡ true → holds_of info t ≡ true →
    is_among (own_name t) others ≡ true
own_within_so others (Start names) (AStart name attrs closing) a h = among_more name names others a h
own_within_so others (End names) (AnEnd name) a h = among_more name names others a h
own_within_so others _ _ a h = cc

pub ends_no_cell_so : (info : Info) (t : Token) → ends_no_cell info ≡ true → holds_of info t ≡ true → keeps_cells t ≡ true
ends_no_cell_so (End names) (AnEnd name) a h = among_apart_name name names cells a h
ends_no_cell_so (EndBut names) (AnEnd name) a h = not_among_name name names cells a h
ends_no_cell_so (Any starts ends) (AnEnd name) a h = not_among_name name ends cells a h
ends_no_cell_so info (AStart name attrs closing) a h = refl
ends_no_cell_so info (AChar c) a h = refl
ends_no_cell_so info (AComment text) a h = refl
ends_no_cell_so info (ADoctype d) a h = refl
ends_no_cell_so info AnEof a h = refl
ends_no_cell_so (Start names) (AnEnd name) a h = cc
ends_no_cell_so (StartBut names) (AnEnd name) a h = cc
ends_no_cell_so SpaceInfo (AnEnd name) a h = cc
ends_no_cell_so Remark (AnEnd name) a h = cc
ends_no_cell_so Typed (AnEnd name) a h = cc
ends_no_cell_so Other (AnEnd name) a h = cc

-- ---- the shape for a mode

pub sorted_own : (mode : Mode) → sorted_mode mode ≡ true → (k : Sort) × (c : Bool) × (own mode ≡ Std k c)
sorted_own Dispatcher h = cc
sorted_own Initial h = cc
sorted_own BeforeHtml h = cc
sorted_own BeforeHead h = cc
sorted_own InHead h = cc
sorted_own InHeadNoscript h = cc
sorted_own AfterHead h = (Closed, false, refl)
sorted_own InBody h = (Inside, false, refl)
sorted_own Text h = cc
sorted_own InTable h = (Inside, false, refl)
sorted_own InTableText h = cc
sorted_own InCaption h = (Inside, false, refl)
sorted_own InColumnGroup h = (Inside, false, refl)
sorted_own InTableBody h = (Inside, false, refl)
sorted_own InRow h = (Inside, false, refl)
sorted_own InCell h = (Inside, true, refl)
sorted_own InTemplate h = (Inside, false, refl)
sorted_own AfterBody h = (Inside, false, refl)
sorted_own InFrameset h = (Framed, false, refl)
sorted_own AfterFrameset h = (Framed, false, refl)
sorted_own AfterAfterBody h = (Inside, false, refl)
sorted_own AfterAfterFrameset h = (Framed, false, refl)
sorted_own ForeignContent h = cc

pub inside_own : (mode : Mode) → is_inside mode ≡ true → own mode ≡ Std Inside (is_cell mode)
inside_own Dispatcher h = cc
inside_own Initial h = cc
inside_own BeforeHtml h = cc
inside_own BeforeHead h = cc
inside_own InHead h = cc
inside_own InHeadNoscript h = cc
inside_own AfterHead h = cc
inside_own InBody h = refl
inside_own Text h = cc
inside_own InTable h = refl
inside_own InTableText h = cc
inside_own InCaption h = refl
inside_own InColumnGroup h = refl
inside_own InTableBody h = refl
inside_own InRow h = refl
inside_own InCell h = refl
inside_own InTemplate h = refl
inside_own AfterBody h = refl
inside_own InFrameset h = cc
inside_own AfterFrameset h = cc
inside_own AfterAfterBody h = refl
inside_own AfterAfterFrameset h = cc
inside_own ForeignContent h = cc

inside_sorted : (mode : Mode) → is_inside mode ≡ true → sorted_mode mode ≡ true
inside_sorted Dispatcher h = cc
inside_sorted Initial h = cc
inside_sorted BeforeHtml h = cc
inside_sorted BeforeHead h = cc
inside_sorted InHead h = cc
inside_sorted InHeadNoscript h = cc
inside_sorted AfterHead h = cc
inside_sorted InBody h = refl
inside_sorted Text h = cc
inside_sorted InTable h = refl
inside_sorted InTableText h = cc
inside_sorted InCaption h = refl
inside_sorted InColumnGroup h = refl
inside_sorted InTableBody h = refl
inside_sorted InRow h = refl
inside_sorted InCell h = refl
inside_sorted InTemplate h = refl
inside_sorted AfterBody h = refl
inside_sorted InFrameset h = cc
inside_sorted AfterFrameset h = cc
inside_sorted AfterAfterBody h = refl
inside_sorted AfterAfterFrameset h = cc
inside_sorted ForeignContent h = cc

framed_sorted : (mode : Mode) → is_framed mode ≡ true → sorted_mode mode ≡ true
framed_sorted Dispatcher h = cc
framed_sorted Initial h = cc
framed_sorted BeforeHtml h = cc
framed_sorted BeforeHead h = cc
framed_sorted InHead h = cc
framed_sorted InHeadNoscript h = cc
framed_sorted AfterHead h = cc
framed_sorted InBody h = cc
framed_sorted Text h = cc
framed_sorted InTable h = cc
framed_sorted InTableText h = cc
framed_sorted InCaption h = cc
framed_sorted InColumnGroup h = cc
framed_sorted InTableBody h = cc
framed_sorted InRow h = cc
framed_sorted InCell h = cc
framed_sorted InTemplate h = cc
framed_sorted AfterBody h = cc
framed_sorted InFrameset h = refl
framed_sorted AfterFrameset h = refl
framed_sorted AfterAfterBody h = cc
framed_sorted AfterAfterFrameset h = refl
framed_sorted ForeignContent h = cc

exact : (mode : Mode) → has_sort (Exact mode) ≡ true → sorted_mode mode ≡ true
exact Dispatcher h = cc
exact Initial h = cc
exact BeforeHtml h = cc
exact BeforeHead h = cc
exact InHead h = cc
exact InHeadNoscript h = cc
exact AfterHead h = refl
exact InBody h = refl
exact Text h = cc
exact InTable h = refl
exact InTableText h = cc
exact InCaption h = refl
exact InColumnGroup h = refl
exact InTableBody h = refl
exact InRow h = refl
exact InCell h = refl
exact InTemplate h = refl
exact AfterBody h = refl
exact InFrameset h = refl
exact AfterFrameset h = refl
exact AfterAfterBody h = refl
exact AfterAfterFrameset h = refl
exact ForeignContent h = cc

pub place_sorted : (place : Where) (mode : Mode) (token : Token) → has_sort place ≡ true → Is place mode token → sorted_mode mode ≡ true
place_sorted (In c) mode token h at = inside_sorted mode at.0
place_sorted Frames mode token h at = framed_sorted mode at
place_sorted Sorted mode token h at = at
place_sorted Nowhere mode token h at = cc
place_sorted (Exact one) mode token h at = subst (λ m. sorted_mode m ≡ true) (sym at) (exact one h)

pub place_inside : (place : Where) (mode : Mode) (token : Token) → is_in place ≡ true → Is place mode token → is_inside mode ≡ true
place_inside (In c) mode token h at = at.0
place_inside (Exact one) mode token h at = ap is_inside at ∙ h
place_inside Frames mode token h at = cc
place_inside Sorted mode token h at = cc
place_inside Nowhere mode token h at = cc

-- the tree of such a mode
pub good_of : (k : Sort) (c : Bool) (mode : Mode) (rel : Rel) (t : GrowingTree) → own mode ≡ Std k c →
    (rel ≡ Of) ⊎ ((rel ≡ OfHeld) ⊎ (rel ≡ OfPlain)) → TreeIs (shape_for rel mode) t → Good k c t
good_of k c mode rel t e (inl f) h = whole (subst (λ s. TreeIs s t) (ap (λ r. shape_for r mode) f ∙ e) h)
  where
    whole : TreeIs (Std k c) t → Good k c t
    whole w = (w.0.0, w.0.1, w.1)
good_of k c mode rel t e (inr (inl f)) h = whole (subst (λ s. TreeIs s t) (ap (λ r. shape_for r mode) f ∙ ap Held e) h)
  where
    whole : TreeIs (Held (Std k c)) t → Good k c t
    whole w = (let st : Stk (Std k c) (labels t.nodes) t.stack = weak_stk (Held (Std k c)) (Std k c) (same k c) (labels t.nodes) t.stack w.0
        in (st.0, st.1, w.1))
      where
        same : (k : Sort) (c : Bool) → weak (Held (Std k c)) (Std k c) ≡ true
        same Closed true = refl
        same Closed false = refl
        same Framed true = refl
        same Framed false = refl
        same Inside true = refl
        same Inside false = refl
good_of k c mode rel t e (inr (inr f)) h = whole (subst (λ s. TreeIs s t) (ap (λ r. shape_for r mode) f ∙ ap Plain e) h)
  where
    whole : TreeIs (Plain (Std k c)) t → Good k c t
    whole w = (let st : Stk (Std k c) (labels t.nodes) t.stack = weak_stk (Plain (Std k c)) (Std k c) (same k c) (labels t.nodes) t.stack
        w.0 in (st.0, st.1, w.1))
      where
        same : (k : Sort) (c : Bool) → weak (Plain (Std k c)) (Std k c) ≡ true
        same Closed true = refl
        same Closed false = refl
        same Framed true = refl
        same Framed false = refl
        same Inside true = refl
        same Inside false = refl

pub of_good : (k : Sort) (c : Bool) (mode : Mode) (t : GrowingTree) → own mode ≡ Std k c → Good k c t → TreeIs (own mode) t
of_good k c mode t e g = subst (λ s. TreeIs s t) (sym e) ((g.0, g.1), g.2)

pub settled_rel : (place : Where) (rel : Rel) → settled place rel ≡ true → ((rel ≡ Of) ⊎ ((rel ≡ OfHeld) ⊎ (rel ≡ OfPlain))) ×
    (has_sort place ≡ true)
settled_rel place Of h = (inl refl, h)
settled_rel place OfHeld h = (inr (inl refl), h)
settled_rel place OfPlain h = (inr (inr refl), h)
settled_rel place (Fixed shape) h = cc

never_kept : (b : Building) → false ≡ true → b.original ≡ b.mode
never_kept b h = never h

-- an operation that is good, whatever the sort
pub sorted_op : (place : Where) (rel : Rel) (kept : Bool) (b : Building) (t : GrowingTree) → settled place rel ≡ true →
    ((k : Sort) (c : Bool) → Good k c b.tree → Good k c t) → LateAt place rel kept b →
    LateAt place Of false (with_tree b t)
sorted_op place rel kept b t s op at =
    let two : ((rel ≡ Of) ⊎ ((rel ≡ OfHeld) ⊎ (rel ≡ OfPlain))) × (has_sort place ≡ true) = settled_rel place rel s in
    let shape : (k : Sort) × (c : Bool) × (own b.mode ≡ Std k c) = sorted_own b.mode (place_sorted place b.mode b.token two.1 at.0) in (
      at.0,
      at.1,
      of_good shape.0 shape.1 b.mode t shape.2 (op shape.0 shape.1 (good_of shape.0 shape.1 b.mode rel b.tree shape.2 two.0
          at.2)),
      never_kept (with_tree b t),
    )

-- one that is good where the sort is that of modes inside
pub inside_op : (place : Where) (rel : Rel) (kept : Bool) (b : Building) (t : GrowingTree) → is_in place ≡ true → settled place rel ≡ true →
    (Good Inside (is_cell b.mode) b.tree → Good Inside (is_cell b.mode) t) →
    LateAt place rel kept b → LateAt place Of false (with_tree b t)
inside_op place rel kept b t i s op at =
    let e : own b.mode ≡ Std Inside (is_cell b.mode) = inside_own b.mode (place_inside place b.mode b.token i at.0) in (
      at.0,
      at.1,
      of_good Inside (is_cell b.mode) b.mode t e
          (op (good_of Inside (is_cell b.mode) b.mode rel b.tree e (settled_rel place rel s).0 at.2)),
      never_kept (with_tree b t),
    )

-- ---- elements that are pushed

-- the facts of a label
abbrev pub Labelled : Label → List Label → ℕ → Type 0
Labelled l ls n = (test : Label → Bool) → test l ≡ true → IsAt test ls n

pub tree_pushed : (one other : Shape) (l : Label) (old made : GrowingTree) → Makes l old made →
    ((ls : List Label) (n : ℕ) (s : List ℕ) → Labelled l ls n → Stk one ls s → Stk other ls (n ∷ s)) → TreeIs one old →
    TreeIs other (pushed (fresh old) made)
tree_pushed one other l old made makes step h = subst (λ (t : GrowingTree). TreeIs other (pushed (fresh old) t)) (sym makes.only) (
  step (labels made.nodes) (fresh old) old.stack makes.made (stk_grown one old.nodes made.nodes makes.grows old.stack h.0),
  pointers_grown old.nodes made.nodes makes.grows old.listed old.form old.found old.head old.context h.1,
)

pub inserted_tree : (one other : Shape) (space : Space) (name : List ℕ) (attrs : List NodeAttr) (t : GrowingTree) →
    ((ls : List Label) (n : ℕ) (s : List ℕ) → Labelled (label_for space name) ls n → Stk one ls s → Stk other ls (n ∷ s)) → TreeIs one t →
    TreeIs other (inserted space name attrs t)
inserted_tree one other space name attrs t step h =
    tree_pushed one other (label_for space name) t (put (fresh t) (place t) (created_element space name attrs t))
    (makes_inserted (place t) space name attrs t) step h

-- one that is held, below which the stack stays
pub held_pushed : (shape : Shape) (name : List ℕ) (attrs : List NodeAttr) (t : GrowingTree) → not (is_among name fixed) ≡ true →
    TreeIs shape t → TreeIs (Held shape) (inserted Html name attrs t)
held_pushed shape name attrs t ok h = inserted_tree shape (Held shape) Html name attrs t (λ ls n s made st. (made held ok, st)) h

-- a foreign one
foreign_loose : (space : Space) (name : List ℕ) → is_html space ≡ false → loose (label_for space name) ≡ true
foreign_loose Html name h = cc
foreign_loose Svg name h = refl
foreign_loose MathMl name h = refl

pub foreign_pushed : (shape : Shape) (space : Space) (name : List ℕ) (attrs : List NodeAttr) (t : GrowingTree) → is_html space ≡ false →
    TreeIs shape t → TreeIs (Plain shape) (inserted space name attrs t)
foreign_pushed shape space name attrs t foreign h = inserted_tree shape (Plain shape) space name attrs t
    (λ ls n s made st. (made loose (foreign_loose space name foreign), st)) h

-- a template
pub template_pushed : (shape : Shape) (name : List ℕ) (attrs : List NodeAttr) (t : GrowingTree) →
    is_among name (codes "template" ∷ []) ≡ true → weak shape (Std Inside false) || weak shape Head ≡ true → TreeIs shape t →
    TreeIs (Std Inside false) (inserted Html name attrs t)
template_pushed shape name attrs t is ok h = inserted_tree shape (Std Inside false) Html name attrs t
    (λ ls n s made st. (step ls n s made st (weak shape (Std Inside false)) refl, λ c. never c)) h
  where
    allowed_so : allowed Inside (label_for Html name) ≡ true
    allowed_so = among_apart_name name (codes "template" ∷ []) (codes "html" ∷ codes "head" ∷ codes "frameset" ∷ []) refl is

    step : (ls : List Label) (n : ℕ) (s : List ℕ) → Labelled (label_for Html name) ls n → Stk shape ls s → (x : Bool) →
        weak shape (Std Inside false) ≡ x → Stands Inside ls (n ∷ s)
    step ls n s made st true e = pushed_on Inside ls n s (made (allowed Inside) allowed_so) (weak_stk shape (Std Inside false) e ls s st).0
    step ls n s made st false e = inr (inl (
      refl,
      made template is,
      weak_stk shape Head (sym (ap (λ x. x || weak shape Head) e) ∙ ok) ls s
          st,
    ))

-- a cell
pub cell_pushed : (shape : Shape) (name : List ℕ) (attrs : List NodeAttr) (t : GrowingTree) → is_among name cells ≡ true →
    weak shape (Std Inside false) ≡ true → TreeIs shape t → TreeIs (Std Inside true) (inserted Html name attrs t)
cell_pushed shape name attrs t is ok h = inserted_tree shape (Std Inside true) Html name attrs t (λ ls n s made st. (
  pushed_on Inside ls n s (made (allowed Inside) (among_apart_name name cells (codes "html" ∷ codes "head" ∷ codes "frameset" ∷ []) refl
      is)) (weak_stk shape (Std Inside false) ok ls s st).0,
  λ c. ap (λ x. x || list_any (is_at cell ls) s) (made cell is),
)) h

-- a frameset
pub frameset_pushed : (shape : Shape) (name : List ℕ) (attrs : List NodeAttr) (t : GrowingTree) →
    is_among name (codes "frameset" ∷ []) ≡ true → weak shape (Std Framed false) ≡ true → TreeIs shape t →
    TreeIs (Std Framed false) (inserted Html name attrs t)
frameset_pushed shape name attrs t is ok h = inserted_tree shape (Std Framed false) Html name attrs t (λ ls n s made st. (
  pushed_on Framed ls n s (made (allowed Framed) (among_apart_name name (codes "frameset" ∷ [])
      (codes "html" ∷ codes "head" ∷ codes "template" ∷ []) refl is)) (weak_stk shape (Std Framed false) ok ls s st).0,
  λ c. never c,
)) h

-- ---- elements that are popped

pub tree_stack : (one other : Shape) (t : GrowingTree) (s : List ℕ) → (Stk one (labels t.nodes) t.stack → Stk other (labels t.nodes) s) →
    TreeIs one t → TreeIs other (with_stack t s)
tree_stack one other t s step h = (step h.0, h.1)

drop_held : (shape : Shape) (ls : List Label) (s : List ℕ) → Stk (Held shape) ls s → Stk shape ls (drop 1 s)
drop_held shape ls [] st = absurd st
drop_held shape ls (n ∷ s) st = st.1

drop_plain : (shape : Shape) (ls : List Label) (s : List ℕ) → Stk (Plain shape) ls s → Stk shape ls (drop 1 s)
drop_plain shape ls [] st = absurd st
drop_plain shape ls (n ∷ s) st = st.1

drop_above : (shape : Shape) (ls : List Label) (s : List ℕ) → Stk (Above shape) ls s → Stk shape ls (drop 1 s)
drop_above shape ls [] st = absurd st
drop_above shape ls (n ∷ s) st = st

drop_head : (ls : List Label) (s : List ℕ) → IsHead ls s → IsRoot ls (drop 1 s)
drop_head ls [] st = absurd st
drop_head ls (n ∷ s) st = st.1

pub pop_held : (shape : Shape) (t : GrowingTree) → TreeIs (Held shape) t → TreeIs shape (with_stack t (drop 1 t.stack))
pop_held shape t h = tree_stack (Held shape) shape t (drop 1 t.stack) (drop_held shape (labels t.nodes) t.stack) h

pub pop_plain : (shape : Shape) (t : GrowingTree) → TreeIs (Plain shape) t → TreeIs shape (with_stack t (drop 1 t.stack))
pop_plain shape t h = tree_stack (Plain shape) shape t (drop 1 t.stack) (drop_plain shape (labels t.nodes) t.stack) h

pub pop_above : (shape : Shape) (t : GrowingTree) → TreeIs (Above shape) t → TreeIs shape (with_stack t (drop 1 t.stack))
pop_above shape t h = tree_stack (Above shape) shape t (drop 1 t.stack) (drop_above shape (labels t.nodes) t.stack) h

pub pop_head : (t : GrowingTree) → TreeIs Head t → TreeIs Root (with_stack t (drop 1 t.stack))
pop_head t h = tree_stack Head Root t (drop 1 t.stack) (drop_head (labels t.nodes) t.stack) h

-- the topmost element is `html`
pub topmost_html : (k : Sort) (ls : List Label) (s : List ℕ) → Stands k ls s → IsAt html ls (topmost s)
topmost_html k ls [] st = absurd st
topmost_html k ls (n ∷ []) (inl at_html) = at_html.0
topmost_html k ls (n ∷ []) (inr (inl at_head)) = absurd at_head.2
topmost_html k ls (n ∷ []) (inr (inr above)) = absurd above.1
topmost_html k ls (n ∷ m ∷ ns) (inl at_html) = absurd (no_more m ns at_html.1)
  where
    no_more : (m : ℕ) (ns : List ℕ) → m ∷ ns ≡ [] → ⊥
    no_more m ns e = cc
topmost_html k ls (n ∷ m ∷ ns) (inr (inl at_head)) = in_head m ns at_head.2
  where
    in_head : (m : ℕ) (ns : List ℕ) → IsHead ls (m ∷ ns) → IsAt html ls (topmost (m ∷ ns))
    in_head m [] h = absurd h.1
    in_head m (r ∷ []) h = h.1
    in_head m (r ∷ x ∷ xs) h = absurd h.1
topmost_html k ls (n ∷ m ∷ ns) (inr (inr above)) = topmost_html k ls (m ∷ ns) above.1

-- up to a context, which `html` and `template` are
pub upto_stands : (t : GrowingTree) (names : List (List ℕ)) → has_all (codes "html" ∷ codes "template" ∷ []) names ≡ true → (s : List ℕ) →
    Stands Inside (labels t.nodes) s →
    Stands Inside (labels t.nodes) (beyond (λ n. not (is_one t names n)) s)
upto_stands t names ok [] st = st
upto_stands t names ok (n ∷ ns) st = by (is_one t names n) refl st (λ more. upto_stands t names ok ns more)
  where
    is_so : (one : List ℕ) → is_among one names ≡ true → IsAt (named (one ∷ [])) (labels t.nodes) n → is_one t names n ≡ true
    is_so one h at = among_more (key_in (kind_of t n)) (one ∷ []) names (ap (λ x. x && true) h) (kind_at (named (one ∷ [])) t.nodes n at)

    parts : (is_among (codes "html") names ≡ true) × (is_among (codes "template") names && true ≡ true)
    parts = both (is_among (codes "html") names) (is_among (codes "template") names && true) ok

    by : (x : Bool) → is_one t names n ≡ x → Stands Inside (labels t.nodes) (n ∷ ns) → (Stands Inside (labels t.nodes) ns →
        Stands Inside (labels t.nodes) (beyond (λ m. not (is_one t names m)) ns)) →
        Stands Inside (labels t.nodes) (elim (not x) as (λ _. List ℕ) [ true ↦ beyond (λ m. not (is_one t names m)) ns | false ↦ n ∷ ns ])
    by true e stands go = stands
    by false e (inl at_html) go = never (sym e ∙ is_so (codes "html") parts.0 at_html.0)
    by false e (inr (inl at_head)) go = never (sym e ∙ is_so (codes "template") (both (is_among (codes "template") names) true parts.1).0
        at_head.1)
    by false e (inr (inr above)) go = go above.1

-- an element that is allowed and no template is plain
pub plain_from : (k : Sort) (l : Label) → allowed Inside l ≡ true → not (is_among l.name (codes "template" ∷ [])) ≡ true → plain l ≡ true
plain_from k l a b = or_not l.name (fewer l.name (codes "html" ∷ codes "head" ∷ []) (codes "html" ∷ codes "head" ∷ codes "frameset" ∷ [])
    refl a)
    b (fewer l.name (codes "frameset" ∷ []) (codes "html" ∷ codes "head" ∷ codes "frameset" ∷ []) refl a)
  where
    or_not : (name : List ℕ) → not (is_among name (codes "html" ∷ codes "head" ∷ [])) ≡ true →
        not (is_among name (codes "template" ∷ [])) ≡ true → not (is_among name (codes "frameset" ∷ [])) ≡ true →
        not (is_among name framing) ≡ true
    or_not name one two three = by (bytes_eq name (codes "html")) (bytes_eq name (codes "head")) (bytes_eq name (codes "template"))
        (bytes_eq name (codes "frameset")) one two three
      where
        by : (x y z w : Bool) → not (x || (y || false)) ≡ true → not (z || false) ≡ true → not (w || false) ≡ true →
            not (x || (y || (z || (w || false)))) ≡ true
        by false false false false a b c = refl
        by true y z w a b c = cc
        by false true z w a b c = cc
        by false false true w a b c = cc
        by false false false true a b c = cc

-- a plain element is loose, if it is no cell
loose_from_plain : (l : Label) → plain l ≡ true → not (is_among l.name cells) ≡ true → loose l ≡ true
loose_from_plain l a b = by (bytes_eq l.name (codes "td")) (bytes_eq l.name (codes "th")) (is_among l.name framing) a b
  where
    by : (x y z : Bool) → not z ≡ true → not (x || (y || false)) ≡ true → not (x || (y || z)) ≡ true
    by false false false a b = refl
    by false false true a b = cc
    by true y z a b = cc
    by false true z a b = cc

-- an element in scope stops the search, and it can be popped
pub upto_scoped : (t : GrowingTree) (wanted ends : ℕ → Bool) (names : List (List ℕ)) → Only plain (labels t.nodes) wanted →
    ((n : ℕ) → wanted n ≡ true → is_one t names n ≡ true) →
    ((n : ℕ) → IsAt html (labels t.nodes) n → ends n ≡ true) → ((n : ℕ) → IsAt template (labels t.nodes) n → ends n ≡ true) →
    apart names cells ≡ true →
    (s : List ℕ) → in_scope wanted ends s ≡ true → Stands Inside (labels t.nodes) s → Stk (Plain (Std Inside false)) (labels t.nodes)
    (beyond (λ m. not (is_one t names m)) s)
upto_scoped t wanted ends names only among at_html at_template no_cells [] scope st = absurd st
upto_scoped t wanted ends names only among at_html at_template no_cells (n ∷ ns) scope st =
    by (is_one t names n) (wanted n) (ends n) refl refl refl scope st (λ more rest. upto_scoped t wanted ends names only among at_html
    at_template no_cells ns more rest)
  where
    ls : List Label
    ls = labels t.nodes

    there : IsAt (λ l. true) ls n
    there = valid Inside ls n ns st

    so : IsAt plain ls n → is_one t names n ≡ true → IsAt loose ls n
    so p e = at_both plain (λ l. not (is_among l.name cells)) loose loose_from_plain ls n p (only_apart names cells no_cells t n there e)

    no_template : ends n ≡ false → IsAt (λ l. not (is_among l.name (codes "template" ∷ []))) ls n
    no_template e = at_kind (λ l. true) (λ l. not (is_among l.name (codes "template" ∷ []))) t.nodes n there
        (test (is_one t (codes "template" ∷ []) n) refl)
      where
        test : (x : Bool) → is_one t (codes "template" ∷ []) n ≡ x → not x ≡ true
        test true f = never (sym e ∙ at_template n (only_named (codes "template" ∷ []) t n there f))
        test false f = refl

    by : (x y z : Bool) → is_one t names n ≡ x → wanted n ≡ y → ends n ≡ z → y || (not z && in_scope wanted ends ns) ≡ true →
        Stands Inside ls (n ∷ ns) →
        (in_scope wanted ends ns ≡ true → Stands Inside ls ns → Stk (Plain (Std Inside false)) ls
        (beyond (λ m. not (is_one t names m)) ns)) →
        Stk (Plain (Std Inside false)) ls (elim (not x) as (λ _. List ℕ) [
          | true ↦ beyond (λ m. not (is_one t names m)) ns
          | false ↦ n ∷ ns
        ])
    by false true z e f g k stands go = never (sym e ∙ among n f)
    by false false true e f g k stands go = cc
    by false false false e f g k (inl a) go = never (sym g ∙ at_html n a.0)
    by false false false e f g k (inr (inl a)) go = never (sym g ∙ at_template n a.1)
    by false false false e f g k (inr (inr a)) go = go k a.1
    by true true z e f g k stands go = (so (only n there f) e, (plain_popped Inside ls n ns (only n there f) stands, λ c. never c))
    by true false true e f g k stands go = cc
    by true false false e f g k (inl a) go = never (sym g ∙ at_html n a.0)
    by true false false e f g k (inr (inl a)) go = never (sym g ∙ at_template n a.1)
    by true false false e f g k (inr (inr a)) go = (
      so (at_both (allowed Inside) (λ l. not (is_among l.name (codes "template" ∷ []))) plain (plain_from Inside) ls n a.0
          (no_template g)) e,
      (a.1, λ c. never c),
    )

-- until a template is popped
pub past_template : (t : GrowingTree) (s : List ℕ) → list_any (is_one t (codes "template" ∷ [])) s ≡ true →
    Stands Inside (labels t.nodes) s →
    Stands Inside (labels t.nodes) (past (is_one t (codes "template" ∷ [])) s) ⊎ IsHead (labels t.nodes)
    (past (is_one t (codes "template" ∷ [])) s)
past_template t [] any st = absurd st
past_template t (n ∷ ns) any st = by (is_one t (codes "template" ∷ []) n) refl any st (λ more rest. past_template t ns more rest)
  where
    ls : List Label
    ls = labels t.nodes

    T : ℕ → Bool
    T m = is_one t (codes "template" ∷ []) m

    by : (x : Bool) → T n ≡ x → x || list_any T ns ≡ true → Stands Inside ls (n ∷ ns) → (list_any T ns ≡ true → Stands Inside ls ns →
        Stands Inside ls (past T ns) ⊎ IsHead ls (past T ns)) →
        Stands Inside ls (elim x as (λ _. List ℕ) [ true ↦ ns | false ↦ past T ns ]) ⊎ IsHead ls
        (elim x as (λ _. List ℕ) [ true ↦ ns | false ↦ past T ns ])
    by true e k (inl a) go = absurd (never_at (named (codes "template" ∷ [])) html (λ l f g. clash l.name f g) ls n
        (only_named (codes "template" ∷ []) t n (any_valid html ls n a.0) e) a.0)
      where
        clash : (name : List ℕ) → is_among name (codes "template" ∷ []) ≡ true → is_among name (codes "html" ∷ []) ≡ true → ⊥
        clash name f g = opposite (is_among name (codes "html" ∷ [])) (among_apart_name name (codes "template" ∷ []) (codes "html" ∷ [])
            refl f) g
    by true e k (inr (inl a)) go = inr a.2
    by true e k (inr (inr a)) go = inl a.1
    by false e k (inl a) go = never (sym (ap (list_any T) a.1) ∙ k)
    by false e k (inr (inl a)) go = never (sym e ∙ (among_more (key_in (kind_of t n)) (codes "template" ∷ []) (codes "template" ∷ []) refl
        (kind_at template t.nodes n a.1)))
    by false e k (inr (inr a)) go = go k a.1

-- foreign elements are loose
foreign_kind : (kind : Kind) → is_html (space_in kind) ≡ false → not (is_among (key_in kind) fixed) ≡ true
foreign_kind (ElementNode Html name attrs contents) h = cc
foreign_kind (ElementNode Svg name attrs contents) h = refl
foreign_kind (ElementNode MathMl name attrs contents) h = refl
foreign_kind (TextNode text) h = refl
foreign_kind (CommentNode text) h = refl
foreign_kind (DoctypeNode d) h = refl
foreign_kind DocumentNode h = refl
foreign_kind ContentsNode h = refl

not_so : (x : Bool) → not x ≡ true → x ≡ false
not_so true h = cc
not_so false h = refl

pub only_foreign : (t : GrowingTree) → Only loose (labels t.nodes) (is_foreign t)
only_foreign t n there h = at_kind (λ l. true) loose t.nodes n there
    (foreign_kind (kind_of t n) (not_so (is_html (space_in (kind_of t n))) (first (not (is_html (space_in (kind_of t n)))) _
    (first _ _ h))))
  where
    first : (x y : Bool) → x && y ≡ true → x ≡ true
    first true y h = refl
    first false y h = cc

-- the token's element comes before those of HTML, and is popped with those above it
pub past_own : (k : Sort) (c : Bool) (t : GrowingTree) (name : List ℕ) (s : List ℕ) → own_before_html t name s ≡ true →
    Stk (Std k c) (labels t.nodes) s →
    Stk (Std k c) (labels t.nodes) (past (λ n. bytes_eq (lower (local_of t n)) name) s)
past_own k c t name [] h st = absurd st.0
past_own k c t name (n ∷ ns) h st = by (is_html (space_in (kind_of t n))) (bytes_eq (lower (local_of t n)) name) refl h
    (λ more rest. past_own k c t name ns more rest)
  where
    ls : List Label
    ls = labels t.nodes

    popped : is_html (space_in (kind_of t n)) ≡ false → Stk (Std k c) ls ns
    popped e = (plain_popped k ls n ns (loose_plain ls n l) st.0, λ k. rest (is_at cell ls n) refl (st.1 k))
      where
        l : IsAt loose ls n
        l = at_kind (λ l. true) loose t.nodes n (valid k ls n ns st.0) (foreign_kind (kind_of t n) e)

        rest : (x : Bool) → is_at cell ls n ≡ x → x || list_any (is_at cell ls) ns ≡ true → Has cell ls ns
        rest true f g = absurd (loose_no_cell ls n l f)
        rest false f g = g

    by : (x y : Bool) → is_html (space_in (kind_of t n)) ≡ x → elim x as (λ _. Bool) [
      | true ↦ false
      | false ↦ y || own_before_html t name ns
    ] ≡ true →
        (own_before_html t name ns ≡ true → Stk (Std k c) ls ns → Stk (Std k c) ls (past (λ m. bytes_eq (lower (local_of t m)) name) ns)) →
        Stk (Std k c) ls (elim y as (λ _. List ℕ) [ true ↦ ns | false ↦ past (λ m. bytes_eq (lower (local_of t m)) name) ns ])
    by true y e g go = cc
    by false true e g go = popped e
    by false false e g go = go g (popped e)

-- ---- any other end tag

-- what is found is no element of the end of the stack
other_allowed : (t : GrowingTree) (name : List ℕ) (n : ℕ) → not (is_among name (codes "html" ∷ codes "template" ∷ [])) ≡ true →
    (s : List ℕ) → Stands Inside (labels t.nodes) s → ends_other t name s ≡ Some n → IsAt (allowed Inside) (labels t.nodes) n
other_allowed t name n ok [] st e = absurd st
other_allowed t name n ok (m ∷ ms) st e = by (is_one t (name ∷ []) m) (is_one t special m) refl refl e st
    (λ more rest. other_allowed t name n ok ms rest more)
  where
    ls : List Label
    ls = labels t.nodes

    clash : (one : List ℕ) → is_among one (codes "html" ∷ codes "template" ∷ []) ≡ true → is_one t (name ∷ []) m ≡ true →
        IsAt (named (one ∷ [])) ls m → ⊥
    clash one is f at = opposite (is_among name (codes "html" ∷ codes "template" ∷ [])) ok
        (among_more name (one ∷ []) (codes "html" ∷ codes "template" ∷ []) (ap (λ x. x && true) is)
        (subst (λ k. is_among k (one ∷ []) ≡ true) (key_is f) (kind_at (named (one ∷ [])) t.nodes m at)))
      where
        key_is : is_one t (name ∷ []) m ≡ true → key_in (kind_of t m) ≡ name
        key_is g = by_eq (bytes_eq (key_in (kind_of t m)) name) refl g
          where
            by_eq : (x : Bool) → bytes_eq (key_in (kind_of t m)) name ≡ x → x || false ≡ true → key_in (kind_of t m) ≡ name
            by_eq true h k = (bytes_eq-Decides (key_in (kind_of t m)) name).0 h
            by_eq false h k = cc

    special_so : (one : List ℕ) → is_among one special ≡ true → IsAt (named (one ∷ [])) ls m → is_one t special m ≡ true
    special_so one is at = among_more (key_in (kind_of t m)) (one ∷ []) special (ap (λ x. x && true) is)
        (kind_at (named (one ∷ [])) t.nodes m at)

    by : (x y : Bool) → is_one t (name ∷ []) m ≡ x → is_one t special m ≡ y →
        elim x as (λ _. Option ℕ) [
          | true ↦ Some m
          | false ↦ elim y as (λ _. Option ℕ) [ true ↦ None | false ↦ ends_other t name ms ]
        ] ≡ Some n →
        Stands Inside ls (m ∷ ms) → (ends_other t name ms ≡ Some n → Stands Inside ls ms → IsAt (allowed Inside) ls n) →
        IsAt (allowed Inside) ls n
    by true y f g k (inl a) go = absurd (clash (codes "html") refl f a.0)
    by true y f g k (inr (inl a)) go = absurd (clash (codes "template") refl f a.1)
    by true y f g k (inr (inr a)) go = subst (λ i. IsAt (allowed Inside) ls i) (same_Some m n k) a.0
    by false true f g k stands go = cc
    by false false f g k (inl a) go = never (sym g ∙ special_so (codes "html") refl a.0)
    by false false f g k (inr (inl a)) go = never (sym g ∙ special_so (codes "template") refl a.1)
    by false false f g k (inr (inr a)) go = go k a.1

pub good_other_end : (claim : Bool) (name : List ℕ) (t : GrowingTree) → not (is_among name (codes "html" ∷ codes "template" ∷ [])) ≡ true →
    (claim ≡ true → not (is_among name cells) ≡ true) →
    Good Inside claim t → Good Inside claim (any_other_end name t)
good_other_end claim name t ok no_cells good = by (ends_other t name t.stack) refl
  where
    by : (o : Option ℕ) → ends_other t name t.stack ≡ o → Good Inside claim (closed_other o name t)
    by None e = good
    by (Some n) e = (
      past_stands Inside (labels t.nodes) (nat_eq_to n) (only_plain_this n p) (beyond I t.stack)
          (in_scope_any (nat_eq_to n) (is_one t special) (beyond I t.stack) scoped)
          (beyond_stands Inside (labels t.nodes) I only_implied t.stack good.0),
      λ c. past_has cell (labels t.nodes) (nat_eq_to n) (is_one t special) (λ m is. cell_is_one t special refl m is)
          (λ m is w. no_cell_named c m is w) (beyond I t.stack) scoped
          (beyond_has cell (labels t.nodes) I (λ m is h. loose_no_cell (labels t.nodes) m (only_apart implied fixed refl t m
          (any_valid cell (labels t.nodes) m is) (both (is_one t implied m) _ h).0) is) t.stack (good.1 c)),
      good.2,
    )
      where
        nat_eq_to : ℕ → ℕ → Bool
        nat_eq_to a = nat_eq a

        I : ℕ → Bool
        I m = is_one t implied m && not (is_one t (name ∷ []) m)

        found : (in_scope (nat_eq_to n) (is_one t special) t.stack ≡ true) × (is_one t (name ∷ []) n ≡ true)
        found = ends_scoped t name n t.stack e

        only_implied : Only plain (labels t.nodes) I
        only_implied m there h = loose_plain (labels t.nodes) m (only_apart implied fixed refl t m there
            (both (is_one t implied m) (not (is_one t (name ∷ []) m)) h).0)

        scoped : in_scope (nat_eq_to n) (is_one t special) (beyond I t.stack) ≡ true
        scoped = in_scope_beyond (nat_eq_to n) (is_one t special) I
            (λ m h w. opposite (is_one t (name ∷ []) m) (both (is_one t implied m) (not (is_one t (name ∷ []) m)) h).1
            (subst (λ i. is_one t (name ∷ []) i ≡ true) (same_number n m w) found.1)) t.stack found.0

        not_template : (m : ℕ) → IsAt (λ l. true) (labels t.nodes) m → is_one t (name ∷ []) m ≡ true →
            IsAt (λ l. not (is_among l.name (codes "template" ∷ []))) (labels t.nodes) m
        not_template m there h = only_apart (name ∷ []) (codes "template" ∷ []) (one_apart t name (codes "template" ∷ [])
            (fewer name (codes "template" ∷ []) (codes "html" ∷ codes "template" ∷ []) refl ok)) t m there h

        a : IsAt (allowed Inside) (labels t.nodes) n
        a = other_allowed t name n ok t.stack good.0 e

        p : IsAt plain (labels t.nodes) n
        p = at_both (allowed Inside) (λ l. not (is_among l.name (codes "template" ∷ []))) plain (plain_from Inside) (labels t.nodes) n a
            (not_template n (any_valid (allowed Inside) (labels t.nodes) n a) found.1)

        only_plain_this : (m : ℕ) → IsAt plain (labels t.nodes) m → Only plain (labels t.nodes) (nat_eq_to m)
        only_plain_this m q i there h = subst (λ j. IsAt plain (labels t.nodes) j) (same_number m i h) q

        no_cell_named : claim ≡ true → (m : ℕ) → IsAt cell (labels t.nodes) m → nat_eq_to n m ≡ true → ⊥
        no_cell_named c m is w = opposite (is_one t cells m) (named_apart (name ∷ []) cells (one_apart t name cells (no_cells c))
            (label_of (kind_of t m))
            (subst (λ i. is_one t (name ∷ []) i ≡ true) (same_number n m w) found.1)) (kind_at cell t.nodes m is)
