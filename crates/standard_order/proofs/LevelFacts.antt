-- What the levels say of a state, and that a state keeps to them.
use Rattle.std.specs.Prelude.{◌≡◌, ◌||◌, ◌⊎◌, refl, ℕ, Bool, true, false, not, List, [], ◌∷◌, Option, None, Some, codes, reverse}
use Rattle.std.proofs.Common.{inl, inr}
use Rattle.std.specs.List.{list_all, list_any}
use mathlib.Core.Path.{◌∙◌, sym, ap, subst}
use Rattle.standard_tokens.specs.Tokens.{AChar, AComment, ADoctype, AStart, AnEnd, AnEof, Token}
use Rattle.standard_trees.specs.RuleWords.{Action, AddToPending, AdjustForeignAttributes, AdjustMathmlAttributes, AdjustSvgAttributes}
use Rattle.standard_trees.specs.RuleWords.{AppendDoctype, EmptyPending, FramesetNotOk, InsertCharacter, InsertComment}
use Rattle.standard_trees.specs.RuleWords.{InsertCommentInDocument}
use Rattle.standard_trees.specs.RuleWords.{InsertCommentInHtml, InsertPending, InsertReplacement, MergeAttributesIntoBody}
use Rattle.standard_trees.specs.RuleWords.{MergeAttributesIntoHtml, RemoveBody, SetQuirks, SetQuirksByDoctype, SkipNextLineFeed, Stop}
use Rattle.standard_trees.specs.RuleWords.{TokenizerTo}
use Rattle.standard_trees.specs.RuleWords.{ClearListToMarker, FosterOff, FosterOn, ListMarker}
use Rattle.standard_trees.specs.RuleWords.{AfterHead, BeforeHead, BeforeHtml}
use Rattle.standard_trees.specs.RuleWords.{InTableText, Initial, Mode, Text}
use Rattle.standard_trees.specs.TreeStore.{DoctypeNode, EndOf, Node, CommentNode, removed}
use Rattle.standard_trees.specs.GrowingTree.{Entry, FormAt, FormOfContext, FormPointer, GrowingTree, Marker, NoForm, has_in_scope, is_among, is_one, own_before_html, place}
use Rattle.standard_trees.specs.GrowingTree.{is_single, top, topmost, second, with_char, with_chars, with_comment}
use Rattle.standard_trees.specs.Formatting.{cleared}
use Rattle.standard_trees.specs.Building.{Building, body_removed, char_of, comment_of, names_for, own_name, perform, with_doctype}
use Rattle.standard_trees.specs.Building.{with_tree}
use Rattle.standard_order.proofs.Labels.{Grows, Is as IsAt, Label, OnlyNodes, grows_at, grows_same, labels, labels_removed, only_char}
use Rattle.standard_order.proofs.Labels.{only_chars, only_created_at, only_merged, only_same}
use Rattle.standard_order.proofs.StandingStacks.{Closed, Framed, Inside, IsHead, IsRoot, Sort, Stands, both, cell, cells, has_grown}
use Rattle.standard_order.proofs.StandingStacks.{head_grown, html, loose, loose_plain, pushed_on, plain_allowed, stands_grown}
use Rattle.standard_order.proofs.StandingStacks.{allowed, fewer, opposite}
use Rattle.standard_order.proofs.GoodTrees.{AllListed, Celled, PointersOf, held, held_loose, is_whole, pointers_grown}
use Rattle.standard_order.proofs.GoodEnds.{cleared_listed}
use Rattle.standard_order.proofs.Levels.{Above, Bare, Before, Behind, Exact, Fine, Fixed, Foreign, Frames, Head, HeadMade, Held, In, Late}
use Rattle.standard_order.proofs.Levels.{Level, Loose, Never, Nothing, Nowhere, Of, OfHeld, OfPlain, Opened, OpenedFree, Plain, Rel, Root}
use Rattle.standard_order.proofs.Levels.{RootMade}
use Rattle.standard_order.proofs.Levels.{Scoped, Shape, Sorted, Std, TableText, TextMode, Where, has_sort, is_cell, is_content, is_first}
use Rattle.standard_order.proofs.Levels.{is_framed, is_in, is_inside, is_mild, is_still, own, takes_mild, takes_still, weak, same_sort}
use Rattle.standard_order.proofs.StandingStacks.{framing, on_head}
use Rattle.standard_order.proofs.Labels.{holder, is_at, never_at, weaker_at}

-- ---- shapes

-- the stack has that shape
abbrev pub Stk : Shape → List Label → List ℕ → Type 0
Stk Nothing ls s = ⊥
Stk Root ls s = IsRoot ls s
Stk Head ls s = IsHead ls s
Stk Loose ls s = Stands Inside ls s ⊎ IsHead ls s
Stk (Std k claim) ls s = Stands k ls s × Celled claim ls s
Stk (Held shape) ls [] = ⊥
Stk (Held shape) ls (n ∷ s) = IsAt held ls n × Stk shape ls s
Stk (Plain shape) ls [] = ⊥
Stk (Plain shape) ls (n ∷ s) = IsAt loose ls n × Stk shape ls s
Stk (Above shape) ls [] = ⊥
Stk (Above shape) ls (n ∷ s) = Stk shape ls s

pub root_grown : (old new : List Node) → Grows old new → (s : List ℕ) → IsRoot (labels old) s → IsRoot (labels new) s
root_grown old new grows [] h = h
root_grown old new grows (r ∷ []) h = grows_at html old new grows r h
root_grown old new grows (r ∷ n ∷ ns) h = h

pub stk_grown : (shape : Shape) (old new : List Node) → Grows old new → (s : List ℕ) → Stk shape (labels old) s → Stk shape (labels new) s
stk_grown Nothing old new grows s h = h
stk_grown Root old new grows s h = root_grown old new grows s h
stk_grown Head old new grows s h = head_grown old new grows s h
stk_grown Loose old new grows s (inl h) = inl (stands_grown Inside old new grows s h)
stk_grown Loose old new grows s (inr h) = inr (head_grown old new grows s h)
stk_grown (Std k claim) old new grows s h = (stands_grown k old new grows s h.0, λ c. has_grown cell old new grows s (h.1 c))
stk_grown (Held shape) old new grows [] h = h
stk_grown (Held shape) old new grows (n ∷ s) h = (grows_at held old new grows n h.0, stk_grown shape old new grows s h.1)
stk_grown (Plain shape) old new grows [] h = h
stk_grown (Plain shape) old new grows (n ∷ s) h = (grows_at loose old new grows n h.0, stk_grown shape old new grows s h.1)
stk_grown (Above shape) old new grows [] h = h
stk_grown (Above shape) old new grows (n ∷ s) h = stk_grown shape old new grows s h

-- and what the list of active formatting elements and the pointers name are elements that they may name, of which the head element is one
abbrev pub TreeIs : Shape → GrowingTree → Type 0
TreeIs shape t = Stk shape (labels t.nodes) t.stack × PointersOf t

pub tree_nodes : (shape : Shape) (old new : GrowingTree) → OnlyNodes old new → TreeIs shape old → TreeIs shape new
tree_nodes shape old new only h = subst (TreeIs shape) (sym only.only) (
  stk_grown shape old.nodes new.nodes only.grows old.stack h.0,
  pointers_grown old.nodes new.nodes only.grows old.listed old.form old.found old.head old.context h.1,
)

abbrev pub is_at_node : FormPointer → Bool
is_at_node (FormAt n) = true
is_at_node FormOfContext = false
is_at_node NoForm = false

-- before there is a head element
abbrev pub Early : GrowingTree → Type 0
Early t = (t.listed ≡ []) × (is_at_node t.form ≡ false) × (t.found ≡ None) × (is_whole t.context ≡ true)

abbrev pub EarlyIs : (List Label → List ℕ → Type 0) → GrowingTree → Type 0
EarlyIs shape t = shape (labels t.nodes) t.stack × Early t

abbrev pub IsBare : List Label → List ℕ → Type 0
IsBare ls s = s ≡ []

-- ---- levels

-- no end tag of a cell
abbrev pub keeps_cells : Token → Bool
keeps_cells (AnEnd name) = not (is_among name cells)
keeps_cells _ = true

abbrev pub sorted_mode : Mode → Bool
sorted_mode AfterHead = true
sorted_mode mode = is_inside mode || is_framed mode

abbrev pub Is : Where → Mode → Token → Type 0
Is (Exact one) mode token = mode ≡ one
Is (In c) mode token = (is_inside mode ≡ true) × (c ≡ false → is_cell mode ≡ false) × (is_cell mode ≡ true → keeps_cells token ≡ true)
Is Frames mode token = is_framed mode ≡ true
Is Sorted mode token = sorted_mode mode ≡ true
Is Nowhere mode token = Unit {0}

abbrev pub shape_for : Rel → Mode → Shape
shape_for Of mode = own mode
shape_for OfHeld mode = Held (own mode)
shape_for OfPlain mode = Plain (own mode)
shape_for (Fixed shape) mode = shape

-- the template insertion modes are those of templates' content
abbrev pub Content : List Mode → Type 0
Content modes = list_all is_content modes ≡ true

abbrev pub LateAt : Where → Rel → Bool → Building → Type 0
LateAt where_ rel kept b = Is where_ b.mode b.token × Content b.template_modes × TreeIs (shape_for rel b.mode) b.tree × (kept ≡ true →
    b.original ≡ b.mode)

-- an element in HTML other than `html`
abbrev pub inner : Label → Bool
inner l = holder (codes "html" ∷ []) l

-- how the stack ends where a turn begins in that mode
abbrev pub TurnIs : Mode → Building → Type 0
TurnIs Initial b = EarlyIs IsBare b.tree
TurnIs BeforeHtml b = EarlyIs IsBare b.tree
TurnIs BeforeHead b = EarlyIs IsRoot b.tree
TurnIs Text b = TreeIs (Held (own b.original)) b.tree
TurnIs InTableText b = TreeIs (own b.original) b.tree × (is_inside b.original ≡ true) × IsAt inner (labels b.tree.nodes)
    (top b.tree.stack)
TurnIs mode b = TreeIs (own mode) b.tree

-- a turn may begin in that state
abbrev pub Turn : Building → Type 0
Turn b = Content b.template_modes × TurnIs b.mode b

-- what a level says of a state
abbrev pub At : Level → Building → Type 0
At Fine b = Turn b
At Bare b = (is_first b.mode ≡ true) × Content b.template_modes × EarlyIs IsBare b.tree
At RootMade b = Content b.template_modes × EarlyIs IsRoot b.tree
At Before b = (b.mode ≡ BeforeHead) × Content b.template_modes × EarlyIs IsRoot b.tree
At HeadMade b = Content b.template_modes × EarlyIs IsHead b.tree
At TextMode b = (b.mode ≡ Text) × Content b.template_modes × TreeIs (Held (own b.original)) b.tree
At TableText b = (b.mode ≡ InTableText) × Content b.template_modes × TreeIs (own b.original) b.tree × (is_inside b.original ≡ true) ×
    IsAt inner (labels b.tree.nodes) (top b.tree.stack)
At Behind b = Content b.template_modes × TreeIs (own b.original) b.tree
At Never b = ⊥
At (Late place rel kept) b = LateAt place rel kept b
At (Scoped place kind names) b = (is_in place ≡ true) × LateAt place Of false b ×
    (has_in_scope kind (names_for names b.token) b.tree ≡ true)
At (Opened place) b = (is_in place ≡ true) × LateAt place Of false b × (list_any (is_one b.tree (codes "template" ∷ []))
    b.tree.stack ≡ true)
At (OpenedFree place) b = (is_in place ≡ true) × LateAt place (Fixed (Std Inside false)) false b ×
    (list_any (is_one b.tree (codes "template" ∷ [])) b.tree.stack ≡ true)
At (Foreign place) b = (has_sort place ≡ true) × LateAt place Of false b × (own_before_html b.tree (own_name b.token) b.tree.stack ≡ true)

-- ---- stacks with more than one element

pub never_empty : (shape : Shape) (ls : List Label) → Stk shape ls [] → ⊥
never_empty Nothing ls h = h
never_empty Root ls h = h
never_empty Head ls h = h
never_empty Loose ls (inl h) = h
never_empty Loose ls (inr h) = h
never_empty (Std k claim) ls h = h.0
never_empty (Held shape) ls h = h
never_empty (Plain shape) ls h = h
never_empty (Above shape) ls h = h

pub held_more : (shape : Shape) (ls : List Label) (s : List ℕ) → Stk (Held shape) ls s → is_single s ≡ false
held_more shape ls [] h = absurd h
held_more shape ls (n ∷ []) h = absurd (never_empty shape ls h.1)
held_more shape ls (n ∷ m ∷ ns) h = refl

pub head_more : (ls : List Label) (s : List ℕ) → IsHead ls s → is_single s ≡ false
head_more ls [] h = absurd h
head_more ls (n ∷ []) h = absurd h.1
head_more ls (n ∷ m ∷ ns) h = refl

pub inner_more : (k : Sort) (ls : List Label) (s : List ℕ) → Stands k ls s → IsAt inner ls (top s) → is_single s ≡ false
inner_more k ls [] st h = absurd st
inner_more k ls (n ∷ []) (inl root) h = absurd (never_at html inner (λ l e f. opposite (html l) (both l.html (not (html l)) f).1 e) ls n root.0 h)
inner_more k ls (n ∷ []) (inr (inl a)) h = absurd a.2
inner_more k ls (n ∷ []) (inr (inr a)) h = absurd a.1
inner_more k ls (n ∷ m ∷ ns) st h = refl

-- ---- weaker shapes

sort_weaker : (k j : Sort) → same_sort k j ≡ true → (l : Label) → allowed k l ≡ true → allowed j l ≡ true
sort_weaker Closed Closed h l a = a
sort_weaker Closed Framed h l a = fewer l.name (codes "html" ∷ codes "head" ∷ codes "template" ∷ []) framing refl a
sort_weaker Closed Inside h l a = fewer l.name (codes "html" ∷ codes "head" ∷ codes "frameset" ∷ []) framing refl a
sort_weaker Framed Framed h l a = a
sort_weaker Inside Inside h l a = a
sort_weaker Framed Closed h l a = cc
sort_weaker Framed Inside h l a = cc
sort_weaker Inside Closed h l a = cc
sort_weaker Inside Framed h l a = cc

pub stands_weaker : (k j : Sort) → same_sort k j ≡ true → (ls : List Label) (s : List ℕ) → Stands k ls s → Stands j ls s
stands_weaker k j h ls [] s = s
stands_weaker k j h ls (n ∷ ns) (inl at_html) = inl at_html
stands_weaker k j h ls (n ∷ ns) (inr (inl at_head)) = inr (inl (on k j h at_head.0, at_head.1, at_head.2))
  where
    on : (k j : Sort) → same_sort k j ≡ true → on_head k ≡ true → on_head j ≡ true
    on Closed j h o = cc
    on Framed j h o = cc
    on Inside Inside h o = refl
    on Inside Closed h o = cc
    on Inside Framed h o = cc
stands_weaker k j h ls (n ∷ ns) (inr (inr above)) =
    inr (inr (weaker_at (allowed k) (allowed j) (sort_weaker k j h) ls n above.0, stands_weaker k j h ls ns above.1))

claim_weaker : (claim other : Bool) → not other || claim ≡ true → other ≡ true → claim ≡ true
claim_weaker claim true h o = h
claim_weaker claim false h o = cc

root_stands : (k : Sort) (ls : List Label) (s : List ℕ) → IsRoot ls s → Stands k ls s
root_stands k ls [] h = h
root_stands k ls (r ∷ []) h = inl (h, refl)
root_stands k ls (r ∷ n ∷ ns) h = absurd h

no_claim_needed : (claim : Bool) (ls : List Label) (s : List ℕ) → not claim ≡ true → Celled claim ls s
no_claim_needed true ls s h c = cc
no_claim_needed false ls s h c = cc

with_more : (x : Bool) {y : Bool} → y ≡ true → x || y ≡ true
with_more true h = refl
with_more false h = h

pub weak_stk : (one other : Shape) → weak one other ≡ true → (ls : List Label) (s : List ℕ) → Stk one ls s → Stk other ls s
weak_stk Root Root h ls s st = st
weak_stk Root (Std k claim) h ls s st = (root_stands k ls s st, no_claim_needed claim ls s h)
weak_stk Head Head h ls s st = st
weak_stk Head Loose h ls s st = inr st
weak_stk Loose Loose h ls s st = st
weak_stk (Std k claim) (Std j other) h ls s st =
    let two : (same_sort k j ≡ true) × (not other || claim ≡ true) = both (same_sort k j) (not other || claim) h in
    (stands_weaker k j two.0 ls s st.0, λ o. st.1 (claim_weaker claim other two.1 o))
weak_stk (Std Inside claim) Loose h ls s st = inl st.0
weak_stk (Held one) (Held other) h ls [] st = st
weak_stk (Held one) (Held other) h ls (n ∷ s) st = (st.0, weak_stk one other h ls s st.1)
weak_stk (Held one) (Std k claim) h ls [] st = absurd st
weak_stk (Held one) (Std k claim) h ls (n ∷ s) st =
    let below : Stands k ls s × Celled claim ls s = weak_stk one (Std k claim) h ls s st.1 in (
      pushed_on k ls n s (plain_allowed k ls n (loose_plain ls n (held_loose ls n st.0))) below.0,
      λ c. with_more (is_at cell ls n)
          (below.1 c),
    )
weak_stk (Plain one) (Std k claim) h ls [] st = absurd st
weak_stk (Plain one) (Std k claim) h ls (n ∷ s) st =
    let below : Stands k ls s × Celled claim ls s = weak_stk one (Std k claim) h ls s st.1 in
    (pushed_on k ls n s (plain_allowed k ls n (loose_plain ls n st.0)) below.0, λ c. with_more (is_at cell ls n) (below.1 c))
weak_stk Nothing other h ls s st = absurd st
weak_stk Root Nothing h ls s st = cc
weak_stk Root Head h ls s st = cc
weak_stk Root Loose h ls s st = cc
weak_stk Root (Held o) h ls s st = cc
weak_stk Root (Plain o) h ls s st = cc
weak_stk Root (Above o) h ls s st = cc
weak_stk Head Nothing h ls s st = cc
weak_stk Head Root h ls s st = cc
weak_stk Head (Std k c) h ls s st = cc
weak_stk Head (Held o) h ls s st = cc
weak_stk Head (Plain o) h ls s st = cc
weak_stk Head (Above o) h ls s st = cc
weak_stk Loose Nothing h ls s st = cc
weak_stk Loose Root h ls s st = cc
weak_stk Loose Head h ls s st = cc
weak_stk Loose (Std k c) h ls s st = cc
weak_stk Loose (Held o) h ls s st = cc
weak_stk Loose (Plain o) h ls s st = cc
weak_stk Loose (Above o) h ls s st = cc
weak_stk (Std Closed claim) Loose h ls s st = cc
weak_stk (Std Framed claim) Loose h ls s st = cc
weak_stk (Std k claim) Nothing h ls s st = cc
weak_stk (Std k claim) Root h ls s st = cc
weak_stk (Std k claim) Head h ls s st = cc
weak_stk (Std k claim) (Held o) h ls s st = cc
weak_stk (Std k claim) (Plain o) h ls s st = cc
weak_stk (Std k claim) (Above o) h ls s st = cc
weak_stk (Held one) Nothing h ls s st = cc
weak_stk (Held one) Root h ls s st = cc
weak_stk (Held one) Head h ls s st = cc
weak_stk (Held one) Loose h ls s st = cc
weak_stk (Held one) (Plain o) h ls s st = cc
weak_stk (Held one) (Above o) h ls s st = cc
weak_stk (Plain one) Nothing h ls s st = cc
weak_stk (Plain one) Root h ls s st = cc
weak_stk (Plain one) Head h ls s st = cc
weak_stk (Plain one) Loose h ls s st = cc
weak_stk (Plain one) (Held o) h ls s st = cc
weak_stk (Plain one) (Plain o) h ls s st = cc
weak_stk (Plain one) (Above o) h ls s st = cc
weak_stk (Above one) other h ls s st = cc

-- ---- actions that change nothing that is known

early_nodes : (shape : List Label → List ℕ → Type 0) → ((old new : List Node) → Grows old new → (s : List ℕ) → shape (labels old) s →
    shape (labels new) s) →
    (old new : GrowingTree) → OnlyNodes old new → EarlyIs shape old → EarlyIs shape new
early_nodes shape grown old new only h = subst (EarlyIs shape) (sym only.only) (grown old.nodes new.nodes only.grows old.stack h.0, h.1)

at_nodes : (level : Level) (b : Building) (t : GrowingTree) → takes_still level ≡ true → OnlyNodes b.tree t → At level b →
    At level (with_tree b t)
at_nodes Fine b t h only at = cc
at_nodes Bare b t h only at = (at.0, at.1, early_nodes IsBare (λ o n g s e. e) b.tree t only at.2)
at_nodes RootMade b t h only at = (at.0, early_nodes IsRoot root_grown b.tree t only at.1)
at_nodes Before b t h only at = (at.0, at.1, early_nodes IsRoot root_grown b.tree t only at.2)
at_nodes HeadMade b t h only at = (at.0, early_nodes IsHead head_grown b.tree t only at.1)
at_nodes TextMode b t h only at = (at.0, at.1, tree_nodes (Held (own b.original)) b.tree t only at.2)
at_nodes TableText b t h only at = (
  at.0,
  at.1,
  tree_nodes (own b.original) b.tree t only at.2,
  at.3,
  subst (λ (u : GrowingTree). IsAt inner (labels u.nodes) (top u.stack)) (sym only.only) (grows_at inner b.tree.nodes t.nodes only.grows
      (top b.tree.stack) at.4),
)
at_nodes Behind b t h only at = (at.0, tree_nodes (own b.original) b.tree t only at.1)
at_nodes Never b t h only at = at
at_nodes (Late place rel kept) b t h only at = (at.0, at.1, tree_nodes (shape_for rel b.mode) b.tree t only at.2, at.3)
at_nodes (Scoped place kind names) b t h only at = cc
at_nodes (Opened place) b t h only at = cc
at_nodes (OpenedFree place) b t h only at = cc
at_nodes (Foreign place) b t h only at = cc

doctype_only : (token : Token) (t : GrowingTree) → OnlyNodes t (with_doctype token t)
doctype_only (ADoctype d) t = only_created_at (EndOf 0) (DoctypeNode d) t
doctype_only (AStart name attrs closing) t = only_same t
doctype_only (AnEnd name) t = only_same t
doctype_only (AChar c) t = only_same t
doctype_only (AComment text) t = only_same t
doctype_only AnEof t = only_same t

body_only : (o : Option ℕ) (t : GrowingTree) → OnlyNodes t (body_removed o t)
body_only None t = only_same t
body_only (Some n) t = record { grows = grows_same t.nodes (removed n t.nodes) (labels_removed n t.nodes); only = refl }

-- two states with equal modes, token and tree
abbrev pub Alike : Building → Building → Type 0
Alike b c = (c.mode ≡ b.mode) × (c.original ≡ b.original) × (c.template_modes ≡ b.template_modes) × (c.token ≡ b.token) × (c.tree ≡ b.tree)

late_alike : (place : Where) (rel : Rel) (kept : Bool) (b c : Building) → Alike b c → LateAt place rel kept b → LateAt place rel kept c
late_alike place rel kept b c e at = (
  subst (λ m. Is place m c.token) (sym e.0) (subst (λ t. Is place b.mode t) (sym e.3) at.0),
  subst Content (sym e.2) at.1,
  subst (λ m. TreeIs (shape_for rel m) c.tree) (sym e.0) (subst (λ (t : GrowingTree). TreeIs (shape_for rel b.mode) t) (sym e.4) at.2),
  λ k. e.1 ∙ at.3 k ∙ sym e.0,
)

other : (level : Level) (b c : Building) → Alike b c → takes_still level ≡ true → At level b → At level c
other Fine b c e h at = cc
other Bare b c e h at = (ap is_first e.0 ∙ at.0, subst Content (sym e.2) at.1, subst (EarlyIs IsBare) (sym e.4) at.2)
other RootMade b c e h at = (subst Content (sym e.2) at.0, subst (EarlyIs IsRoot) (sym e.4) at.1)
other Before b c e h at = (e.0 ∙ at.0, subst Content (sym e.2) at.1, subst (EarlyIs IsRoot) (sym e.4) at.2)
other HeadMade b c e h at = (subst Content (sym e.2) at.0, subst (EarlyIs IsHead) (sym e.4) at.1)
other TextMode b c e h at = (
  e.0 ∙ at.0,
  subst Content (sym e.2) at.1,
  subst (λ m. TreeIs (Held (own m)) c.tree) (sym e.1)
      (subst (TreeIs (Held (own b.original))) (sym e.4) at.2),
)
other TableText b c e h at = (
  e.0 ∙ at.0,
  subst Content (sym e.2) at.1,
  subst (λ m. TreeIs (own m) c.tree) (sym e.1) (subst (TreeIs (own b.original)) (sym e.4) at.2),
  ap is_inside e.1 ∙ at.3,
  subst (λ (t : GrowingTree). IsAt inner (labels t.nodes) (top t.stack)) (sym e.4) at.4,
)
other Behind b c e h at = (
  subst Content (sym e.2) at.0,
  subst (λ m. TreeIs (own m) c.tree) (sym e.1) (subst (TreeIs (own b.original))
      (sym e.4) at.1),
)
other Never b c e h at = at
other (Late place rel kept) b c e h at = late_alike place rel kept b c e at
other (Scoped place kind names) b c e h at = cc
other (Opened place) b c e h at = cc
other (OpenedFree place) b c e h at = cc
other (Foreign place) b c e h at = cc

pub still_kept : (level : Level) (action : Action) (b : Building) → is_still action ≡ true → takes_still level ≡ true → At level b →
    At level (perform action b)
unfolding perform
still_kept level InsertCharacter b s h at = at_nodes level b (with_chars (char_of b.token) b.tree) h (only_chars (char_of b.token) b.tree)
    at
still_kept level InsertReplacement b s h at = at_nodes level b (with_char 0xfffd b.tree) h (only_char 0xfffd b.tree) at
still_kept level InsertComment b s h at = at_nodes level b (with_comment (comment_of b.token) (place b.tree) b.tree) h
    (only_created_at (place b.tree) (CommentNode (comment_of b.token)) b.tree) at
still_kept level InsertCommentInDocument b s h at = at_nodes level b (with_comment (comment_of b.token) (EndOf 0) b.tree) h
    (only_created_at (EndOf 0) (CommentNode (comment_of b.token)) b.tree) at
still_kept level InsertCommentInHtml b s h at =
    at_nodes level b (with_comment (comment_of b.token) (EndOf (topmost b.tree.stack)) b.tree) h
    (only_created_at (EndOf (topmost b.tree.stack)) (CommentNode (comment_of b.token)) b.tree) at
still_kept level AppendDoctype b s h at = at_nodes level b (with_doctype b.token b.tree) h (doctype_only b.token b.tree) at
still_kept level MergeAttributesIntoHtml b s h at = at_nodes level b _ h (only_merged (Some (topmost b.tree.stack)) b.attrs b.tree) at
still_kept level MergeAttributesIntoBody b s h at = at_nodes level b _ h (only_merged (second b.tree.stack) b.attrs b.tree) at
still_kept level RemoveBody b s h at = at_nodes level b (body_removed (second b.tree.stack) b.tree) h
    (body_only (second b.tree.stack) b.tree) at
still_kept level InsertPending b s h at = at_nodes level b (with_chars (reverse b.pending) b.tree) h (only_chars (reverse b.pending) b.tree)
    at
still_kept level SetQuirksByDoctype b s h at = other level b _ (refl, refl, refl, refl, refl) h at
still_kept level SetQuirks b s h at = other level b _ (refl, refl, refl, refl, refl) h at
still_kept level FramesetNotOk b s h at = other level b _ (refl, refl, refl, refl, refl) h at
still_kept level (TokenizerTo state) b s h at = other level b _ (refl, refl, refl, refl, refl) h at
still_kept level SkipNextLineFeed b s h at = other level b _ (refl, refl, refl, refl, refl) h at
still_kept level AdjustMathmlAttributes b s h at = other level b _ (refl, refl, refl, refl, refl) h at
still_kept level AdjustSvgAttributes b s h at = other level b _ (refl, refl, refl, refl, refl) h at
still_kept level AdjustForeignAttributes b s h at = other level b _ (refl, refl, refl, refl, refl) h at
still_kept level EmptyPending b s h at = other level b _ (refl, refl, refl, refl, refl) h at
still_kept level AddToPending b s h at = other level b _ (refl, refl, refl, refl, refl) h at
still_kept level Stop b s h at = at
still_kept level _ b s h at = cc

-- ---- the list of active formatting elements, and foster parenting

pub tree_listed : (shape : Shape) (t : GrowingTree) (es : List Entry) → AllListed (labels t.nodes) es → TreeIs shape t →
    TreeIs shape (record t { listed = es })
tree_listed shape t es h at = (
  at.0,
  record {
    entries = h;
    form_is = at.1.form_is;
    found_is = at.1.found_is;
    head_is = at.1.head_is;
  },
)

at_listed : (level : Level) (b : Building) (es : List Entry) → ((h : AllListed (labels b.tree.nodes) b.tree.listed) →
    AllListed (labels b.tree.nodes) es) → takes_mild level ≡ true → At level b →
    At level (with_tree b (record b.tree { listed = es }))
at_listed TableText b es f h at = (at.0, at.1, tree_listed (own b.original) b.tree es (f at.2.1.entries) at.2, at.3, at.4)
at_listed Behind b es f h at = (at.0, tree_listed (own b.original) b.tree es (f at.1.1.entries) at.1)
at_listed Never b es f h at = at
at_listed (Late place rel kept) b es f h at = (at.0, at.1, tree_listed (shape_for rel b.mode) b.tree es (f at.2.1.entries) at.2, at.3)
at_listed Fine b es f h at = cc
at_listed Bare b es f h at = cc
at_listed RootMade b es f h at = cc
at_listed Before b es f h at = cc
at_listed HeadMade b es f h at = cc
at_listed TextMode b es f h at = cc
at_listed (Scoped place kind names) b es f h at = cc
at_listed (Opened place) b es f h at = cc
at_listed (OpenedFree place) b es f h at = cc
at_listed (Foreign place) b es f h at = cc

at_foster : (level : Level) (b : Building) (x : Bool) → takes_mild level ≡ true → At level b →
    At level (with_tree b (record b.tree { fostering = x }))
at_foster TableText b x h at = at
at_foster Behind b x h at = at
at_foster Never b x h at = at
at_foster (Late place rel kept) b x h at = at
at_foster Fine b x h at = cc
at_foster Bare b x h at = cc
at_foster RootMade b x h at = cc
at_foster Before b x h at = cc
at_foster HeadMade b x h at = cc
at_foster TextMode b x h at = cc
at_foster (Scoped place kind names) b x h at = cc
at_foster (Opened place) b x h at = cc
at_foster (OpenedFree place) b x h at = cc
at_foster (Foreign place) b x h at = cc

pub mild_kept : (level : Level) (action : Action) (b : Building) → is_mild action ≡ true → takes_mild level ≡ true → At level b →
    At level (perform action b)
unfolding perform
mild_kept level ListMarker b s h at = at_listed level b (Marker ∷ b.tree.listed) (λ e. e) h at
mild_kept level ClearListToMarker b s h at = at_listed level b (cleared b.tree.listed) (cleared_listed (labels b.tree.nodes) b.tree.listed)
    h at
mild_kept level FosterOn b s h at = at_foster level b true h at
mild_kept level FosterOff b s h at = at_foster level b false h at
mild_kept level _ b s h at = cc
