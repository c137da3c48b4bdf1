-- The adoption agency algorithm leaves the children of the Document as they are.
use Rattle.std.specs.Prelude.{◌≡◌, ◌&&◌, ◌||◌, refl, ℕ, zero, suc, Bool, true, false, not, List, [], ◌∷◌, Option, None, Some, cond, drop, map}
use Rattle.std.specs.Prelude.{nat_eq, nat_lt}
use Rattle.std.specs.List.{list_all}
use mathlib.Core.Path.{◌∙◌, sym, ap, subst}
use Rattle.std.proofs.lemmas.Option.{same_Some}
use Rattle.standard_trees.specs.NameLists.{implied, special}
use Rattle.standard_trees.specs.RuleWords.{Scope}
use Rattle.standard_trees.specs.TreeStore.{EndOf, Html, Node, Place, changed_at, is_member, node_at, put_at, without}
use Rattle.standard_trees.specs.GrowingTree.{GrowingTree, current, ends_scope, fresh, implied_of, in_scope, is_one, past, place_in}
use Rattle.standard_trees.specs.GrowingTree.{put, top, unstacked, with_stack}
use Rattle.standard_trees.specs.Formatting.{Climb, adopt, adopted_by, adopted_for, adopted_once, adoption, any_other_end, at_bookmark, attrs_of}
use Rattle.standard_trees.specs.Formatting.{before_in, behind_in, climb, climb_with, closed_other, copied, ends_other, is_listed, last_listed}
use Rattle.standard_trees.specs.Formatting.{last_special, local_of, marked, replaced, replaced_node, stacked_below, unlisted, wrapped}
use Rattle.standard_order.proofs.Labels.{Grows, Is, grows_at, labels}
use Rattle.standard_order.proofs.StandingStacks.{Inside, Stands, both, loose, loose_plain, never, past_stands, same_number}
use Rattle.standard_order.proofs.GoodTrees.{AllLoose, Good, copy_held, good_unlisted, good_unstacked, held, held_loose, loose_grown}
use Rattle.standard_order.proofs.GoodEnds.{Climbed, adopted_good, block_loose, climbed, copy_placed, entry_held, last_held, only_this, same_again}
use Rattle.standard_order.proofs.NodeTags.{Tag, class_at, class_kept, is_element, tags, tags_changed, tags_put}
use Rattle.standard_order.proofs.NodeTops.{Rooted, Same, same_both, same_element, same_kids, same_nodes, same_put}
use Rattle.standard_order.proofs.TreeTops.{Doc, Elements, Filled, created_only, doc_stack, element_off, elements_beyond, elements_dropped}
use Rattle.standard_order.proofs.TreeTops.{elements_kept, elements_past, elements_without, first_element, fresh_element, fresh_passes, is_movable, loose_movable}
use Rattle.standard_order.proofs.TreeTops.{movable_element, movable_top, name_movable, place_off}

-- ---- any other end tag

pub doc_other_end : (name : List ℕ) (t : GrowingTree) → Doc Rooted t → Doc Rooted (any_other_end name t)
doc_other_end name t doc = by (ends_other t name t.stack)
  where
    by : (o : Option ℕ) → Doc Rooted (closed_other o name t)
    by None = doc
    by (Some n) = doc_stack Rooted t (past (nat_eq n) (implied_of implied (name ∷ []) t).stack)
        (elements_past (tags t.nodes) (nat_eq n) (implied_of implied (name ∷ []) t).stack
        (elements_beyond (tags t.nodes) (λ m. is_one t implied m && not (is_one t (name ∷ []) m)) t.stack doc.open_)) doc

-- ---- members of stacks

turned : (f n : ℕ) → nat_eq n f ≡ false → nat_eq f n ≡ false
turned f n e = by (nat_eq f n) refl
  where
    by : (x : Bool) → nat_eq f n ≡ x → x ≡ false
    by true k = never (sym (subst (λ i. nat_eq n i ≡ false) (same_number f n k) e) ∙ same_again n)
    by false k = refl

pub member_without : (f node : ℕ) (s : List ℕ) → nat_eq node f ≡ false → is_member f s ≡ true → is_member f (without node s) ≡ true
member_without f node [] off h = h
member_without f node (n ∷ ns) off h = by (nat_eq n node) (nat_eq f n) refl refl h (λ k. member_without f node ns off k)
  where
    by : (x y : Bool) → nat_eq n node ≡ x → nat_eq f n ≡ y → y || is_member f ns ≡ true → (is_member f ns ≡ true → is_member f (without node ns) ≡ true) →
        is_member f (cond (not x) (n ∷ without node ns) (without node ns)) ≡ true
    by true true e g k go = never (sym (turned f node off) ∙ subst (λ i. nat_eq f i ≡ true) (same_number n node e) g)
    by true false e g k go = go k
    by false true e g k go = ap (λ x. x || is_member f (without node ns)) g
    by false false e g k go = ap (λ x. x || is_member f (without node ns)) g ∙ go k

pub member_replaced : (f node new : ℕ) (s : List ℕ) → nat_eq node f ≡ false → is_member f s ≡ true → is_member f (map (replaced_node node new) s) ≡ true
member_replaced f node new [] off h = h
member_replaced f node new (n ∷ ns) off h = by (nat_eq n node) (nat_eq f n) refl refl h (λ k. member_replaced f node new ns off k)
  where
    more : (x : Bool) {y : Bool} → y ≡ true → x || y ≡ true
    more true h = refl
    more false h = h

    by : (x y : Bool) → nat_eq n node ≡ x → nat_eq f n ≡ y → y || is_member f ns ≡ true → (is_member f ns ≡ true →
        is_member f (map (replaced_node node new) ns) ≡ true) →
        nat_eq f (cond x new n) || is_member f (map (replaced_node node new) ns) ≡ true
    by true true e g k go = never (sym (turned f node off) ∙ subst (λ i. nat_eq f i ≡ true) (same_number n node e) g)
    by true false e g k go = more (nat_eq f new) (go k)
    by false true e g k go = ap (λ x. x || is_member f (map (replaced_node node new) ns)) g
    by false false e g k go = more (nat_eq f n) (go k)

pub elements_replaced : (ts : List Tag) (old new : ℕ) → is_element (class_at ts new) ≡ true → (s : List ℕ) → Elements ts s →
    Elements ts (map (replaced_node old new) s)
elements_replaced ts old new e [] h = refl
elements_replaced ts old new e (n ∷ ns) h =
    by (nat_eq n old) (both (is_element (class_at ts n)) _ h).0 (elements_replaced ts old new e ns (both (is_element (class_at ts n)) _ h).1)
  where
    by : (x : Bool) → is_element (class_at ts n) ≡ true → Elements ts (map (replaced_node old new) ns) →
        is_element (class_at ts (cond x new n)) && list_all (λ i. is_element (class_at ts i)) (map (replaced_node old new) ns) ≡ true
    by true one rest = ap (λ x. x && list_all (λ i. is_element (class_at ts i)) (map (replaced_node old new) ns)) e ∙ rest
    by false one rest = ap (λ x. x && list_all (λ i. is_element (class_at ts i)) (map (replaced_node old new) ns)) one ∙ rest

pub elements_below : (ts : List Tag) (new block : ℕ) → is_element (class_at ts new) ≡ true → (s : List ℕ) → Elements ts s →
    Elements ts (stacked_below new block s)
elements_below ts new block e [] h = refl
elements_below ts new block e (n ∷ ns) h =
    by (nat_eq n block) (both (is_element (class_at ts n)) _ h).0 (elements_below ts new block e ns (both (is_element (class_at ts n)) _ h).1)
  where
    by : (x : Bool) → is_element (class_at ts n) ≡ true → Elements ts (stacked_below new block ns) →
        Elements ts (elim x as (λ _. List ℕ) [ true ↦ new ∷ n ∷ ns | false ↦ n ∷ stacked_below new block ns ])
    by true one rest = ap (λ x. x && list_all (λ i. is_element (class_at ts i)) (n ∷ ns)) e ∙ h
    by false one rest = ap (λ x. x && list_all (λ i. is_element (class_at ts i)) (stacked_below new block ns)) one ∙ rest

abbrev pub NoneIs : ℕ → List ℕ → Type 0
NoneIs f ns = list_all (λ n. not (nat_eq n f)) ns ≡ true

pub none_before : (f : ℕ) (s : List ℕ) → NoneIs f (before_in f s)
none_before f [] = refl
none_before f (n ∷ ns) = by (nat_eq n f) refl (none_before f ns)
  where
    by : (x : Bool) → nat_eq n f ≡ x → NoneIs f (before_in f ns) → NoneIs f (elim x as (λ _. List ℕ) [ true ↦ [] | false ↦ n ∷ before_in f ns ])
    by true e rest = refl
    by false e rest = ap (λ x. not x && list_all (λ m. not (nat_eq m f)) (before_in f ns)) e ∙ rest

pub is_not : (x : Bool) → not x ≡ true → x ≡ false
is_not true h = cc
is_not false h = refl

-- ---- the inner loop

pub record Climbs (formatting : ℕ) (t : GrowingTree) (c : Climb) : Type 0 where
  pub doc : Doc Rooted c.tree
  pub last : is_movable (class_at (tags c.tree.nodes) c.last) ≡ true
  pub open_ : is_member formatting c.tree.stack ≡ true
  pub same : Same t.nodes c.tree.nodes

-- a copy takes the place of an element, and the last node becomes its child
pub record Copies (formatting : ℕ) (t u : GrowingTree) (new : ℕ) : Type 0 where
  pub doc : Doc Rooted u
  pub last : is_movable (class_at (tags u.nodes) new) ≡ true
  pub open_ : is_member formatting u.stack ≡ true
  pub same : Same t.nodes u.nodes

copies : (formatting node last : ℕ) (t : GrowingTree) → Is held (labels t.nodes) node → nat_eq node formatting ≡ false → Doc Rooted t →
    is_movable (class_at (tags t.nodes) last) ≡ true → is_member formatting t.stack ≡ true →
    Copies formatting t (put last (EndOf (fresh t)) (replaced node (fresh t) (copied node t))) (fresh t)
copies formatting node last t h off doc movable open_ =
    subst (λ (made : GrowingTree). Copies formatting t (put last (EndOf (fresh t)) (replaced node (fresh t) made)) (fresh t))
    (sym (created_only Html (local_of t node) (attrs_of t node) t)) (record {
      doc = record {
        top = same.top Rooted doc.top;
        open_ = elements_replaced (tags nodes) node (fresh t) (movable_element _ new_movable) t.stack
            (elements_kept (tags t.nodes) (tags nodes) same.keeps t.stack doc.open_);
      };
      last = new_movable;
      open_ = member_replaced formatting node (fresh t) t.stack off open_;
      same = same;
    })
  where
    mid : List Node
    mid = (copied node t).nodes

    nodes : List Node
    nodes = put_at last (EndOf (fresh t)) mid

    made : Same t.nodes mid
    made = same_element Html (local_of t node) (attrs_of t node) t

    mid_movable : is_movable (class_at (tags mid) (fresh t)) ≡ true
    mid_movable = fresh_passes is_movable refl Html (local_of t node) (attrs_of t node) (λ contents. name_movable (local_of t node) (copy_held t node h)) t

    same : Same t.nodes nodes
    same = same_both t.nodes mid nodes made (same_put last (EndOf (fresh t)) mid
        (λ e. element_off Rooted mid (fresh t) (made.top Rooted doc.top) (movable_element _ mid_movable) e)
        (movable_top _ (class_kept is_movable refl (tags t.nodes) (tags mid) made.keeps last movable)))

    new_movable : is_movable (class_at (tags nodes) (fresh t)) ≡ true
    new_movable = subst (λ ts. is_movable (class_at ts (fresh t)) ≡ true) (sym (tags_put last (EndOf (fresh t)) mid)) mid_movable

pub climbs : (claim : Bool) (formatting : ℕ) (nodes : List ℕ) (count last : ℕ) (mark : Option ℕ) (t : GrowingTree) →
    AllLoose (labels t.nodes) nodes → NoneIs formatting nodes → Good Inside claim t → Doc Rooted t →
    is_movable (class_at (tags t.nodes) last) ≡ true → is_member formatting t.stack ≡ true →
    Climbs formatting t (climb nodes count last mark t)
climbs claim formatting [] count last mark t all none good doc movable open_ = record {
  doc = doc;
  last = movable;
  open_ = open_;
  same = same_nodes t.nodes;
}
climbs claim formatting (node ∷ nodes) count last mark t all none good doc movable open_ =
    by_count (nat_lt 3 count) (λ v b k a g d m o. climbs claim formatting nodes (suc count) b k v a two.1 g d m o)
  where
    two : (not (nat_eq node formatting) ≡ true) × NoneIs formatting nodes
    two = both (not (nat_eq node formatting)) (list_all (λ n. not (nat_eq n formatting)) nodes) none

    off : nat_eq node formatting ≡ false
    off = is_not (nat_eq node formatting) two.0

    with_node : (u : GrowingTree) → Good Inside claim u → AllLoose (labels u.nodes) (node ∷ nodes) → Doc Rooted u →
        is_movable (class_at (tags u.nodes) last) ≡ true → is_member formatting u.stack ≡ true → (x : Bool) → is_listed u node ≡ x →
        ((v : GrowingTree) (b : ℕ) (k : Option ℕ) → AllLoose (labels v.nodes) nodes → Good Inside claim v → Doc Rooted v →
        is_movable (class_at (tags v.nodes) b) ≡ true → is_member formatting v.stack ≡ true →
        Climbs formatting v (climb nodes (suc count) b k v)) →
        Climbs formatting u (elim x as (λ _. Climb) [
          | true ↦ climb nodes (suc count) (fresh u) (marked mark (fresh u))
              (put last (EndOf (fresh u)) (replaced node (fresh u) (copied node u)))
          | false ↦ climb nodes (suc count) last mark (unstacked node u)
        ])
    with_node u g a d m o true e more =
        let v : GrowingTree = put last (EndOf (fresh u)) (replaced node (fresh u) (copied node u)) in
        let is_held : Is held (labels u.nodes) node = entry_held (labels u.nodes) node u.listed g.2.entries e in
        let placed : Good Inside claim v × Grows u.nodes v.nodes = copy_placed claim u node last is_held a.0 g in
        let c : Copies formatting u v (fresh u) = copies formatting node last u is_held off d m o in
        let rest : Climbs formatting v (climb nodes (suc count) (fresh u) (marked mark (fresh u)) v) =
        more v (fresh u) (marked mark (fresh u)) (loose_grown u.nodes v.nodes placed.1 nodes a.1) placed.0 c.doc c.last c.open_ in
        record { doc = rest.doc; last = rest.last; open_ = rest.open_; same = same_both u.nodes v.nodes _ c.same rest.same }
    with_node u g a d m o false e more =
        let rest : Climbs formatting (unstacked node u) (climb nodes (suc count) last mark (unstacked node u)) =
        more (unstacked node u) last mark a.1 (good_unstacked Inside claim u node a.0 g)
        (record { top = d.top; open_ = elements_without (tags u.nodes) node u.stack d.open_ }) m (member_without formatting node u.stack off o) in
        record { doc = rest.doc; last = rest.last; open_ = rest.open_; same = rest.same }

    by_count : (y : Bool) → ((v : GrowingTree) (b : ℕ) (k : Option ℕ) → AllLoose (labels v.nodes) nodes → Good Inside claim v → Doc Rooted v →
        is_movable (class_at (tags v.nodes) b) ≡ true → is_member formatting v.stack ≡ true →
        Climbs formatting v (climb nodes (suc count) b k v)) →
        Climbs formatting t (climb_with (climb nodes (suc count)) node last mark
        (elim y as (λ _. GrowingTree) [ true ↦ unlisted node t | false ↦ t ]))
    by_count true more =
        let rest : Climbs formatting (unlisted node t) (climb_with (climb nodes (suc count)) node last mark (unlisted node t)) =
        with_node (unlisted node t) (good_unlisted Inside claim t node good) all (record { top = doc.top; open_ = doc.open_ }) movable open_
        (is_listed (unlisted node t) node) refl more in
        record { doc = rest.doc; last = rest.last; open_ = rest.open_; same = rest.same }
    by_count false more = with_node t good all doc movable open_ (is_listed t node) refl more

-- ---- the outer loop

pub adopted_doc : (claim : Bool) (formatting block : ℕ) (c : Climb) → Is held (labels c.tree.nodes) formatting → Good Inside claim c.tree →
    is_movable (class_at (tags c.tree.nodes) block) ≡ true → Doc Rooted c.tree → is_movable (class_at (tags c.tree.nodes) c.last) ≡ true →
    is_member formatting c.tree.stack ≡ true → Doc Rooted (adopted_by formatting block c)
adopted_doc claim formatting block c f_held good block_movable doc last_movable open_ =
    subst (λ (made : GrowingTree). Doc Rooted (let listed : GrowingTree = at_bookmark c.mark formatting new (wrapped block new made) in
    record listed { stack = stacked_below new block (without formatting listed.stack) }))
    (sym (created_only Html (local_of placed formatting) (attrs_of placed formatting) placed)) (by c.mark)
  where
    after : List ℕ
    after = behind_in formatting c.tree.stack

    stands : Stands Inside (labels c.tree.nodes) after
    stands = past_stands Inside (labels c.tree.nodes) (nat_eq formatting)
        (λ n there h. loose_plain (labels c.tree.nodes) n (only_this (labels c.tree.nodes) formatting (held_loose (labels c.tree.nodes) formatting f_held) n there h))
        c.tree.stack open_ good.0

    filled : (s : List ℕ) → Stands Inside (labels c.tree.nodes) s → Filled s
    filled s st e = subst (λ q. Stands Inside (labels c.tree.nodes) q) e st

    spot : Place
    spot = place_in c.tree (top after)

    placed : GrowingTree
    placed = put c.last spot c.tree

    first : Same c.tree.nodes placed.nodes
    first = same_put c.last spot c.tree.nodes
        (place_off Rooted c.tree (top after) doc (filled c.tree.stack good.0)
        (first_element (tags c.tree.nodes) after (filled after stands) (elements_past (tags c.tree.nodes) (nat_eq formatting) c.tree.stack doc.open_)))
        (movable_top _ last_movable)

    new : ℕ
    new = fresh placed

    made : List Node
    made = (copied formatting placed).nodes

    second : Same placed.nodes made
    second = same_element Html (local_of placed formatting) (attrs_of placed formatting) placed

    new_element : is_element (class_at (tags made) new) ≡ true
    new_element = fresh_element Html (local_of placed formatting) (attrs_of placed formatting) placed

    taken : List Node
    taken = changed_at (λ node. record node { children = (node_at made block).children }) made new

    taken_tags : tags taken ≡ tags made
    taken_tags = tags_changed (λ node. record node { children = (node_at made block).children }) (λ node. refl) made new

    third : Same made taken
    third = same_kids (λ node. record node { children = (node_at made block).children }) made new
        (element_off Rooted made new (second.top Rooted (first.top Rooted doc.top)) new_element) taken_tags

    moved : List Node
    moved = changed_at (λ node. record node { children = new ∷ [] }) taken block

    moved_tags : tags moved ≡ tags taken
    moved_tags = tags_changed (λ node. record node { children = new ∷ [] }) (λ node. refl) taken block

    up_to : Same c.tree.nodes taken
    up_to = same_both c.tree.nodes placed.nodes taken first (same_both placed.nodes made taken second third)

    fourth : Same taken moved
    fourth = same_kids (λ node. record node { children = new ∷ [] }) taken block
        (element_off Rooted taken block (up_to.top Rooted doc.top)
        (movable_element _ (class_kept is_movable refl (tags c.tree.nodes) (tags taken) up_to.keeps block block_movable))) moved_tags

    whole : Same c.tree.nodes moved
    whole = same_both c.tree.nodes taken moved up_to fourth

    stack : List ℕ
    stack = stacked_below new block (without formatting c.tree.stack)

    elements : Elements (tags moved) stack
    elements = elements_below (tags moved) new block
        (subst (λ ts. is_element (class_at ts new) ≡ true) (sym (moved_tags ∙ taken_tags)) new_element) (without formatting c.tree.stack)
        (elements_without (tags moved) formatting c.tree.stack (elements_kept (tags c.tree.nodes) (tags moved) whole.keeps c.tree.stack doc.open_))

    by : (mark : Option ℕ) → Doc Rooted (let listed : GrowingTree = at_bookmark mark formatting new (wrapped block new (record placed { nodes = made })) in
        record listed { stack = stacked_below new block (without formatting listed.stack) })
    by None = record { top = whole.top Rooted doc.top; open_ = elements }
    by (Some mark) = record { top = whole.top Rooted doc.top; open_ = elements }

none_some : {P : Type 0} (m : ℕ) → None ≡ Some m → P
none_some m h = cc

pub elements_before : (ts : List Tag) (f : ℕ) (s : List ℕ) → Elements ts s → Elements ts (before_in f s)
elements_before ts f [] h = refl
elements_before ts f (n ∷ ns) h =
    by (nat_eq n f) (both (is_element (class_at ts n)) _ h).0 (elements_before ts f ns (both (is_element (class_at ts n)) _ h).1)
  where
    by : (x : Bool) → is_element (class_at ts n) ≡ true → Elements ts (before_in f ns) →
        Elements ts (elim x as (λ _. List ℕ) [ true ↦ [] | false ↦ n ∷ before_in f ns ])
    by true one rest = refl
    by false one rest = ap (λ x. x && list_all (λ i. is_element (class_at ts i)) (before_in f ns)) one ∙ rest

-- the furthest block is an open element
pub special_element : (t : GrowingTree) (seen : Option ℕ) (s : List ℕ) (block : ℕ) →
    ((m : ℕ) → seen ≡ Some m → is_element (class_at (tags t.nodes) m) ≡ true) → Elements (tags t.nodes) s → last_special t seen s ≡ Some block →
    is_element (class_at (tags t.nodes) block) ≡ true
special_element t seen [] block old h e = old block e
special_element t seen (n ∷ ns) block old h e =
    special_element t (elim (is_one t special n) as (λ _. Option ℕ) [ true ↦ Some n | false ↦ seen ]) ns block (by (is_one t special n))
    (both (is_element (class_at (tags t.nodes) n)) _ h).1 e
  where
    by : (x : Bool) (m : ℕ) → elim x as (λ _. Option ℕ) [ true ↦ Some n | false ↦ seen ] ≡ Some m → is_element (class_at (tags t.nodes) m) ≡ true
    by true m k = subst (λ i. is_element (class_at (tags t.nodes) i) ≡ true) (same_Some n m k)
        (both (is_element (class_at (tags t.nodes) n)) (list_all (λ i. is_element (class_at (tags t.nodes) i)) ns) h).0
    by false m k = old m k

pub doc_adopt : (claim : Bool) (times : ℕ) (name : List ℕ) (t : GrowingTree) → Good Inside claim t → Doc Rooted t → Doc Rooted (adopt times name t)
doc_adopt claim zero name t good doc = doc
doc_adopt claim (suc times) name t good doc = by (last_listed t (name ∷ []) t.listed) refl (λ u g d. doc_adopt claim times name u g d)
  where
    by : (o : Option ℕ) → last_listed t (name ∷ []) t.listed ≡ o → ((u : GrowingTree) → Good Inside claim u → Doc Rooted u →
        Doc Rooted (adopt times name u)) → Doc Rooted (adopted_for o name (adopt times name) t)
    by None e again = doc_other_end name t doc
    by (Some formatting) e again = by_place (is_member formatting t.stack) (in_scope (nat_eq formatting) (ends_scope Scope t) t.stack) refl refl
      where
        f_held : Is held (labels t.nodes) formatting
        f_held = last_held (labels t.nodes) t (name ∷ []) t.listed good.2.entries formatting e

        once : (b : Option ℕ) → last_special t None (before_in formatting t.stack) ≡ b → is_member formatting t.stack ≡ true →
            in_scope (nat_eq formatting) (ends_scope Scope t) t.stack ≡ true → Doc Rooted (adopted_once formatting b (adopt times name) t)
        once None f open_ scope = record { top = doc.top; open_ = elements_past (tags t.nodes) (nat_eq formatting) t.stack doc.open_ }
        once (Some block) f open_ scope =
            let nodes : List ℕ = before_in formatting (behind_in block t.stack) in
            let two : Is loose (labels t.nodes) block × AllLoose (labels t.nodes) nodes = block_loose claim t formatting block good scope f in
            let end : Climb = climb nodes 1 block None t in
            let done : Climbed claim t end = climbed claim nodes 1 block None t two.1 good in
            let movable : is_movable (class_at (tags t.nodes) block) ≡ true =
            loose_movable t.nodes block two.0 (special_element t None (before_in formatting t.stack) block (λ m h. none_some m h)
            (elements_before (tags t.nodes) formatting t.stack doc.open_) f) in
            let found : Climbs formatting t end =
            climbs claim formatting nodes 1 block None t two.1 (none_before formatting (behind_in block t.stack)) good doc movable open_ in
            again (adopted_by formatting block end)
            (adopted_good claim formatting block end (grows_at held t.nodes _ done.grows formatting f_held) (grows_at loose t.nodes _ done.grows block two.0) done.good).0
            (adopted_doc claim formatting block end (grows_at held t.nodes _ done.grows formatting f_held) done.good
            (class_kept is_movable refl (tags t.nodes) (tags end.tree.nodes) found.same.keeps block movable) found.doc found.last found.open_)

        by_place : (x y : Bool) → is_member formatting t.stack ≡ x → in_scope (nat_eq formatting) (ends_scope Scope t) t.stack ≡ y →
            Doc Rooted (elim x as (λ _. GrowingTree) [
              | false ↦ unlisted formatting t
              | true ↦ elim y as (λ _. GrowingTree) [
                | false ↦ t
                | true ↦ adopted_once formatting (last_special t None (before_in formatting t.stack)) (adopt times name) t
              ]
            ])
        by_place false y o f = record { top = doc.top; open_ = doc.open_ }
        by_place true false o f = doc
        by_place true true o f = once (last_special t None (before_in formatting t.stack)) refl o f

pub doc_adoption : (claim : Bool) (name : List ℕ) (t : GrowingTree) → Good Inside claim t → Doc Rooted t → Doc Rooted (adoption name t)
doc_adoption claim name t good doc = by (is_one t (name ∷ []) (current t) && not (is_listed t (current t)))
  where
    by : (x : Bool) → Doc Rooted (elim x as (λ _. GrowingTree) [ true ↦ with_stack t (drop 1 t.stack) | false ↦ adopt 8 name t ])
    by true = doc_stack Rooted t (drop 1 t.stack) (elements_dropped (tags t.nodes) t.stack doc.open_) doc
    by false = doc_adopt claim 8 name t good doc
