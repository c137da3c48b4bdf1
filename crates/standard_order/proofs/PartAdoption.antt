-- In the modes of the body: items of lists, any other end tag, foreign elements, and the adoption agency algorithm.
use Rattle.std.specs.Prelude.{◌≡◌, ◌&&◌, ◌||◌, refl, ℕ, zero, suc, Bool, true, false, not, List, [], ◌∷◌, ◌++◌, Option, None, Some, codes, drop, length, map, nat_eq}
use Rattle.std.specs.Prelude.{nat_lt}
use Rattle.std.specs.List.{list_all, list_any}
use Rattle.std.proofs.lemmas.Option.{same_Some}
use mathlib.Core.Path.{◌∙◌, sym, ap, subst}
use Rattle.standard_trees.specs.NameLists.{implied, scope, special}
use Rattle.standard_trees.specs.RuleWords.{Scope}
use Rattle.standard_trees.specs.TreeStore.{EndOf, Html, Node, Place, changed_at, is_member, node_at, put_at, without}
use Rattle.standard_trees.specs.GrowingTree.{Entry, Formatting, GrowingTree, Marker, ends_scope, fresh, in_scope, is_one, past}
use Rattle.standard_trees.specs.GrowingTree.{place_in, put, top, unstacked, with_stack}
use Rattle.standard_trees.specs.Formatting.{Climb, adopted_by, at_bookmark, attrs_of, before_in, behind_in}
use Rattle.standard_trees.specs.Formatting.{bookmarked, climb, climb_with, copied, is_listed, last_listed, local_of, marked, replaced, replaced_entry}
use Rattle.standard_trees.specs.Formatting.{replaced_node, stacked_below, unlisted, wrapped}
use Rattle.standard_order.proofs.Labels.{Grows, Is, grows_at, labels}
use Rattle.standard_order.proofs.StandingStacks.{Inside, both, never, same_number}
use Rattle.standard_order.proofs.GoodTrees.{AllLoose, Good, good_unlisted, good_unstacked, held, loose_grown}
use Rattle.standard_order.proofs.GoodEnds.{copy_placed, entry_held}
use Rattle.standard_order.proofs.NodeTags.{Cls, Keeps, Tag, class_at, class_kept, is_element, name_class, tags, tags_changed, tags_put}
use Rattle.standard_order.proofs.TreeTops.{Elements, created_only, element_off, elements_past, fresh_passes}
use Rattle.standard_order.proofs.AdoptionTops.{NoneIs, elements_below, elements_replaced, is_not, member_replaced, member_without}
use Rattle.standard_order.proofs.Chains.{AllPlain, Scoping, Site, chain, is_deep, is_plain, of, of_replaced, plain_before, rest_below, rest_without}
use Rattle.standard_order.proofs.PartTrees.{In, PlainListed, Step, cls, in_nodes, in_rest, listed_kept, parts_for, plain_element, plain_root, plain_single, plainly_for, step_both, step_kids}
use Rattle.standard_order.proofs.PartTrees.{step_made, step_put, deep_off, doc_in}
use Rattle.standard_order.proofs.PartOps.{copy_plain, in_listed, in_unlisted}
use Rattle.standard_order.proofs.PartPops.{in_past, in_unstacked, scope_ends}

-- ---- the list of active formatting elements

listed_replaced : (ts : List Tag) (old new : ℕ) → is_plain (class_at ts new) ≡ true → (es : List Entry) → PlainListed ts es →
    PlainListed ts (map (replaced_entry old new) es)
listed_replaced ts old new p [] h = tt
listed_replaced ts old new p (Marker ∷ es) h = listed_replaced ts old new p es h
listed_replaced ts old new p (Formatting n ∷ es) h = by (nat_eq n old) (listed_replaced ts old new p es h.1)
  where
    by : (x : Bool) → PlainListed ts (map (replaced_entry old new) es) →
        PlainListed ts (Rattle.std.specs.Prelude.cond x (Formatting new) (Formatting n) ∷ map (replaced_entry old new) es)
    by true k = (p, k)
    by false k = (h.0, k)

listed_bookmarked : (ts : List Tag) (new mark : ℕ) → is_plain (class_at ts new) ≡ true → (es : List Entry) → PlainListed ts es →
    PlainListed ts (bookmarked new mark es)
listed_bookmarked ts new mark p [] h = tt
listed_bookmarked ts new mark p (Marker ∷ es) h = listed_bookmarked ts new mark p es h
listed_bookmarked ts new mark p (Formatting n ∷ es) h = by (nat_eq n mark) (listed_bookmarked ts new mark p es h.1)
  where
    by : (x : Bool) → PlainListed ts (bookmarked new mark es) →
        PlainListed ts (elim x as (λ _. List Entry) [ true ↦ Formatting new ∷ Formatting n ∷ es | false ↦ Formatting n ∷ bookmarked new mark es ])
    by true k = (p, (h.0, h.1))
    by false k = (h.0, k)

pub last_plain : (ts : List Tag) (t : GrowingTree) (names : List (List ℕ)) (es : List Entry) → PlainListed ts es → (n : ℕ) → last_listed t names es ≡ Some n →
    is_plain (class_at ts n) ≡ true
last_plain ts t names [] h n e = none e
  where
    none : {P : Type 0} → None ≡ Some n → P
    none k = cc
last_plain ts t names (Marker ∷ es) h n e = none e
  where
    none : {P : Type 0} → None ≡ Some n → P
    none k = cc
last_plain ts t names (Formatting m ∷ es) h n e = by (is_one t names m) e (λ k. last_plain ts t names es h.1 n k)
  where
    by : (x : Bool) → elim x as (λ _. Option ℕ) [ true ↦ Some m | false ↦ last_listed t names es ] ≡ Some n →
        (last_listed t names es ≡ Some n → is_plain (class_at ts n) ≡ true) → is_plain (class_at ts n) ≡ true
    by true k go = subst (λ j. is_plain (class_at ts j) ≡ true) (same_Some m n k) h.0
    by false k go = go k

plain_kept : (ts us : List Tag) → Keeps ts us → (ns : List ℕ) → AllPlain (class_at ts) ns → AllPlain (class_at us) ns
plain_kept ts us keeps ns h =
    Rattle.standard_order.proofs.NodeKids.all_weaker (λ n. is_plain (class_at ts n)) (λ n. is_plain (class_at us n))
    (λ n k. class_kept is_plain refl ts us keeps n k) ns h

-- ---- the inner loop

pub record PartClimbs (r : ℕ) (c : Site) (formatting : ℕ) (t : GrowingTree) (end : Climb) : Type 0 where
  pub now : In r c end.tree
  pub last : is_plain (class_at (tags end.tree.nodes) end.last) ≡ true
  pub open_ : is_member formatting end.tree.stack ≡ true
  pub keeps : Keeps (tags t.nodes) (tags end.tree.nodes)

pub record PartCopies (r : ℕ) (c : Site) (formatting : ℕ) (t u : GrowingTree) (new : ℕ) : Type 0 where
  pub now : In r c u
  pub last : is_plain (class_at (tags u.nodes) new) ≡ true
  pub open_ : is_member formatting u.stack ≡ true
  pub keeps : Keeps (tags t.nodes) (tags u.nodes)

part_copies : (r : ℕ) (c : Site) (formatting node last : ℕ) (t : GrowingTree) → Is held (labels t.nodes) node → is_plain (class_at (tags t.nodes) node) ≡ true →
    nat_eq node formatting ≡ false → In r c t → is_plain (class_at (tags t.nodes) last) ≡ true → is_member formatting t.stack ≡ true →
    PartCopies r c formatting t (put last (EndOf (fresh t)) (replaced node (fresh t) (copied node t))) (fresh t)
part_copies r c formatting node last t h p off i q open_ =
    subst (λ (made : GrowingTree). PartCopies r c formatting t (put last (EndOf (fresh t)) (replaced node (fresh t) made)) (fresh t))
    (sym (created_only Html (local_of t node) (attrs_of t node) t)) (record {
      now = in_listed r c (with_stack (record t { nodes = nodes }) (map (replaced_node node (fresh t)) t.stack)) (map (replaced_entry node (fresh t)) t.listed)
          (listed_replaced (tags nodes) node (fresh t) new_plain t.listed (listed_kept (tags t.nodes) (tags nodes) whole.keeps t.listed i.listed))
          (in_rest r c (record t { nodes = nodes }) (map (replaced_node node (fresh t)) t.stack) (record {
            chained = ap chain same ∙ middle.chained;
            within = ap Rattle.standard_order.proofs.Chains.context same;
            body = ap Rattle.standard_order.proofs.Chains.has_body same;
            few = ap Rattle.standard_order.proofs.Chains.templates_in same;
          }) (elements_replaced (tags nodes) node (fresh t) (plain_element _ new_plain) t.stack middle.open_) middle);
      last = new_plain;
      open_ = member_replaced formatting node (fresh t) t.stack off open_;
      keeps = whole.keeps;
    })
  where
    copy : is_plain (name_class (local_of t node)) ≡ true
    copy = copy_plain t node h p

    mid : List Node
    mid = (copied node t).nodes

    made : Step r (parts_for (cls t)) t.nodes mid
    made = step_made r (parts_for (cls t)) Html (local_of t node) (attrs_of t node) t (λ contents. plain_single _ copy)

    mid_plain : is_plain (class_at (tags mid) (fresh t)) ≡ true
    mid_plain = fresh_passes is_plain refl Html (local_of t node) (attrs_of t node) (λ contents. copy) t

    not_html : Rattle.standard_order.proofs.PartTrees.Nodes r (parts_for (cls t)) mid → fresh t ≡ r → ⊥
    not_html n e = clash (class_at (tags mid) r) n.frame.root (subst (λ j. is_plain (class_at (tags mid) j) ≡ true) e mid_plain)
      where
        clash : (d : Cls) → d ≡ Rattle.standard_order.proofs.NodeTags.HtmlC → is_plain d ≡ true → ⊥
        clash d f g = never (sym (ap is_plain f) ∙ g)

    nodes : List Node
    nodes = put_at last (EndOf (fresh t)) mid

    whole : Step r (parts_for (cls t)) t.nodes nodes
    whole = step_both r (parts_for (cls t)) t.nodes mid nodes made (step_put r (parts_for (cls t)) last (EndOf (fresh t)) mid (plainly_for (cls t)) (
      λ e. element_off Rattle.standard_order.proofs.NodeTops.Rooted mid (fresh t) (made.nodes i.nodes).top (plain_element _ mid_plain) e,
      λ e. not_html (made.nodes i.nodes) e,
    ) (class_kept is_plain refl (tags t.nodes) (tags mid) made.keeps last q))

    new_plain : is_plain (class_at (tags nodes) (fresh t)) ≡ true
    new_plain = subst (λ ts. is_plain (class_at ts (fresh t)) ≡ true) (sym (tags_put last (EndOf (fresh t)) mid)) mid_plain

    middle : In r c (record t { nodes = nodes })
    middle = in_nodes r c t nodes whole i

    same : of (class_at (tags nodes)) (map (replaced_node node (fresh t)) t.stack) ≡ of (class_at (tags nodes)) t.stack
    same = of_replaced (class_at (tags nodes)) node (fresh t) (class_kept is_plain refl (tags t.nodes) (tags nodes) whole.keeps node p) new_plain t.stack

pub part_climbs : (r : ℕ) (c : Site) (claim : Bool) (formatting : ℕ) (nodes : List ℕ) (count last : ℕ) (mark : Option ℕ) (t : GrowingTree) →
    AllLoose (labels t.nodes) nodes → AllPlain (class_at (tags t.nodes)) nodes → NoneIs formatting nodes → Good Inside claim t → In r c t →
    is_plain (class_at (tags t.nodes) last) ≡ true → is_member formatting t.stack ≡ true → PartClimbs r c formatting t (climb nodes count last mark t)
part_climbs r c claim formatting [] count last mark t all plain none good i q open_ = record {
  now = i;
  last = q;
  open_ = open_;
  keeps = λ n h. refl;
}
part_climbs r c claim formatting (node ∷ nodes) count last mark t all plain none good i q open_ =
    by_count (nat_lt 3 count) (λ v b k a p g j m o. part_climbs r c claim formatting nodes (suc count) b k v a p two.1 g j m o)
  where
    two : (not (nat_eq node formatting) ≡ true) × NoneIs formatting nodes
    two = both (not (nat_eq node formatting)) (list_all (λ n. not (nat_eq n formatting)) nodes) none

    off : nat_eq node formatting ≡ false
    off = is_not (nat_eq node formatting) two.0

    with_node : (u : GrowingTree) → Good Inside claim u → AllLoose (labels u.nodes) (node ∷ nodes) → AllPlain (class_at (tags u.nodes)) (node ∷ nodes) →
        In r c u → is_plain (class_at (tags u.nodes) last) ≡ true → is_member formatting u.stack ≡ true → (x : Bool) → is_listed u node ≡ x →
        ((v : GrowingTree) (b : ℕ) (k : Option ℕ) → AllLoose (labels v.nodes) nodes → AllPlain (class_at (tags v.nodes)) nodes → Good Inside claim v →
        In r c v → is_plain (class_at (tags v.nodes) b) ≡ true → is_member formatting v.stack ≡ true →
        PartClimbs r c formatting v (climb nodes (suc count) b k v)) →
        PartClimbs r c formatting u (elim x as (λ _. Climb) [
          | true ↦ climb nodes (suc count) (fresh u) (marked mark (fresh u))
              (put last (EndOf (fresh u)) (replaced node (fresh u) (copied node u)))
          | false ↦ climb nodes (suc count) last mark (unstacked node u)
        ])
    with_node u g a p j m o true e more =
        let v : GrowingTree = put last (EndOf (fresh u)) (replaced node (fresh u) (copied node u)) in
        let is_held : Is held (labels u.nodes) node = entry_held (labels u.nodes) node u.listed g.2.entries e in
        let ps : (is_plain (class_at (tags u.nodes) node) ≡ true) × AllPlain (class_at (tags u.nodes)) nodes =
        both (is_plain (class_at (tags u.nodes) node)) (list_all (λ n. is_plain (class_at (tags u.nodes) n)) nodes) p in
        let placed : Good Inside claim v × Grows u.nodes v.nodes = copy_placed claim u node last is_held a.0 g in
        let k : PartCopies r c formatting u v (fresh u) = part_copies r c formatting node last u is_held ps.0 off j m o in
        let rest : PartClimbs r c formatting v (climb nodes (suc count) (fresh u) (marked mark (fresh u)) v) =
        more v (fresh u) (marked mark (fresh u)) (loose_grown u.nodes v.nodes placed.1 nodes a.1) (plain_kept (tags u.nodes) (tags v.nodes) k.keeps nodes ps.1)
        placed.0 k.now k.last k.open_ in
        record { now = rest.now; last = rest.last; open_ = rest.open_; keeps = Rattle.standard_order.proofs.NodeTags.keeps_both (tags u.nodes) (tags v.nodes) _ k.keeps rest.keeps }
    with_node u g a p j m o false e more =
        let ps : (is_plain (class_at (tags u.nodes) node) ≡ true) × AllPlain (class_at (tags u.nodes)) nodes =
        both (is_plain (class_at (tags u.nodes) node)) (list_all (λ n. is_plain (class_at (tags u.nodes) n)) nodes) p in
        let rest : PartClimbs r c formatting (unstacked node u) (climb nodes (suc count) last mark (unstacked node u)) =
        more (unstacked node u) last mark a.1 ps.1 (good_unstacked Inside claim u node a.0 g) (in_unstacked r c u node ps.0 j) m
        (member_without formatting node u.stack off o) in
        record { now = rest.now; last = rest.last; open_ = rest.open_; keeps = rest.keeps }

    by_count : (y : Bool) → ((v : GrowingTree) (b : ℕ) (k : Option ℕ) → AllLoose (labels v.nodes) nodes → AllPlain (class_at (tags v.nodes)) nodes →
        Good Inside claim v → In r c v → is_plain (class_at (tags v.nodes) b) ≡ true → is_member formatting v.stack ≡ true →
        PartClimbs r c formatting v (climb nodes (suc count) b k v)) →
        PartClimbs r c formatting t (climb_with (climb nodes (suc count)) node last mark
        (elim y as (λ _. GrowingTree) [ true ↦ unlisted node t | false ↦ t ]))
    by_count true more =
        let rest : PartClimbs r c formatting (unlisted node t) (climb_with (climb nodes (suc count)) node last mark (unlisted node t)) =
        with_node (unlisted node t) (good_unlisted Inside claim t node good) all plain (in_unlisted r c node t i) q open_ (is_listed (unlisted node t) node) refl more in
        record { now = rest.now; last = rest.last; open_ = rest.open_; keeps = rest.keeps }
    by_count false more = with_node t good all plain i q open_ (is_listed t node) refl more

-- ---- any other end tag

-- The name is that of an ordinary element, or of one in which no mode of the body is told, or the innermost other element has another.
abbrev pub OtherName : List ℕ → Cls → Type 0
OtherName name c = (d : Cls) → name_class name ≡ d → is_plain d ≡ false → (d ≡ c → ⊥)

-- an element that ends the scope of the adoption agency algorithm
pub scope_only : (r : ℕ) (c : Site) (t : GrowingTree) (n : ℕ) → is_plain (class_at (tags t.nodes) n) ≡ true → In r c t →
    Scoping (class_at (tags t.nodes)) (nat_eq n) (ends_scope Scope t)
scope_only r c t n p i = record {
  only = λ m h. subst (λ j. is_plain (class_at (tags t.nodes) j) ≡ true) (same_number n m h) p;
  ending = scope_ends Scope refl t;
}

-- without a furthest block
pub in_adopted_plainly : (r : ℕ) (c : Site) (t : GrowingTree) (formatting : ℕ) → is_plain (class_at (tags t.nodes) formatting) ≡ true →
    in_scope (nat_eq formatting) (ends_scope Scope t) t.stack ≡ true → In r c t → In r c (unlisted formatting (with_stack t (past (nat_eq formatting) t.stack)))
in_adopted_plainly r c t formatting p scoped i =
    in_unlisted r c formatting (with_stack t (past (nat_eq formatting) t.stack)) (in_past r c t (nat_eq formatting) (ends_scope Scope t) (scope_only r c t formatting p i) scoped i)

-- the elements above one in scope, and those between it and another above
pub between_plain : (f : ℕ → Cls) (n m : ℕ) (s : List ℕ) → AllPlain f (before_in n s) → list_any (nat_eq m) (before_in n s) ≡ true →
    AllPlain f (before_in n (behind_in m s))
between_plain f n m [] all there = never there
between_plain f n m (k ∷ ks) all there = by (nat_eq k n) (nat_eq m k) refl refl all there (λ a t. between_plain f n m ks a t)
  where
    by : (x y : Bool) → nat_eq k n ≡ x → nat_eq m k ≡ y → AllPlain f (elim x as (λ _. List ℕ) [ true ↦ [] | false ↦ k ∷ before_in n ks ]) →
        list_any (nat_eq m) (elim x as (λ _. List ℕ) [ true ↦ [] | false ↦ k ∷ before_in n ks ]) ≡ true →
        (AllPlain f (before_in n ks) → list_any (nat_eq m) (before_in n ks) ≡ true → AllPlain f (before_in n (behind_in m ks))) →
        AllPlain f (before_in n (elim y as (λ _. List ℕ) [ true ↦ ks | false ↦ behind_in m ks ]))
    by true y e g a t go = never t
    by false true e g a t go = (both (is_plain (f k)) (list_all (λ j. is_plain (f j)) (before_in n ks)) a).1
    by false false e g a t go =
        go (both (is_plain (f k)) (list_all (λ j. is_plain (f j)) (before_in n ks)) a).1
        (sym (ap (λ x. x || list_any (nat_eq m) (before_in n ks)) g) ∙ t)

-- ---- the outer loop

-- what an ordinary element stands on
pub record Suffix (f : ℕ → Cls) (s q : List ℕ) : Type 0 where
  pub chained : chain (of f q) ≡ true
  pub deep : is_deep (Rattle.standard_order.proofs.Chains.first (of f q)) ≡ true
  pub host : list_any Rattle.standard_order.proofs.Chains.is_host (of f q) ≡ true → list_any Rattle.standard_order.proofs.Chains.is_host (of f s) ≡ true

below_plain : (c : Cls) (cs : List Cls) → is_plain c ≡ true → chain (c ∷ cs) ≡ true → is_deep (Rattle.standard_order.proofs.Chains.first cs) ≡ true
below_plain Rattle.standard_order.proofs.NodeTags.PlainC [] p h = never h
below_plain Rattle.standard_order.proofs.NodeTags.PlainC (d ∷ ds) p h = (both (is_deep d) (chain (d ∷ ds)) h).0
below_plain _ cs p h = never p

chain_below : (c : Cls) (d : Cls) (ds : List Cls) → chain (c ∷ d ∷ ds) ≡ true → chain (d ∷ ds) ≡ true
chain_below c d ds h = (both (Rattle.standard_order.proofs.Chains.on c d) (chain (d ∷ ds)) h).1

either_host : (x : Bool) {y : Bool} → y ≡ true → x || y ≡ true
either_host true h = refl
either_host false h = h

pub suffix_past : (f : ℕ → Cls) (n : ℕ) (s : List ℕ) → is_plain (f n) ≡ true → chain (of f s) ≡ true → is_member n s ≡ true → Suffix f s (past (nat_eq n) s)
suffix_past f n [] p h e = never h
suffix_past f n (m ∷ ms) p h e = by ms (nat_eq n m) refl h e (λ k l. suffix_past f n ms p k l)
  where
    by : (ms : List ℕ) (x : Bool) → nat_eq n m ≡ x → chain (f m ∷ of f ms) ≡ true → x || is_member n ms ≡ true →
        (chain (of f ms) ≡ true → is_member n ms ≡ true → Suffix f ms (past (nat_eq n) ms)) →
        Suffix f (m ∷ ms) (elim x as (λ _. List ℕ) [ true ↦ ms | false ↦ past (nat_eq n) ms ])
    by [] true g k l go = never (sym (plain_root (f m) (subst (λ i. is_plain (f i) ≡ true) (same_number n m g) p)) ∙ k)
    by (j ∷ js) true g k l go = record {
      chained = chain_below (f m) (f j) (of f js) k;
      deep = below_plain (f m) (of f (j ∷ js)) (subst (λ i. is_plain (f i) ≡ true) (same_number n m g) p) k;
      host = λ w. either_host (Rattle.standard_order.proofs.Chains.is_host (f m)) w;
    }
    by [] false g k l go = never l
    by (j ∷ js) false g k l go =
        let rest : Suffix f (j ∷ js) (past (nat_eq n) (j ∷ js)) = go (chain_below (f m) (f j) (of f js) k) l in
        record { chained = rest.chained; deep = rest.deep; host = λ w. either_host (Rattle.standard_order.proofs.Chains.is_host (f m)) (rest.host w) }

-- the place of the last node
ancestor_off : (r : ℕ) (c : Site) (t : GrowingTree) (formatting : ℕ) → is_plain (class_at (tags t.nodes) formatting) ≡ true → is_member formatting t.stack ≡ true →
    In r c t → Rattle.standard_order.proofs.PartTrees.Off r (place_in t (top (behind_in formatting t.stack)))
ancestor_off r c t formatting p open_ i = (
  Rattle.standard_order.proofs.TreeTops.place_off Rattle.standard_order.proofs.NodeTops.Rooted t ancestor (doc_in r c t i)
      (Rattle.standard_order.proofs.PartPlaces.stack_filled r c t i) (Rattle.standard_order.proofs.PartPlaces.deep_element _ deep),
  Rattle.standard_order.proofs.PartPlaces.place_html r c t ancestor i deep (λ one. suffix.host (host (behind_in formatting t.stack) suffix.chained elements one)),
)
  where
    f : ℕ → Cls
    f = class_at (tags t.nodes)

    ancestor : ℕ
    ancestor = top (behind_in formatting t.stack)

    suffix : Suffix (class_at (tags t.nodes)) t.stack (behind_in formatting t.stack)
    suffix = suffix_past (class_at (tags t.nodes)) formatting t.stack p i.chained open_

    elements : Elements (tags t.nodes) (behind_in formatting t.stack)
    elements = elements_past (tags t.nodes) (nat_eq formatting) t.stack i.open_

    first_is : (s : List ℕ) → chain (of (class_at (tags t.nodes)) s) ≡ true → class_at (tags t.nodes) (top s) ≡ Rattle.standard_order.proofs.Chains.first (of (class_at (tags t.nodes)) s)
    first_is [] h = never h
    first_is (n ∷ ns) h = refl

    deep : is_deep (class_at (tags t.nodes) (top (behind_in formatting t.stack))) ≡ true
    deep = subst (λ d. is_deep d ≡ true) (sym (first_is (behind_in formatting t.stack) suffix.chained)) suffix.deep

    host : (s : List ℕ) → chain (of (class_at (tags t.nodes)) s) ≡ true → Elements (tags t.nodes) s →
        is_one t Rattle.standard_trees.specs.NameLists.fostering_names (top s) ≡ true → list_any Rattle.standard_order.proofs.Chains.is_host (of (class_at (tags t.nodes)) s) ≡ true
    host [] h e o = never h
    host (n ∷ ns) h e o =
        Rattle.standard_order.proofs.Chains.tabled_host (class_at (tags t.nodes) n) (of (class_at (tags t.nodes)) ns)
        (Rattle.standard_order.proofs.PartPlaces.one_at Rattle.standard_order.proofs.Chains.is_tabled Rattle.standard_trees.specs.NameLists.fostering_names refl (λ name. refl)
        (λ name. refl) refl t n (both (is_element (class_at (tags t.nodes) n)) (list_all (λ j. is_element (class_at (tags t.nodes) j)) ns) e).0 o) h

pub in_adopted : (r : ℕ) (c : Site) (formatting block : ℕ) (end : Climb) → Is held (labels end.tree.nodes) formatting →
    is_plain (class_at (tags end.tree.nodes) formatting) ≡ true → is_plain (class_at (tags end.tree.nodes) block) ≡ true → In r c end.tree →
    is_plain (class_at (tags end.tree.nodes) end.last) ≡ true → is_member formatting end.tree.stack ≡ true → In r c (adopted_by formatting block end)
in_adopted r c formatting block end f_held f_plain b_plain i l_plain open_ =
    subst (λ (made : GrowingTree). In r c (let listed : GrowingTree = at_bookmark end.mark formatting new (wrapped block new made) in
    record listed { stack = stacked_below new block (without formatting listed.stack) }))
    (sym (created_only Html (local_of placed formatting) (attrs_of placed formatting) placed)) (by end.mark)
  where
    spot : Place
    spot = place_in end.tree (top (behind_in formatting end.tree.stack))

    placed : GrowingTree
    placed = put end.last spot end.tree

    parts : Rattle.standard_order.proofs.PartKids.Parts
    parts = parts_for (cls end.tree)

    one : Step r (parts_for (cls end.tree)) end.tree.nodes placed.nodes
    one = step_put r (parts_for (cls end.tree)) end.last spot end.tree.nodes (plainly_for (cls end.tree)) (ancestor_off r c end.tree formatting f_plain open_ i) l_plain

    placed_in : In r c placed
    placed_in = in_nodes r c end.tree placed.nodes one i

    copy : is_plain (name_class (local_of placed formatting)) ≡ true
    copy = copy_plain placed formatting
        (grows_at held end.tree.nodes placed.nodes (Rattle.standard_order.proofs.Labels.grows_put end.last spot end.tree.nodes) formatting f_held)
        (class_kept is_plain refl (tags end.tree.nodes) (tags placed.nodes) one.keeps formatting f_plain)

    new : ℕ
    new = fresh placed

    made : List Node
    made = (copied formatting placed).nodes

    two : Step r (parts_for (cls end.tree)) placed.nodes made
    two = step_made r (parts_for (cls end.tree)) Html (local_of placed formatting) (attrs_of placed formatting) placed (λ contents. plain_single _ copy)

    new_plain : is_plain (class_at (tags made) new) ≡ true
    new_plain = fresh_passes is_plain refl Html (local_of placed formatting) (attrs_of placed formatting) (λ contents. copy) placed

    off : (nodes : List Node) → Rattle.standard_order.proofs.PartTrees.Nodes r (parts_for (cls end.tree)) nodes → (n : ℕ) → is_plain (class_at (tags nodes) n) ≡ true →
        (n ≡ 0 → ⊥) × (n ≡ r → ⊥)
    off nodes ns n p = (
      λ e. element_off Rattle.standard_order.proofs.NodeTops.Rooted nodes n ns.top (plain_element _ p) e,
      λ e. clash (class_at (tags nodes) r) ns.frame.root (subst (λ j. is_plain (class_at (tags nodes) j) ≡ true) e p),
    )
      where
        clash : (d : Cls) → d ≡ Rattle.standard_order.proofs.NodeTags.HtmlC → is_plain d ≡ true → ⊥
        clash d f g = never (sym (ap is_plain f) ∙ g)

    taken : List Node
    taken = changed_at (λ node. record node { children = (node_at made block).children }) made new

    taken_tags : tags taken ≡ tags made
    taken_tags = tags_changed (λ node. record node { children = (node_at made block).children }) (λ node. refl) made new

    up_to_made : Rattle.standard_order.proofs.PartTrees.Nodes r (parts_for (cls end.tree)) made
    up_to_made = two.nodes (one.nodes i.nodes)

    three : Step r (parts_for (cls end.tree)) made taken
    three = step_kids r (parts_for (cls end.tree)) (λ node. record node { children = (node_at made block).children }) made new
        (off made up_to_made new new_plain).0 (off made up_to_made new new_plain).1 taken_tags

    moved : List Node
    moved = changed_at (λ node. record node { children = new ∷ [] }) taken block

    moved_tags : tags moved ≡ tags taken
    moved_tags = tags_changed (λ node. record node { children = new ∷ [] }) (λ node. refl) taken block

    so_far : Step r (parts_for (cls end.tree)) end.tree.nodes taken
    so_far = step_both r (parts_for (cls end.tree)) end.tree.nodes placed.nodes taken one
        (step_both r (parts_for (cls end.tree)) placed.nodes made taken two three)

    block_off : (block ≡ 0 → ⊥) × (block ≡ r → ⊥)
    block_off = off taken (so_far.nodes i.nodes) block (class_kept is_plain refl (tags end.tree.nodes) (tags taken) so_far.keeps block b_plain)

    whole : Step r (parts_for (cls end.tree)) end.tree.nodes moved
    whole = step_both r (parts_for (cls end.tree)) end.tree.nodes taken moved so_far
        (step_kids r (parts_for (cls end.tree)) (λ node. record node { children = new ∷ [] }) taken block block_off.0 block_off.1 moved_tags)

    now : In r c (record end.tree { nodes = moved })
    now = in_nodes r c end.tree moved whole i

    at : (n : ℕ) → is_plain (class_at (tags end.tree.nodes) n) ≡ true → is_plain (class_at (tags moved) n) ≡ true
    at n p = class_kept is_plain refl (tags end.tree.nodes) (tags moved) whole.keeps n p

    new_now : is_plain (class_at (tags moved) new) ≡ true
    new_now = subst (λ ts. is_plain (class_at ts new) ≡ true) (sym (moved_tags ∙ taken_tags)) new_plain

    less : In r c (with_stack (record end.tree { nodes = moved }) (without formatting end.tree.stack))
    less = in_unstacked r c (record end.tree { nodes = moved }) formatting (at formatting f_plain) now

    stacked : In r c (with_stack (record end.tree { nodes = moved }) (stacked_below new block (without formatting end.tree.stack)))
    stacked = in_rest r c (with_stack (record end.tree { nodes = moved }) (without formatting end.tree.stack)) (stacked_below new block (without formatting end.tree.stack))
        (rest_below (class_at (tags moved)) new block (at block b_plain) new_now (without formatting end.tree.stack) less.chained)
        (elements_below (tags moved) new block (plain_element _ new_now) (without formatting end.tree.stack) less.open_) less

    by : (mark : Option ℕ) → In r c (let listed : GrowingTree = at_bookmark mark formatting new (wrapped block new (record placed { nodes = made })) in
        record listed { stack = stacked_below new block (without formatting listed.stack) })
    by None = in_listed r c (with_stack (record end.tree { nodes = moved }) (stacked_below new block (without formatting end.tree.stack)))
        (map (replaced_entry formatting new) end.tree.listed) (listed_replaced (tags moved) formatting new new_now end.tree.listed now.listed) stacked
    by (Some mark) =
        let fewer : In r c (unlisted formatting (with_stack (record end.tree { nodes = moved }) (stacked_below new block (without formatting end.tree.stack)))) =
        in_unlisted r c formatting (with_stack (record end.tree { nodes = moved }) (stacked_below new block (without formatting end.tree.stack))) stacked in
        in_listed r c (with_stack (record end.tree { nodes = moved }) (stacked_below new block (without formatting end.tree.stack)))
        (bookmarked new mark (unlisted formatting (record end.tree { nodes = moved })).listed)
        (listed_bookmarked (tags moved) new mark new_now (unlisted formatting (record end.tree { nodes = moved })).listed fewer.listed) stacked
