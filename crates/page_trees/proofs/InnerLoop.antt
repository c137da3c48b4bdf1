-- The inner loop of the adoption agency algorithm, for one element.
use Rattle.std.proofs.Common.{◌≡◌, ℕ, ◌≤◌, ◌+◌, ◌||◌, inl, inr, Bool, true, false, List, [], ◌∷◌, ◌++◌, filter, map, refl, sym, ap, ◌∙◌, length, Option, Some, None, subst, suc, arith, true≢false}
use Rattle.std.specs.Prelude.{All, cond, nat_eq, nat_lt, remove, reverse, slice_set}
use Rattle.std.specs.List.{list_any}
use Rattle.std.proofs.lemmas.Bool.{cases_Bool, eq-eqb, eqb-true, ltb-false, ltb-true}
use Rattle.std.proofs.lemmas.List.{length-append}
use Rattle.std.proofs.lemmas.List.Elements.{All-head}
use Rattle.standard_trees.specs.Formatting.{Climb, attrs_of, climb, climb_with, copied, is_entry, is_listed, local_of, marked, replaced, replaced_entry, replaced_node, unlisted}
use Rattle.standard_trees.specs.GrowingTree.{Entry as StandardEntry, Formatting, GrowingTree, created, created_element, fresh, is_template, put, unstacked}
use Rattle.standard_trees.specs.GrowingTree.{is_one as is_one_of}
use Rattle.standard_trees.specs.TreeStore.{ContentsNode, ElementNode, EndOf, Html, Node, NodeAttr, is_member}
use Rattle.page_trees.specs.Adopting.{IsClimbing, IsIndexLeft, IsMarked, IsPassed, IsRenewed, Ladder, above, entry_place, ids_of, last_in}
use Rattle.page_trees.specs.Elements.{IsInOrder}
use Rattle.page_trees.specs.Listing.{lists_once}
use Rattle.page_trees.specs.SameNodes.{with_copy, with_copy_around, with_kind}
use Rattle.page_trees.specs.Sets.{ends_scope}
use Rattle.page_trees.specs.Stands.{AllStand, Builds, EntryStands, IsListOf, StandsFor, entry_of, formatting_names}
use Rattle.page_trees.specs.TreeState.{TreeState}
use Rattle.page_trees.specs.declared.formatting.Entry.{Entry}
use Rattle.page_trees.specs.declared.growing.adopting.Bookmark.{Bookmark}
use Rattle.page_trees.specs.declared.stack.Open.{Open}
use Rattle.page_trees.proofs.ActionsOnNodes.{created_kind}
use Rattle.page_trees.proofs.BuiltLists.{built_listed}
use Rattle.page_trees.proofs.CopiedElements.{made_copy}
use Rattle.page_trees.proofs.EntryPlaces.{entry_removed, entry_set, fresh_unlisted, is_placed, place_kept, placed_at, placed_there, removed_at, set_at, still_placed, turned_at}
use Rattle.page_trees.proofs.ListedEntries.{all_turned, formatting_known}
use Rattle.page_trees.proofs.ReopenedElements.{entries_apart}
use Rattle.page_trees.proofs.SplitLists.{absent_in, exchanged_one, listed_replaced, listed_there, lists, neither, none_unlisted, once_there, stays, unlisted_from, unlisted_in, unlisted_one}
use Rattle.page_trees.proofs.StackRungs.{any_in, ids_around, one_stands, regrouped, rung_removed, rung_set, stacked_around}
use Rattle.page_trees.proofs.StandingNames.{one_agrees}
use Rattle.page_trees.proofs.TakenOut.{opens_once, stack_once}
use Rattle.page_trees.proofs.WrappedElements.{ids_joined}

-- ---- copies

created_is : (name : List ℕ) (attrs : List NodeAttr) (t : GrowingTree) → created_element Html name attrs t ≡ record t { nodes = with_kind (created_kind Html name attrs (length t.nodes)) t.nodes }
created_is name attrs t = by (is_template Html name)
  where
    by : (b : Bool) → (elim b [
      | true ↦ created ContentsNode (created (ElementNode Html name attrs (Some (suc (length t.nodes)))) t)
      | false ↦ created (ElementNode Html name attrs None) t
    ]) ≡ record t { nodes = with_kind (ElementNode Html name attrs (cond b (Some (suc (length t.nodes))) None)) t.nodes }
    by true = refl
    by false = refl

pub copied_is : (o : Open) (t : GrowingTree) → EntryStands t.nodes (Entry.Element o) → copied o.id t ≡ record t { nodes = with_copy o.id t.nodes }
copied_is o t entry =
    created_is (local_of t o.id) (attrs_of t o.id) t ∙ ap (λ kind. record t { nodes = with_kind kind t.nodes }) (made_copy o t entry.0 entry.1)

-- ---- the definition

abbrev pub climb_at : ℕ → Option ℕ → GrowingTree → Climb
climb_at last mark t = record { tree = t; last = last; mark = mark }

abbrev pub renewed_at : ℕ → ℕ → Option ℕ → GrowingTree → Climb
renewed_at node last mark t = climb_at (fresh t) (marked mark (fresh t)) (put last (EndOf (fresh t)) (replaced node (fresh t) (copied node t)))

abbrev by_listed : Bool → Climb → Climb → Climb
by_listed b x y = elim b [ true ↦ x | false ↦ y ]

abbrev once_by : Bool → ℕ → ℕ → Option ℕ → GrowingTree → Climb
once_by b node last mark t = by_listed b (renewed_at node last mark t) (climb_at last mark (unstacked node t))

abbrev nearer : Bool → ℕ → GrowingTree → GrowingTree
nearer far node t = elim far [ true ↦ unlisted node t | false ↦ t ]

once_is : (node round last : ℕ) (mark : Option ℕ) (t : GrowingTree) →
    climb (node ∷ []) round last mark t ≡ (let u : GrowingTree = nearer (nat_lt 3 round) node t in once_by (is_listed u node) node last mark u)
once_is node round last mark t = refl

pub climb_bare : (node round last : ℕ) (mark : Option ℕ) (t : GrowingTree) → lists node t.listed ≡ false → climb (node ∷ []) round last mark t ≡ climb_at last mark (unstacked node t)
climb_bare node round last mark t none = by (nat_lt 3 round)
  where
    by : (far : Bool) → (let u : GrowingTree = nearer far node t in once_by (is_listed u node) node last mark u) ≡ climb_at last mark (unstacked node t)
    by false = ap (λ b. once_by b node last mark t) none
    by true =
        ap (λ (es : List StandardEntry). once_by (lists node es) node last mark (record t { listed = es })) (none_unlisted node t.listed none) ∙ ap (λ b. once_by b node last mark t) none

pub climb_far : (node round last : ℕ) (mark : Option ℕ) (t : GrowingTree) → nat_lt 3 round ≡ true → lists node (filter (stays node) t.listed) ≡ false →
    climb (node ∷ []) round last mark t ≡ climb_at last mark (unstacked node (unlisted node t))
climb_far node round last mark t far none =
    ap (λ b. (let u : GrowingTree = nearer b node t in once_by (is_listed u node) node last mark u)) far ∙ ap (λ b. once_by b node last mark (unlisted node t)) none

pub climb_near : (node round last : ℕ) (mark : Option ℕ) (t : GrowingTree) → nat_lt 3 round ≡ false → lists node t.listed ≡ true → climb (node ∷ []) round last mark t ≡ renewed_at node last mark t
climb_near node round last mark t near some =
    ap (λ b. (let u : GrowingTree = nearer b node t in once_by (is_listed u node) node last mark u)) near ∙ ap (λ b. once_by b node last mark t) some

-- the elements one after the other
pub climb_more : (node : ℕ) (nodes : List ℕ) (count last : ℕ) (mark : Option ℕ) (t : GrowingTree) →
    climb (node ∷ nodes) count last mark t ≡ (let c : Climb = climb (node ∷ []) count last mark t in climb nodes (suc count) c.last c.mark c.tree)
climb_more node nodes count last mark t = by (nearer (nat_lt 3 count) node t)
  where
    by_one : (b : Bool) (u : GrowingTree) → (let c : Climb = elim b [
      | true ↦ climb nodes (suc count) (fresh u) (marked mark (fresh u)) (put last (EndOf (fresh u)) (replaced node (fresh u) (copied node u)))
      | false ↦ climb nodes (suc count) last mark (unstacked node u)
    ] in c) ≡ (let c : Climb = once_by b node last mark u in climb nodes (suc count) c.last c.mark c.tree)
    by_one true u = refl
    by_one false u = refl

    by : (u : GrowingTree) → climb_with (climb nodes (suc count)) node last mark u ≡ (let c : Climb = climb_with (climb [] (suc count)) node last mark u in climb nodes (suc count) c.last c.mark c.tree)
    by u = by_one (is_listed u node) u

-- ---- the element that is passed

-- another number
pub not_same : (n m : ℕ) (ns : List ℕ) → is_member m ns ≡ true → is_member n ns ≡ false → nat_eq n m ≡ false
not_same n m ns there absent = elim (cases_Bool (nat_eq n m)) [
  | inl t ↦ absurd (true≢false (sym there ∙ ap (λ k. is_member k ns) (sym (eqb-true n m t)) ∙ absent))
  | inr f ↦ f
]

not_same_listed : (n m : ℕ) (es : List StandardEntry) → lists m es ≡ true → lists n es ≡ false → nat_eq n m ≡ false
not_same_listed n m es there absent = elim (cases_Bool (nat_eq n m)) [
  | inl t ↦ absurd (true≢false (sym there ∙ ap (λ k. lists k es) (sym (eqb-true n m t)) ∙ absent))
  | inr f ↦ f
]

-- where it is, and that it is neither the formatting element nor one of those above
pub record IsNode (s : TreeState) (t : GrowingTree) (l : Ladder) (node : Open) : Type 0 where
  pub split : s.stack ≡ (l.low ++ l.element ∷ l.mid) ++ node ∷ above l
  pub long : length (l.low ++ l.element ∷ l.mid) ≡ length l.low + length l.mid + 1
  pub once : opens_once t.stack ≡ true
  pub beside : is_member node.id (ids_of (above l)) ≡ false
  pub element : nat_eq node.id l.element.id ≡ false
  pub stands : StandsFor t.nodes node

pub node_is : (s : TreeState) (t : GrowingTree) (l : Ladder) (node : Open) → IsInOrder s.forest s.stack → Builds s t → s.stack ≡ (l.low ++ l.element ∷ (l.mid ++ node ∷ [])) ++ above l → IsNode s t l node
node_is s t l node order b e =
    let front : List Open = l.low ++ l.element ∷ l.mid in
    let split : s.stack ≡ front ++ node ∷ above l = e ∙ regrouped l.low l.element l.mid node (above l) in
    let once = stack_once s t order b in
    let ids = stacked_around s t front node (above l) b split in
    let alone = once_there node.id (ids_of (above l)) (ids_of front) (ap opens_once (sym ids) ∙ once) in
    let below = absent_in node.id (ids_of l.mid) (l.element.id ∷ ids_of l.low) (ap (is_member node.id) (sym (ids_around l.low l.element l.mid)) ∙ alone.behind) in
    let long = length-append l.low (l.element ∷ l.mid) in
    record {
      split = split;
      long = omega (arith, long);
      once = once;
      beside = alone.before;
      element = (neither (nat_eq node.id l.element.id) (is_member node.id (ids_of l.low)) below.1).0;
      stands = one_stands t.nodes front node (above l) (subst (λ (os : List Open). AllStand t.nodes (reverse os)) split b.stack.nodes);
    }

-- outside of it nothing ends the scope
pub outside : (mid : List Open) (node : Open) (rest : List Open) → list_any ends_scope ((mid ++ node ∷ []) ++ rest) ≡ false →
    (list_any ends_scope (mid ++ rest) ≡ false) × ((list_any ends_scope mid ≡ false) × (ends_scope node ≡ false) × (list_any ends_scope rest ≡ false))
outside mid node rest h =
    let first = neither (list_any ends_scope (mid ++ node ∷ [])) (list_any ends_scope rest) (sym (any_in ends_scope (mid ++ node ∷ []) rest) ∙ h) in
    let second = neither (list_any ends_scope mid) (list_any ends_scope (node ∷ [])) (sym (any_in ends_scope mid (node ∷ [])) ∙ first.0) in
    let third = neither (ends_scope node) false second.1 in
    (any_in ends_scope mid rest ∙ ap (λ b. b || list_any ends_scope rest) second.0 ∙ first.1, (second.0, third.0, first.1))

-- ---- it is not in the list

pub passed_bare : (place round : ℕ) (b : Bookmark) (s new : TreeState) (t : GrowingTree) (l : Ladder) (node : Open) (c : Climb) → IsInOrder s.forest s.stack →
    IsClimbing place b s t (record l { mid = l.mid ++ node ∷ [] }) c → lists node.id c.tree.listed ≡ false → new ≡ record s { stack = remove s.stack (place + length l.mid + 1) } →
    IsPassed place 1 b new t l (climb (node.id ∷ []) round c.last c.mark c.tree)
passed_bare place round b s new t l node c order w none e =
    let front : List Open = l.low ++ l.element ∷ l.mid in
    let it = node_is s c.tree l node order w.leads.built w.stack in
    let long = it.long in
    let low = w.long in
    let at : length front ≡ place + length l.mid + 1 = omega (arith, long, low) in
    let gone : remove s.stack (place + length l.mid + 1) ≡ front ++ above l =
    ap (λ (k : ℕ). remove s.stack k) (sym at) ∙ ap (λ (os : List Open). remove os (length front)) it.split ∙ removed_at front node (above l) in
    let built = rung_removed s c.tree front node (above l) w.leads.built it.split it.once in
    let now : IsClimbing place b (record s { stack = front ++ above l }) t l (climb_at c.last c.mark (unstacked node.id c.tree)) = record {
      leads = record { built = built; well = w.leads.well; alike = record { fosters = w.leads.alike.fosters; found = w.leads.alike.found; stands = w.leads.alike.stands } };
      stack = refl;
      long = w.long;
      last = w.last;
      stands = w.stands;
      index = w.index;
      listed = w.listed;
      mark = w.mark;
      inside = (outside l.mid node (above l) w.inside).0;
    } in
    record {
      copies = l.copies;
      less = omega arith;
      climbing = subst (λ (q : Climb). IsClimbing place b new t l q) (sym (climb_bare node.id round c.last c.mark c.tree none))
          (subst (λ (q : TreeState). IsClimbing place b q t l (climb_at c.last c.mark (unstacked node.id c.tree)))
          (sym (e ∙ ap (λ (os : List Open). record s { stack = os }) gone)) now);
    }

-- ---- it is in the list, and too far

pub left_same : (gone i j k : ℕ) → IsIndexLeft gone i j → IsIndexLeft gone i k → j ≡ k
left_same gone i j k one two = elim (cases_Bool (nat_lt gone i)) [
  | inl t ↦ (let less = ltb-true gone i t in let first = one.0 less in let second = two.0 less in omega (arith, first, second))
  | inr f ↦ (let le = not_less gone i f in one.1 le ∙ sym (two.1 le))
]
  where
    not_less : (m n : ℕ) → nat_lt m n ≡ false → n ≤ m
    not_less m n f = ltb-false m n f

-- behind an entry
pub next_left : (gone i j k : ℕ) → IsIndexLeft gone i j → (i ≡ gone → ⊥) → IsIndexLeft gone (i + 1) k → k ≡ j + 1
next_left gone i j k one apart two = elim (cases_Bool (nat_lt gone i)) [
  | inl t ↦ (let less = ltb-true gone i t in let first = one.0 less in let second = two.0 (omega (arith, less)) in omega (arith, first, second))
  | inr f ↦ (
      let le = ltb-false gone i f in
      let more : i + 1 ≤ gone = by_apart gone i le apart in
      let first = one.1 le in
      let second = two.1 more in
      omega (arith, first, second))
]
  where
    by_apart : (gone i : ℕ) → i ≤ gone → (i ≡ gone → ⊥) → i + 1 ≤ gone
    by_apart gone i le apart = elim (cases_Bool (nat_lt i gone)) [
      | inl t ↦ (let less = ltb-true i gone t in omega (arith, less))
      | inr f ↦ (let more = ltb-false i gone f in absurd (apart (omega (arith, le, more))))
    ]

mark_left : (node element : ℕ) (opened : List ℕ) (mark : Option ℕ) (b after : Bookmark) (front back : List StandardEntry) → nat_eq node element ≡ false → is_member node opened ≡ false →
    IsMarked element opened mark b (front ++ Formatting node ∷ back) → IsIndexLeft (length back) b.index after.index → after.renewed ≡ b.renewed →
    IsMarked element opened mark after (front ++ back)
mark_left node element opened None b after front back other beside is left renewed =
    let still = still_placed element b.index front (Formatting node) back other is.1 in
    (renewed ∙ is.0, still.placed ∙ ap (λ (k : ℕ). Some k) (left_same (length back) b.index still.index after.index still.left left))
mark_left node element opened (Some n) b after front back other beside is left renewed =
    let apart = not_same node n opened is.1 beside in
    let still = still_placed n is.2.0 front (Formatting node) back apart is.2.1 in (
      renewed ∙ is.0,
      is.1,
      (
        still.index,
        still.placed,
        next_left (length back) is.2.0 still.index after.index still.left still.other
            (subst (λ (k : ℕ). IsIndexLeft (length back) k after.index) is.2.2 left),
      ),
    )

pub passed_far : (place round i : ℕ) (b after : Bookmark) (s new : TreeState) (t : GrowingTree) (l : Ladder) (node : Open) (c : Climb) → IsInOrder s.forest s.stack →
    IsClimbing place b s t (record l { mid = l.mid ++ node ∷ [] }) c → entry_place node.id c.tree.listed ≡ Some i → nat_lt 3 round ≡ true →
    new ≡ record s { stack = remove s.stack (place + length l.mid + 1); formatting = remove s.formatting i } → IsIndexLeft i b.index after.index → after.renewed ≡ b.renewed →
    IsPassed place 1 after new t l (climb (node.id ∷ []) round c.last c.mark c.tree)
passed_far place round i b after s new t l node c order w found far e left renewed =
    let front : List Open = l.low ++ l.element ∷ l.mid in
    let it = node_is s c.tree l node order w.leads.built w.stack in
    let long = it.long in
    let low = w.long in
    let at : length front ≡ place + length l.mid + 1 = omega (arith, long, low) in
    let gone : remove s.stack (place + length l.mid + 1) ≡ front ++ above l =
    ap (λ (k : ℕ). remove s.stack k) (sym at) ∙ ap (λ (os : List Open). remove os (length front)) it.split ∙ removed_at front node (above l) in
    let spot = placed_at node.id i c.tree.listed found in
    let alone = listed_there node.id spot.front spot.back (ap lists_once (sym spot.split) ∙ w.leads.well) in
    let rest : filter (stays node.id) c.tree.listed ≡ spot.front ++ spot.back =
    ap (λ (es : List StandardEntry). filter (stays node.id) es) spot.split ∙ unlisted_one node.id spot.front spot.back alone.before alone.behind in
    let is : IsListOf c.tree.nodes (filter (stays node.id) c.tree.listed) (remove s.formatting i) =
    subst (λ (es : List StandardEntry). IsListOf c.tree.nodes es (remove s.formatting i)) (sym rest)
    (entry_removed c.tree.nodes spot.front (Formatting node.id) spot.back s.formatting i (subst (λ (es : List StandardEntry). IsListOf c.tree.nodes es s.formatting) spot.split w.leads.built.listed) spot.long) in
    let shorter : TreeState = record s { formatting = remove s.formatting i } in
    let tree : GrowingTree = unlisted node.id c.tree in
    let built = rung_removed shorter tree front node (above l) (built_listed s c.tree (remove s.formatting i) (filter (stays node.id) c.tree.listed) w.leads.built is) it.split it.once in
    let still = still_placed l.element.id w.index spot.front (Formatting node.id) spot.back it.element (ap (entry_place l.element.id) (sym spot.split) ∙ w.listed) in
    let now : IsClimbing place after (record shorter { stack = front ++ above l }) t l (climb_at c.last c.mark (unstacked node.id tree)) = record {
      leads = record {
        built = built;
        well = ap lists_once rest ∙ alone.others;
        alike = record { fosters = w.leads.alike.fosters; found = w.leads.alike.found; stands = w.leads.alike.stands };
      };
      stack = refl;
      long = w.long;
      last = w.last;
      stands = w.stands;
      index = still.index;
      listed = ap (entry_place l.element.id) rest ∙ still.placed;
      mark = subst (IsMarked l.element.id (ids_of (above l)) c.mark after) (sym rest)
          (mark_left node.id l.element.id (ids_of (above l)) c.mark b after spot.front spot.back it.element it.beside
          (subst (IsMarked l.element.id (ids_of (above l)) c.mark b) spot.split w.mark) (subst (λ (k : ℕ). IsIndexLeft k b.index after.index) (sym spot.long) left) renewed);
      inside = (outside l.mid node (above l) w.inside).0;
    } in
    let none : lists node.id (filter (stays node.id) c.tree.listed) ≡ false =
    ap (lists node.id) rest ∙ unlisted_from node.id spot.front spot.back alone.before alone.behind in
    record {
      copies = l.copies;
      less = omega arith;
      climbing = subst (λ (q : Climb). IsClimbing place after new t l q) (sym (climb_far node.id round c.last c.mark c.tree far none))
          (subst (λ (q : TreeState). IsClimbing place after q t l (climb_at c.last c.mark (unstacked node.id tree)))
          (sym (e ∙ ap (λ (os : List Open). record shorter { stack = os }) gone)) now);
    }

-- ---- it is in the list, and near

-- an element of the stack that is in the list is one of those that the rules add to it
pub listed_stands : (s : TreeState) (t : GrowingTree) (node : Open) (i : ℕ) → Builds s t → StandsFor t.nodes node → entry_place node.id t.listed ≡ Some i → EntryStands t.nodes (Entry.Element node)
listed_stands s t node i b stands found =
    let spot = placed_at node.id i t.listed found in
    let at = turned_at spot.front (Formatting node.id) spot.back s.formatting (sym spot.split ∙ b.listed.list) in
    let parts = entries_apart (EntryStands t.nodes) at.low (at.entry ∷ at.high) (subst (All (EntryStands t.nodes)) at.split b.listed.elements) in
    by at.entry at.here (All-head (EntryStands t.nodes) at.entry at.high parts.1)
  where
    by : (entry : Entry) → entry_of entry ≡ Formatting node.id → EntryStands t.nodes entry → EntryStands t.nodes (Entry.Element node)
    by Entry.Marker e is = cc
    by (Entry.Element x) e is =
        let same : x.id ≡ node.id = cc in
        (stands, one_agrees formatting_names formatting_known t node stands ∙ ap (is_one_of t formatting_names) (sym same) ∙ sym (one_agrees formatting_names formatting_known t x is.0) ∙ is.1)

member_first : (copy : Open) (rest : List Open) → is_member copy.id (ids_of (copy ∷ rest)) ≡ true
member_first copy rest = ap (is_member copy.id) (ids_joined (copy ∷ []) rest) ∙ last_member (ids_of rest)
  where
    last_member : (ns : List ℕ) → is_member copy.id (ns ++ copy.id ∷ []) ≡ true
    last_member [] = ap (λ b. b || false) (eq-eqb copy.id copy.id refl)
    last_member (n ∷ ns) = by (nat_eq copy.id n) (last_member ns)
      where
        by : (b : Bool) → is_member copy.id (ns ++ copy.id ∷ []) ≡ true → (b || is_member copy.id (ns ++ copy.id ∷ [])) ≡ true
        by true h = refl
        by false h = h

member_later : (n : ℕ) (copy : Open) (rest : List Open) → is_member n (ids_of rest) ≡ true → is_member n (ids_of (copy ∷ rest)) ≡ true
member_later n copy rest h = ap (is_member n) (ids_joined (copy ∷ []) rest) ∙ more (ids_of rest) h
  where
    more : (ns : List ℕ) → is_member n ns ≡ true → is_member n (ns ++ copy.id ∷ []) ≡ true
    more [] h = absurd (true≢false (sym h))
    more (m ∷ ns) h = by (nat_eq n m) h (more ns)
      where
        by : (b : Bool) → (b || is_member n ns) ≡ true → (is_member n ns ≡ true → is_member n (ns ++ copy.id ∷ []) ≡ true) → (b || is_member n (ns ++ copy.id ∷ [])) ≡ true
        by true h f = refl
        by false h f = f h

-- the bookmark behind the first copy
pub record IsBehind (i : ℕ) (b after : Bookmark) : Type 0 where
  pub first : b.renewed ≡ false → after.index ≡ i + 1
  pub later : b.renewed ≡ true → after ≡ b
  pub renewed : after.renewed ≡ true

mark_behind : (node element i : ℕ) (copy : Open) (rest : List Open) (mark : Option ℕ) (b after : Bookmark) (front back : List StandardEntry) → is_member node (ids_of rest) ≡ false → length back ≡ i →
    lists copy.id (front ++ Formatting node ∷ back) ≡ false → IsMarked element (ids_of rest) mark b (front ++ Formatting node ∷ back) → IsBehind i b after →
    IsMarked element (ids_of (copy ∷ rest)) (marked mark copy.id) after (front ++ Formatting copy.id ∷ back)
mark_behind node element i copy rest None b after front back beside long new is behind =
    (behind.renewed, member_first copy rest, (i, placed_there copy.id front back (unlisted_in copy.id front (Formatting node ∷ back) new).0 ∙ ap (λ (k : ℕ). Some k) long, behind.first is.0))
mark_behind node element i copy rest (Some n) b after front back beside long new is behind =
    let same : after ≡ b = behind.later is.0 in
    let apart = not_same node n (ids_of rest) is.1 beside in
    let fresh_one = not_same_listed copy.id n (front ++ Formatting node ∷ back) (is_placed n is.2.0 (front ++ Formatting node ∷ back) is.2.1) new in (
      behind.renewed,
      member_later n copy rest is.1,
      (is.2.0, place_kept n front (Formatting node) (Formatting copy.id) back apart fresh_one ∙ is.2.1, ap (λ (m : Bookmark). m.index) same ∙ is.2.2),
    )

renewed_tree : (t : GrowingTree) (node : Open) (n last other : ℕ) → EntryStands t.nodes (Entry.Element node) → other ≡ last →
    put last (EndOf (fresh t)) (replaced node.id (fresh t) (copied node.id t)) ≡ record t {
      nodes = with_copy_around node.id other t.nodes;
      stack = map (replaced_node node.id (fresh t)) t.stack;
      listed = map (replaced_entry node.id (fresh t)) t.listed;
    }
renewed_tree t node n last other stands e =
    ap (λ (u : GrowingTree). put last (EndOf (fresh t)) (replaced node.id (fresh t) u)) (copied_is node t stands)
    ∙ ap (λ (k : ℕ). record t {
      nodes = with_copy_around node.id k t.nodes;
      stack = map (replaced_node node.id (fresh t)) t.stack;
      listed = map (replaced_entry node.id (fresh t)) t.listed;
    }) (sym e)

pub passed_near : (place round i : ℕ) (b after : Bookmark) (s new : TreeState) (t : GrowingTree) (l : Ladder) (node : Open) (c : Climb) → IsInOrder s.forest s.stack →
    IsClimbing place b s t (record l { mid = l.mid ++ node ∷ [] }) c → entry_place node.id c.tree.listed ≡ Some i → nat_lt 3 round ≡ false →
    IsRenewed (place + length l.mid + 1) i s new node (last_in l.copies l.block) c.tree → EntryStands c.tree.nodes (Entry.Element node) → IsBehind i b after →
    IsPassed place 1 after new t l (climb (node.id ∷ []) round c.last c.mark c.tree)
passed_near place round i b after s new t l node c order w found near r stands behind =
    let front : List Open = l.low ++ l.element ∷ l.mid in
    let it = node_is s c.tree l node order w.leads.built w.stack in
    let long = it.long in
    let low = w.long in
    let at : length front ≡ place + length l.mid + 1 = omega (arith, long, low) in
    let copy : Open = r.copy in
    let id : copy.id ≡ fresh c.tree = ap (λ (o : Open). o.id) r.shape in
    let nodes : List Node = with_copy_around node.id (last_in l.copies l.block).id c.tree.nodes in
    let set : slice_set s.stack (place + length l.mid + 1) copy ≡ front ++ copy ∷ above l =
    ap (λ (k : ℕ). slice_set s.stack k copy) (sym at) ∙ ap (λ (os : List Open). slice_set os (length front) copy) it.split ∙ set_at front node copy (above l) in
    let spot = placed_at node.id i c.tree.listed found in
    let alone = listed_there node.id spot.front spot.back (ap lists_once (sym spot.split) ∙ w.leads.well) in
    let new_one : lists copy.id c.tree.listed ≡ false =
    ap (lists copy.id) w.leads.built.listed.list ∙ fresh_unlisted c.tree.nodes (reverse s.formatting) copy.id
    (all_turned (EntryStands c.tree.nodes) s.formatting w.leads.built.listed.elements) (omega (arith, id)) in
    let new_there : lists copy.id (spot.front ++ Formatting node.id ∷ spot.back) ≡ false = ap (lists copy.id) (sym spot.split) ∙ new_one in
    let new_front = unlisted_in copy.id spot.front (Formatting node.id ∷ spot.back) new_there in
    let new_back = neither (is_entry copy.id (Formatting node.id)) (lists copy.id spot.back) new_front.1 in
    let listed : List StandardEntry = map (replaced_entry node.id copy.id) c.tree.listed in
    let now_listed : listed ≡ spot.front ++ Formatting copy.id ∷ spot.back =
    ap (λ (es : List StandardEntry). map (replaced_entry node.id copy.id) es) spot.split ∙ exchanged_one node.id copy.id spot.front spot.back alone.before alone.behind in
    let entries : List Entry = slice_set s.formatting i (Entry.Element copy) in
    let grown : TreeState = record s { forest = new.forest } in
    let tree : GrowingTree = record c.tree { nodes = nodes } in
    let is : IsListOf nodes listed entries =
    subst (λ (es : List StandardEntry). IsListOf nodes es entries) (sym now_listed)
    (entry_set nodes spot.front (Formatting node.id) spot.back s.formatting i (Entry.Element copy) (subst (λ (es : List StandardEntry). IsListOf nodes es s.formatting) spot.split r.built.listed) spot.long r.stands) in
    let built = rung_set (record grown { formatting = entries }) (record tree { listed = listed }) front node copy (above l) (built_listed grown tree entries listed r.built is) it.split it.once r.stands in
    let final : GrowingTree = record c.tree { nodes = nodes; stack = map (replaced_node node.id copy.id) c.tree.stack; listed = listed } in
    let there : TreeState = record s { forest = new.forest; stack = front ++ copy ∷ above l; formatting = entries } in
    let other : nat_eq copy.id l.element.id ≡ false = not_same_listed copy.id l.element.id c.tree.listed (is_placed l.element.id w.index c.tree.listed w.listed) new_one in
    let inner = (outside l.mid node (above l) w.inside).1 in
    let now : IsClimbing place after there t (record l { copies = copy ∷ l.copies }) (climb_at copy.id (marked c.mark copy.id) final) = record {
      leads = record {
        built = built;
        well = ap lists_once now_listed ∙ listed_replaced copy.id spot.front spot.back new_front.0 new_back.1 alone.others;
        alike = record { fosters = w.leads.alike.fosters; found = w.leads.alike.found; stands = λ o is. r.alike o (w.leads.alike.stands o is) };
      };
      stack = refl;
      long = w.long;
      last = refl;
      stands = r.alike l.element w.stands;
      index = w.index;
      listed = ap (entry_place l.element.id) now_listed ∙ place_kept l.element.id spot.front (Formatting node.id) (Formatting copy.id) spot.back it.element other
          ∙ ap (entry_place l.element.id) (sym spot.split) ∙ w.listed;
      mark = subst (IsMarked l.element.id (ids_of (copy ∷ above l)) (marked c.mark copy.id) after) (sym now_listed)
          (mark_behind node.id l.element.id i copy (above l) c.mark b after spot.front spot.back it.beside spot.long new_there
          (subst (IsMarked l.element.id (ids_of (above l)) c.mark b) spot.split w.mark) behind);
      inside = any_in ends_scope l.mid (copy ∷ above l) ∙ ap (λ x. x || (ends_scope copy || list_any ends_scope (above l))) inner.0
          ∙ ap (λ x. x || list_any ends_scope (above l)) (ap ends_scope r.shape ∙ inner.1) ∙ inner.2;
    } in
    let defined : climb (node.id ∷ []) round c.last c.mark c.tree ≡ climb_at copy.id (marked c.mark copy.id) final =
    climb_near node.id round c.last c.mark c.tree near (is_placed node.id i c.tree.listed found)
    ∙ ap (climb_at (fresh c.tree) (marked c.mark (fresh c.tree))) (renewed_tree c.tree node 0 c.last (last_in l.copies l.block).id stands w.last)
    ∙ ap (λ (k : ℕ). climb_at k (marked c.mark k) (record c.tree { nodes = nodes; stack = map (replaced_node node.id k) c.tree.stack; listed = map (replaced_entry node.id k) c.tree.listed })) (sym id) in
    record {
      copies = copy ∷ l.copies;
      less = omega arith;
      climbing = subst (λ (q : Climb). IsClimbing place after new t (record l { copies = copy ∷ l.copies }) q) (sym defined)
          (subst (λ (q : TreeState). IsClimbing place after q t (record l { copies = copy ∷ l.copies }) (climb_at copy.id (marked c.mark copy.id) final))
          (sym (r.result ∙ ap (λ (os : List Open). record s { forest = new.forest; stack = os; formatting = entries }) set)) now);
    }
