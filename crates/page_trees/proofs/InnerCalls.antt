-- The inner loop of the adoption agency algorithm, by what the calls do.
use Rattle.std.proofs.Common.{◌≡◌, ℕ, ◌<◌, ◌≤◌, ◌+◌, ◌^◌, not, Bool, true, false, List, [], ◌∷◌, ◌++◌, refl, sym, ap, ◌∙◌, length, Option, Some, None, subst, suc, arith, true≢false}
use Rattle.std.specs.Prelude.{nat_lt, remove, slice_get, slice_set}
use Rattle.std.proofs.lemmas.List.{append_assoc, length-append}
use Rattle.std.proofs.lemmas.Option.{none-some}
use Rattle.dom_links.specs.Forest.{Forest}
use Rattle.dom_links.specs.Sound.{IsForest}
use Rattle.standard_trees.specs.Formatting.{Climb, climb}
use Rattle.standard_trees.specs.GrowingTree.{GrowingTree}
use Rattle.page_trees.specs.Adopting.{Climbs, IsClimbing, IsRenewed, Ladder, Passes, Renews, Starts, above, climbed, entry_place, ids_of, last_in}
use Rattle.page_trees.specs.Elements.{AreOpen, IsElement, IsInOrder}
use Rattle.page_trees.specs.Formatting.{is_of, last_place}
use Rattle.page_trees.specs.Insertions.{MakesNext}
use Rattle.page_trees.specs.Insertions.{with_copy_around as copied_around}
use Rattle.page_trees.specs.Reopening.{copy_open}
use Rattle.page_trees.specs.SameNodes.{with_copy_around}
use Rattle.page_trees.specs.Stands.{Builds}
use Rattle.page_trees.specs.TreeState.{TreeState}
use Rattle.page_trees.specs.declared.formatting.Entry.{Entry}
use Rattle.page_trees.specs.declared.growing.adopting.Bookmark.{Bookmark}
use Rattle.page_trees.specs.declared.stack.Open.{Open}
use Rattle.page_trees.proofs.EntryPlaces.{last_place_is, no_place, place_below}
use Rattle.page_trees.proofs.InnerLoop.{climb_at, climb_more, listed_stands, node_is, passed_bare, passed_far, passed_near}
use Rattle.page_trees.proofs.KeptElements.{stands_kept}
use Rattle.page_trees.proofs.ListedEntries.{listed_long}
use Rattle.page_trees.proofs.StackOrder.{element_there}
use Rattle.page_trees.proofs.StackRungs.{above_is, get_at, get_next, regrouped}
use Rattle.page_trees.proofs.WrappedElements.{around_built, ids_joined}

-- ---- a copy takes the place of an element

pub renews : (view old : TreeState) (h : Forest) (place index : ℕ) (node last copy : Open) (stack : List Open) (entries : List Entry) → view ≡ old → IsForest view.forest → AreOpen view.forest view.stack →
    Some node ≡ slice_get view.stack place → Some last ≡ slice_get view.stack (place + 1) → MakesNext copy.id view.forest h (copied_around node.id last.id view.forest) → copy ≡ copy_open node copy.id →
    stack ≡ slice_set view.stack place copy → entries ≡ slice_set view.formatting index (Entry.Element copy) →
    Renews place index old (record view { forest = h; stack = stack; formatting = entries })
renews view old h place index node last copy stack entries same good are first second next shape stacked listed x y first_is second_is t stands b =
    let one : node ≡ x = same_some node x (first ∙ ap (λ (s : TreeState). slice_get s.stack place) same ∙ first_is) in
    let two : last ≡ y = same_some last y (second ∙ ap (λ (s : TreeState). slice_get s.stack (place + 1)) same ∙ second_is) in
    let makes = subst (λ (o : Open). MakesNext copy.id view.forest h (copied_around x.id o.id view.forest)) two (subst (λ (o : Open). MakesNext copy.id view.forest h (copied_around o.id last.id view.forest)) one next) in
    let node_element = subst (λ (o : Open). IsElement view.forest o.id) one (element_there view.forest view.stack place node are (sym first)) in
    let last_element = subst (λ (o : Open). IsElement view.forest o.id) two (element_there view.forest view.stack (place + 1) last are (sym second)) in
    let it = around_built view t h x copy y.id (subst (λ (s : TreeState). Builds s t) (sym same) b) good node_element last_element stands makes (shape ∙ ap (λ (o : Open). copy_open o copy.id) one) in
    record {
      copy = copy;
      shape = shape ∙ ap (λ (o : Open). copy_open o copy.id) one ∙ ap (copy_open x) it.id;
      stands = it.stands;
      alike = λ o is. (stands_kept t.nodes (with_copy_around x.id y.id t.nodes) it.keeps o is.0, is.1);
      built = subst (λ (s : TreeState). Builds (record s { forest = h }) (record t { nodes = with_copy_around x.id y.id t.nodes })) same it.built;
      result = ap (λ (os : List Open). record view { forest = h; stack = os; formatting = entries }) stacked
          ∙ ap (λ (es : List Entry). record view { forest = h; stack = slice_set view.stack place copy; formatting = es }) listed
          ∙ ap (λ (s : TreeState). record s { forest = h; stack = slice_set s.stack place copy; formatting = slice_set s.formatting index (Entry.Element copy) }) same;
    }
  where
    same_some : (x y : Open) → Some x ≡ Some y → x ≡ y
    same_some x y e = cc

pub none_renewed : (view old : TreeState) (place index n : ℕ) → view ≡ old → None ≡ slice_get view.stack n → (n ≡ place) → Renews place index old old
none_renewed view old place index n same none at x y first_is second_is t stands b =
    absurd (none-some x (none ∙ ap (λ (s : TreeState). slice_get s.stack n) same ∙ ap (slice_get old.stack) at ∙ first_is))

pub none_renewed_next : (view old : TreeState) (place index : ℕ) → view ≡ old → None ≡ slice_get view.stack (place + 1) → Renews place index old old
none_renewed_next view old place index same none x y first_is second_is t stands b =
    absurd (none-some y (none ∙ ap (λ (s : TreeState). slice_get s.stack (place + 1)) same ∙ second_is))

-- ---- one element

-- what is known of the state
record IsAt (index : ℕ) (s : TreeState) (l : Ladder) (node : Open) : Type 0 where
  pub here : slice_get s.stack index ≡ Some node
  pub next : slice_get s.stack (index + 1) ≡ Some (last_in l.copies l.block)

is_at : (place index : ℕ) (b : Bookmark) (s : TreeState) (t : GrowingTree) (l : Ladder) (node : Open) (c : Climb) → IsClimbing place b s t (record l { mid = l.mid ++ node ∷ [] }) c → index ≡ place + length l.mid + 1 →
    IsAt index s l node
is_at place index b s t l node c w at =
    let front : List Open = l.low ++ l.element ∷ l.mid in
    let split : s.stack ≡ front ++ node ∷ above l = w.stack ∙ regrouped l.low l.element l.mid node (above l) in
    let long = length-append l.low (l.element ∷ l.mid) in
    let low = w.long in
    let count : index ≡ length front = omega (arith, at, long, low) in
    let up = above_is l.copies l.block l.up in
    record {
      here = ap (slice_get s.stack) count ∙ ap (λ (os : List Open). slice_get os (length front)) split ∙ get_at front node (above l);
      next = ap (λ (k : ℕ). slice_get s.stack (k + 1)) count ∙ ap (λ (os : List Open). slice_get os (length front + 1)) (split ∙ ap (λ (os : List Open). front ++ node ∷ os) up.1)
          ∙ get_next front node (last_in l.copies l.block) up.0;
    }

same_open : (x y : Open) → Some x ≡ Some y → x ≡ y
same_open x y e = cc

-- what the search for an element in the list returns
abbrev pub TellsIndex : ℕ → TreeState → Option ℕ → Type 0
TellsIndex n view r = r ≡ last_place (is_of n) view.formatting

index_is : (view old : TreeState) (place : ℕ) (b : Bookmark) (t : GrowingTree) (l : Ladder) (c : Climb) (n : ℕ) (r : Option ℕ) → view ≡ old → IsClimbing place b old t l c → TellsIndex n view r → r ≡ entry_place n c.tree.listed
index_is view old place b t l c n r same w tells =
    tells ∙ ap (λ (s : TreeState). last_place (is_of n) s.formatting) same
    ∙ last_place_is c.tree.nodes n c.tree.listed old.formatting w.leads.built.listed

pub passes_nothing : (view old : TreeState) (index : ℕ) (near : Bool) (b : Bookmark) → view ≡ old → None ≡ slice_get view.stack index → Passes index near b b old old
passes_nothing view old index near b same none place round t l node c near_is w at =
    absurd (none-some node (none ∙ ap (λ (s : TreeState). slice_get s.stack index) same ∙ (is_at place index b old t l node c w at).here))

pub passes_bare : (view old new : TreeState) (index : ℕ) (near : Bool) (b : Bookmark) (x : Open) (r : Option ℕ) → IsInOrder view.forest view.stack → view ≡ old → Some x ≡ slice_get view.stack index → TellsIndex x.id view r →
    r ≡ None → new ≡ record old { stack = remove old.stack index } → Passes index near b b old new
passes_bare view old new index near b x r order same got tells none e place round t l node c near_is w at =
    let here = is_at place index b old t l node c w at in
    let one : x ≡ node = same_open x node (got ∙ ap (λ (s : TreeState). slice_get s.stack index) same ∙ here.here) in
    let found = index_is view old place b t (record l { mid = l.mid ++ node ∷ [] }) c x.id r same w tells in
    passed_bare place round b old new t l node c (subst (λ (s : TreeState). IsInOrder s.forest s.stack) same order) w
    (no_place node.id c.tree.listed (ap (λ (o : Open). entry_place o.id c.tree.listed) (sym one) ∙ sym found ∙ none))
    (e ∙ ap (λ (k : ℕ). record old { stack = remove old.stack k }) at)

far_is : (near : Bool) (round : ℕ) → near ≡ not (nat_lt 3 round) → near ≡ false → nat_lt 3 round ≡ true
far_is near round e f = by (nat_lt 3 round) (sym e ∙ f)
  where
    by : (b : Bool) → not b ≡ false → b ≡ true
    by true h = refl
    by false h = absurd (true≢false h)

near_is : (near : Bool) (round : ℕ) → near ≡ not (nat_lt 3 round) → near ≡ true → nat_lt 3 round ≡ false
near_is near round e f = by (nat_lt 3 round) (sym e ∙ f)
  where
    by : (b : Bool) → not b ≡ true → b ≡ false
    by true h = absurd (true≢false (sym h))
    by false h = refl

pub passes_far : (view old mid new : TreeState) (index i : ℕ) (near : Bool) (b after : Bookmark) (x : Open) (r : Option ℕ) → IsInOrder view.forest view.stack → view ≡ old → Some x ≡ slice_get view.stack index → TellsIndex x.id view r →
    r ≡ Some i → near ≡ false → mid ≡ record old { stack = remove old.stack index } → new ≡ record mid { formatting = remove mid.formatting i } → (i < b.index → after.index + 1 ≡ b.index) → (b.index ≤ i → after ≡ b) →
    after.renewed ≡ b.renewed → Passes index near b after old new
passes_far view old mid new index i near b after x r order same got tells some far e f before behind renewed place round t l node c near_is w at =
    let here = is_at place index b old t l node c w at in
    let one : x ≡ node = same_open x node (got ∙ ap (λ (s : TreeState). slice_get s.stack index) same ∙ here.here) in
    let found = index_is view old place b t (record l { mid = l.mid ++ node ∷ [] }) c x.id r same w tells in
    passed_far place round i b after old new t l node c (subst (λ (s : TreeState). IsInOrder s.forest s.stack) same order) w
    (ap (λ (o : Open). entry_place o.id c.tree.listed) (sym one) ∙ sym found ∙ some) (far_is near round near_is far)
    (f ∙ ap (λ (s : TreeState). record s { formatting = remove s.formatting i }) (e ∙ ap (λ (k : ℕ). record old { stack = remove old.stack k }) at))
    (before, λ le. ap (λ (m : Bookmark). m.index) (behind le)) renewed

pub passes_near : (view old new : TreeState) (index i : ℕ) (near : Bool) (b after : Bookmark) (x : Open) (r : Option ℕ) → IsInOrder view.forest view.stack → view ≡ old → Some x ≡ slice_get view.stack index → TellsIndex x.id view r →
    length view.formatting < 2 ^ 64 → r ≡ Some i → near ≡ true → Renews index i old new → (b.renewed ≡ false → i + 1 < 2 ^ 64 → after.index ≡ i + 1) → (b.renewed ≡ true → after ≡ b) → after.renewed ≡ true → Passes index near b after old new
passes_near view old new index i near b after x r order same got tells bounded some close renews first later renewed place round t l node c nearly w at =
    let here = is_at place index b old t l node c w at in
    let one : x ≡ node = same_open x node (got ∙ ap (λ (s : TreeState). slice_get s.stack index) same ∙ here.here) in
    let ordered = subst (λ (s : TreeState). IsInOrder s.forest s.stack) same order in
    let found = ap (λ (o : Open). entry_place o.id c.tree.listed) (sym one) ∙ sym (index_is view old place b t (record l { mid = l.mid ++ node ∷ [] }) c x.id r same w tells) ∙ some in
    let it = node_is old c.tree l node ordered w.leads.built w.stack in
    let stands = listed_stands old c.tree node i w.leads.built it.stands found in
    let below = place_below node.id i c.tree.listed found in
    let long = listed_long old c.tree w.leads.built in
    let view_long = ap (λ (s : TreeState). length s.formatting) same in
    let room : i + 1 < 2 ^ 64 = omega (arith, below, long, view_long, bounded) in
    let made = subst (λ (k : ℕ). IsRenewed k i old new node (last_in l.copies l.block) c.tree) at (renews node (last_in l.copies l.block) here.here here.next c.tree stands w.leads.built) in
    passed_near place round i b after old new t l node c ordered w found (near_is near round nearly close) made stands
    (record { first = λ none. first none room; later = later; renewed = renewed })

-- ---- all elements

-- the elements behind an index are passed
pub record IsOnWay (place at : ℕ) (b : Bookmark) (s : TreeState) (t : GrowingTree) (l : Ladder) : Type 0 where
  pub mid : List Open
  pub rest : List Open
  pub copies : List Open
  pub c : Climb
  pub split : l.mid ≡ mid ++ rest
  pub index : at ≡ place + length mid + 1
  pub less : length copies ≤ length rest
  pub climbing : IsClimbing place b s t (record l { mid = mid; copies = copies }) c
  pub result : climbed l t ≡ climb (ids_of mid) (suc (length rest)) c.last c.mark c.tree

abbrev pub IsUnderWay : ℕ → ℕ → ℕ → Bookmark → Bookmark → TreeState → TreeState → Type 0
IsUnderWay place furthest at b after old new = (t : GrowingTree) (l : Ladder) → Starts place furthest b old t l → IsOnWay place at after new t l

pub way_starts : (place furthest : ℕ) (b : Bookmark) (s : TreeState) → IsUnderWay place furthest furthest b b s s
way_starts place furthest b s t l starts = record {
  mid = l.mid;
  rest = [];
  copies = l.copies;
  c = climb_at l.block.id None t;
  split = sym (with_nothing l.mid);
  index = starts.2;
  less = none (ap (λ (os : List Open). length os) starts.1);
  climbing = starts.0;
  result = refl;
}
  where
    with_nothing : (os : List Open) → os ++ [] ≡ os
    with_nothing [] = refl
    with_nothing (o ∷ os) = ap (λ (ps : List Open). o ∷ ps) (with_nothing os)

    none : {n : ℕ} → n ≡ 0 → n ≤ 0
    none e = omega (arith, e)

-- the last one of a list
record IsEnded (os : List Open) : Type 0 where
  pub front : List Open
  pub last : Open
  pub split : os ≡ front ++ last ∷ []

ended : (o : Open) (os : List Open) → IsEnded (o ∷ os)
ended o [] = record { front = []; last = o; split = refl }
ended o (p ∷ os) = (let more = ended p os in record { front = o ∷ more.front; last = more.last; split = ap (λ (ps : List Open). o ∷ ps) more.split })

ended_if : (os : List Open) → 0 < length os → IsEnded os
ended_if [] less = absurd (omega (arith, less))
ended_if (o ∷ os) less = ended o os

pub way_goes_on : (place furthest before at : ℕ) (near : Bool) (b mark after : Bookmark) (old mid new : TreeState) → before ≡ at + 1 → IsUnderWay place furthest before b mark old mid → place < at →
    ((n : ℕ) → furthest ≡ at + n → near ≡ not (nat_lt 3 n)) → Passes at near mark after mid new → IsUnderWay place furthest at b after old new
way_goes_on place furthest before at near b mark after old mid new from way less tells passes t l starts =
    let w = way t l starts in
    let index = w.index in
    let e = ended_if w.mid (omega (arith, index, less, from)) in
    let long = ap (λ (os : List Open). length os) e.split ∙ length-append e.front (e.last ∷ []) in
    let all = ap (λ (os : List Open). length os) w.split ∙ length-append w.mid w.rest in
    let far = starts.2 in
    let round : near ≡ not (nat_lt 3 (suc (length w.rest))) = tells (suc (length w.rest)) (omega (arith, far, index, all, from)) in
    let here : IsClimbing place mark mid t (record (record l { mid = e.front; copies = w.copies }) { mid = e.front ++ e.last ∷ [] }) w.c =
    subst (λ (os : List Open). IsClimbing place mark mid t (record l { mid = os; copies = w.copies }) w.c) e.split w.climbing in
    let p = passes place (suc (length w.rest)) t (record l { mid = e.front; copies = w.copies }) e.last w.c round here (omega (arith, index, long, from)) in
    let one : Climb = climb (e.last.id ∷ []) (suc (length w.rest)) w.c.last w.c.mark w.c.tree in
    let fewer = w.less in
    let again = p.less in
    record {
      mid = e.front;
      rest = e.last ∷ w.rest;
      copies = p.copies;
      c = one;
      split = w.split ∙ ap (λ (os : List Open). os ++ w.rest) e.split ∙ append_assoc e.front (e.last ∷ []) w.rest;
      index = omega (arith, index, long, from);
      less = omega (arith, fewer, again);
      climbing = p.climbing;
      result = w.result ∙ ap (λ (os : List Open). climb (ids_of os) (suc (length w.rest)) w.c.last w.c.mark w.c.tree) e.split
          ∙ ap (λ (ns : List ℕ). climb ns (suc (length w.rest)) w.c.last w.c.mark w.c.tree) (ids_joined e.front (e.last ∷ []))
          ∙ climb_more e.last.id (ids_of e.front) (suc (length w.rest)) w.c.last w.c.mark w.c.tree;
    }

-- whether an element is among the first three
pub near_told : (m n : ℕ) → m ≡ n → not (nat_lt 3 m) ≡ not (nat_lt 3 n)
near_told m n e = ap (λ (k : ℕ). not (nat_lt 3 k)) e

pub way_ends : (place furthest at : ℕ) (b after : Bookmark) (old new : TreeState) → IsUnderWay place furthest at b after old new → at ≤ place + 1 → Climbs place furthest b after old new
way_ends place furthest at b after old new way stop t l starts =
    let w = way t l starts in
    let index = w.index in
    let none : w.mid ≡ [] = empty w.mid (omega (arith, index, stop)) in
    let long = ap (λ (os : List Open). length os) w.split ∙ length-append w.mid w.rest in
    let nothing = ap (λ (os : List Open). length os) none in
    let start = ap (λ (os : List Open). length os) starts.1 in
    let fewer = w.less in
    let now : IsClimbing place after new t (record l { mid = []; copies = w.copies }) w.c = subst (λ (os : List Open). IsClimbing place after new t (record l { mid = os; copies = w.copies }) w.c) none w.climbing in
    record {
      copies = w.copies;
      less = omega (arith, long, nothing, start, fewer);
      climbing = subst (IsClimbing place after new t (record l { mid = []; copies = w.copies }))
          (sym (w.result ∙ ap (λ (os : List Open). climb (ids_of os) (suc (length w.rest)) w.c.last w.c.mark w.c.tree) none)) (repacked place after new t (record l { mid = []; copies = w.copies }) w.c now);
    }
  where
    empty : (os : List Open) → length os ≤ 0 → os ≡ []
    empty [] le = refl
    empty (o ∷ os) le = absurd (omega (arith, le))

    repacked : (place : ℕ) (b : Bookmark) (s : TreeState) (t : GrowingTree) (l : Ladder) (c : Climb) → IsClimbing place b s t l c → IsClimbing place b s t l (climb_at c.last c.mark c.tree)
    repacked place b s t l c w = record {
      leads = w.leads;
      stack = w.stack;
      long = w.long;
      last = w.last;
      stands = w.stands;
      index = w.index;
      listed = w.listed;
      mark = w.mark;
      inside = w.inside;
    }
