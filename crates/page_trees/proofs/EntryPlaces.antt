-- Entries of the list of active formatting elements are found, removed, inserted and replaced at an index.
use Rattle.std.proofs.Common.{◌≡◌, ℕ, ◌<◌, ◌≤◌, ◌||◌, Bool, true, false, List, [], ◌∷◌, ◌++◌, map, reverse, refl, sym, ap, ◌∙◌, length, Option, Some, None, subst, suc, arith, true≢false, if◌then◌else◌}
use Rattle.std.specs.Prelude.{All, insert, nat_eq, remove, slice_set}
use Rattle.std.proofs.lemmas.Bool.{eq-eqb, eqb-true}
use Rattle.std.proofs.lemmas.List.{append_assoc, length-append, length-map, length-reverse, reverse-append, reverse-reverse}
use Rattle.std.proofs.lemmas.List.Elements.{All-append, All-cons, All-head, All-tail}
use Rattle.standard_trees.specs.Formatting.{is_entry}
use Rattle.standard_trees.specs.GrowingTree.{Entry as StandardEntry, Formatting, Marker}
use Rattle.standard_trees.specs.TreeStore.{ContentsNode, ElementNode, Node, NodeAttr, Space, node_at}
use Rattle.page_trees.specs.Adopting.{IsIndexLeft, entry_place}
use Rattle.page_trees.specs.Formatting.{is_of, last_place, place_from_end}
use Rattle.page_trees.specs.Stands.{EntryStands, IsListOf, entry_of}
use Rattle.page_trees.specs.declared.formatting.Entry.{Entry}
use Rattle.page_trees.proofs.KeptElements.{past_kind}
use Rattle.page_trees.proofs.ReopenedElements.{entries_apart}
use Rattle.page_trees.proofs.SplitLists.{lists, neither}

-- ---- lists that are turned

pub removed_at : {X : Type 0} (low : List X) (x : X) (rest : List X) → remove (low ++ x ∷ rest) (length low) ≡ low ++ rest
removed_at [] x rest = refl
removed_at (y ∷ low) x rest = ap (λ ys. y ∷ ys) (removed_at low x rest)

pub inserted_at : {X : Type 0} (low : List X) (x : X) (rest : List X) → insert (low ++ rest) (length low) x ≡ low ++ x ∷ rest
inserted_at [] x rest = refl
inserted_at (y ∷ low) x rest = ap (λ ys. y ∷ ys) (inserted_at low x rest)

pub set_at : {X : Type 0} (low : List X) (x y : X) (rest : List X) → slice_set (low ++ x ∷ rest) (length low) y ≡ low ++ y ∷ rest
set_at [] x y rest = refl
set_at (z ∷ low) x y rest = ap (λ ys. z ∷ ys) (set_at low x y rest)

-- entries that stand for the front and the back of the list, from its end on
pub record IsTurned (front back : List StandardEntry) (es : List Entry) : Type 0 where
  pub low : List Entry
  pub high : List Entry
  pub split : es ≡ low ++ high
  pub is_front : map entry_of (reverse high) ≡ front
  pub is_back : map entry_of (reverse low) ≡ back

record IsSplit (front back : List StandardEntry) (xs : List Entry) : Type 0 where
  pub first : List Entry
  pub rest : List Entry
  pub split : xs ≡ first ++ rest
  pub is_front : map entry_of first ≡ front
  pub is_back : map entry_of rest ≡ back

map_split : (front back : List StandardEntry) (xs : List Entry) → map entry_of xs ≡ front ++ back → IsSplit front back xs
map_split [] back xs e = record { first = []; rest = xs; split = refl; is_front = refl; is_back = e }
map_split (y ∷ front) back [] e = cc
map_split (y ∷ front) back (x ∷ xs) e =
    let here : entry_of x ≡ y = cc in
    let more = map_split front back xs (cc) in
    record {
      first = x ∷ more.first;
      rest = more.rest;
      split = ap (λ (zs : List Entry). x ∷ zs) more.split;
      is_front = ap (λ (z : StandardEntry). z ∷ map entry_of more.first) here ∙ ap (λ (zs : List StandardEntry). y ∷ zs) more.is_front;
      is_back = more.is_back;
    }

pub turned : (front back : List StandardEntry) (es : List Entry) → front ++ back ≡ map entry_of (reverse es) → IsTurned front back es
turned front back es e =
    let it = map_split front back (reverse es) (sym e) in
    record {
      low = reverse it.rest;
      high = reverse it.first;
      split = sym (reverse-reverse es) ∙ ap (λ (xs : List Entry). reverse xs) it.split ∙ reverse-append it.first it.rest;
      is_front = ap (λ (xs : List Entry). map entry_of xs) (reverse-reverse it.first) ∙ it.is_front;
      is_back = ap (λ (xs : List Entry). map entry_of xs) (reverse-reverse it.rest) ∙ it.is_back;
    }

mapped : (xs ys : List Entry) → map entry_of (xs ++ ys) ≡ map entry_of xs ++ map entry_of ys
mapped [] ys = refl
mapped (x ∷ xs) ys = ap (λ (es : List StandardEntry). entry_of x ∷ es) (mapped xs ys)

turned_back : (low high : List Entry) → map entry_of (reverse (low ++ high)) ≡ map entry_of (reverse high) ++ map entry_of (reverse low)
turned_back low high = ap (λ (es : List Entry). map entry_of es) (reverse-append low high) ∙ mapped (reverse high) (reverse low)

long_back : (low : List Entry) (back : List StandardEntry) → map entry_of (reverse low) ≡ back → length low ≡ length back
long_back low back e = sym (length-reverse low) ∙ sym (length-map (reverse low) entry_of) ∙ ap (λ (es : List StandardEntry). length es) e

-- a list and its reverse, split at one entry
pub record IsTurnedAt (front : List StandardEntry) (x : StandardEntry) (back : List StandardEntry) (es : List Entry) : Type 0 where
  pub low : List Entry
  pub entry : Entry
  pub high : List Entry
  pub split : es ≡ low ++ entry ∷ high
  pub is_front : map entry_of (reverse high) ≡ front
  pub here : entry_of entry ≡ x
  pub is_back : map entry_of (reverse low) ≡ back

turned_there : (later : List Entry) (e : Entry) (before : List Entry) → reverse (later ++ e ∷ before) ≡ reverse before ++ e ∷ reverse later
turned_there later e before =
    reverse-append later (e ∷ before) ∙ ap (λ (es : List Entry). es ++ reverse later) (reverse-append (e ∷ []) before) ∙ append_assoc (reverse before) (e ∷ []) (reverse later)

pub turned_at : (front : List StandardEntry) (x : StandardEntry) (back : List StandardEntry) (es : List Entry) → front ++ x ∷ back ≡ map entry_of (reverse es) → IsTurnedAt front x back es
turned_at front x back es e = (let it = map_split front (x ∷ back) (reverse es) (sym e) in by it.first it.rest it.split it.is_front it.is_back)
  where
    by : (first rest : List Entry) → reverse es ≡ first ++ rest → map entry_of first ≡ front → map entry_of rest ≡ x ∷ back → IsTurnedAt front x back es
    by first [] split fronts backs = cc
    by first (y ∷ rest) split fronts backs = record {
      low = reverse rest;
      entry = y;
      high = reverse first;
      split = sym (reverse-reverse es) ∙ ap (λ (xs : List Entry). reverse xs) split ∙ turned_there first y rest;
      is_front = ap (λ (xs : List Entry). map entry_of xs) (reverse-reverse first) ∙ fronts;
      here = cc;
      is_back = ap (λ (xs : List Entry). map entry_of xs) (reverse-reverse rest) ∙ cc;
    }

-- ---- the list, by what is done to the entries

pub entry_removed : (nodes : List Node) (front : List StandardEntry) (x : StandardEntry) (back : List StandardEntry) (es : List Entry) (i : ℕ) → IsListOf nodes (front ++ x ∷ back) es → length back ≡ i →
    IsListOf nodes (front ++ back) (remove es i)
entry_removed nodes front x back es i is long =
    let it = turned_at front x back es is.list in
    let now : remove es i ≡ it.low ++ it.high =
    ap (λ (k : ℕ). remove es k) (sym (long_back it.low back it.is_back ∙ long)) ∙ ap (λ (xs : List Entry). remove xs (length it.low)) it.split ∙ removed_at it.low it.entry it.high in
    let parts = entries_apart (EntryStands nodes) it.low (it.entry ∷ it.high) (subst (All (EntryStands nodes)) it.split is.elements) in
    record {
      list = ap (λ (xs : List StandardEntry). xs ++ back) (sym it.is_front) ∙ ap (λ (xs : List StandardEntry). map entry_of (reverse it.high) ++ xs) (sym it.is_back) ∙ sym (turned_back it.low it.high)
          ∙ ap (λ (xs : List Entry). map entry_of (reverse xs)) (sym now);
      elements = subst (All (EntryStands nodes)) (sym now) (All-append (EntryStands nodes) it.low it.high parts.0 (All-tail (EntryStands nodes) it.entry it.high parts.1));
    }

turned_with : (low high : List Entry) (e : Entry) → map entry_of (reverse (low ++ e ∷ high)) ≡ map entry_of (reverse high) ++ entry_of e ∷ map entry_of (reverse low)
turned_with low high e = ap (λ (xs : List Entry). map entry_of xs) (turned_there low e high) ∙ mapped (reverse high) (e ∷ reverse low)

pub entry_inserted : (nodes : List Node) (front back : List StandardEntry) (es : List Entry) (i : ℕ) (e : Entry) → IsListOf nodes (front ++ back) es → length back ≡ i → EntryStands nodes e →
    IsListOf nodes (front ++ entry_of e ∷ back) (insert es i e)
entry_inserted nodes front back es i e is long stands =
    let it = turned front back es is.list in
    let now : insert es i e ≡ it.low ++ e ∷ it.high =
    ap (λ (k : ℕ). insert es k e) (sym (long_back it.low back it.is_back ∙ long)) ∙ ap (λ (xs : List Entry). insert xs (length it.low) e) it.split ∙ inserted_at it.low e it.high in
    let parts = entries_apart (EntryStands nodes) it.low it.high (subst (All (EntryStands nodes)) it.split is.elements) in
    record {
      list = ap (λ (xs : List StandardEntry). xs ++ entry_of e ∷ back) (sym it.is_front) ∙ ap (λ (xs : List StandardEntry). map entry_of (reverse it.high) ++ entry_of e ∷ xs) (sym it.is_back)
          ∙ sym (turned_with it.low it.high e) ∙ ap (λ (xs : List Entry). map entry_of (reverse xs)) (sym now);
      elements = subst (All (EntryStands nodes)) (sym now) (All-append (EntryStands nodes) it.low (e ∷ it.high) parts.0 (All-cons (EntryStands nodes) e it.high stands parts.1));
    }

pub entry_set : (nodes : List Node) (front : List StandardEntry) (x : StandardEntry) (back : List StandardEntry) (es : List Entry) (i : ℕ) (e : Entry) → IsListOf nodes (front ++ x ∷ back) es → length back ≡ i → EntryStands nodes e →
    IsListOf nodes (front ++ entry_of e ∷ back) (slice_set es i e)
entry_set nodes front x back es i e is long stands =
    let it = turned_at front x back es is.list in
    let now : slice_set es i e ≡ it.low ++ e ∷ it.high =
    ap (λ (k : ℕ). slice_set es k e) (sym (long_back it.low back it.is_back ∙ long)) ∙ ap (λ (xs : List Entry). slice_set xs (length it.low) e) it.split ∙ set_at it.low it.entry e it.high in
    let parts = entries_apart (EntryStands nodes) it.low (it.entry ∷ it.high) (subst (All (EntryStands nodes)) it.split is.elements) in
    record {
      list = ap (λ (xs : List StandardEntry). xs ++ entry_of e ∷ back) (sym it.is_front) ∙ ap (λ (xs : List StandardEntry). map entry_of (reverse it.high) ++ entry_of e ∷ xs) (sym it.is_back)
          ∙ sym (turned_with it.low it.high e) ∙ ap (λ (xs : List Entry). map entry_of (reverse xs)) (sym now);
      elements = subst (All (EntryStands nodes)) (sym now) (All-append (EntryStands nodes) it.low (e ∷ it.high) parts.0 (All-cons (EntryStands nodes) e it.high stands (All-tail (EntryStands nodes) it.entry it.high parts.1)));
    }

-- ---- the place of an entry

pub record IsPlacedAt (n i : ℕ) (es : List StandardEntry) : Type 0 where
  pub front : List StandardEntry
  pub back : List StandardEntry
  pub split : es ≡ front ++ Formatting n ∷ back
  pub long : length back ≡ i
  pub before : lists n front ≡ false

self_test : (n : ℕ) → nat_eq n n ≡ true
self_test n = eq-eqb n n refl

entry_is : (n : ℕ) (e : StandardEntry) → is_entry n e ≡ true → e ≡ Formatting n
entry_is n Marker h = absurd (true≢false (sym h))
entry_is n (Formatting m) h = ap Formatting (eqb-true m n h)

pub placed_at : (n i : ℕ) (es : List StandardEntry) → entry_place n es ≡ Some i → IsPlacedAt n i es
placed_at n i [] h = cc
placed_at n i (e ∷ es) h = by (is_entry n e) refl h (placed_at n i es)
  where
    by : (b : Bool) → is_entry n e ≡ b → (if b then Some (length es) else entry_place n es) ≡ Some i → (entry_place n es ≡ Some i → IsPlacedAt n i es) → IsPlacedAt n i (e ∷ es)
    by true is h more = record { front = []; back = es; split = ap (λ (x : StandardEntry). x ∷ es) (entry_is n e is); long = cc; before = refl }
    by false is h more =
        let rest = more h in
        record { front = e ∷ rest.front; back = rest.back; split = ap (λ (xs : List StandardEntry). e ∷ xs) rest.split; long = rest.long; before = ap (λ b. b || lists n rest.front) is ∙ rest.before }

pub placed_there : (n : ℕ) (front back : List StandardEntry) → lists n front ≡ false → entry_place n (front ++ Formatting n ∷ back) ≡ Some (length back)
placed_there n [] back h = ap (λ b. if b then Some (length back) else entry_place n back) (self_test n)
placed_there n (e ∷ front) back h =
    let parts = neither (is_entry n e) (lists n front) h in
    ap (λ b. if b then Some (length (front ++ Formatting n ∷ back)) else entry_place n (front ++ Formatting n ∷ back)) parts.0 ∙ placed_there n front back parts.1

pub no_place : (n : ℕ) (es : List StandardEntry) → entry_place n es ≡ None → lists n es ≡ false
no_place n [] h = refl
no_place n (e ∷ es) h = by (is_entry n e) h (no_place n es)
  where
    by : (b : Bool) → (if b then Some (length es) else entry_place n es) ≡ None → (entry_place n es ≡ None → lists n es ≡ false) → (b || lists n es) ≡ false
    by true h more = cc
    by false h more = more h

pub is_placed : (n i : ℕ) (es : List StandardEntry) → entry_place n es ≡ Some i → lists n es ≡ true
is_placed n i [] h = cc
is_placed n i (e ∷ es) h = by (is_entry n e) h (is_placed n i es)
  where
    by : (b : Bool) → (if b then Some (length es) else entry_place n es) ≡ Some i → (entry_place n es ≡ Some i → lists n es ≡ true) → (b || lists n es) ≡ true
    by true h more = refl
    by false h more = more h

-- the index that the code finds
pub place_is : (n : ℕ) (es : List Entry) → place_from_end (is_of n) es ≡ entry_place n (map entry_of es)
place_is n [] = refl
place_is n (Entry.Marker ∷ es) = place_is n es
place_is n (Entry.Element o ∷ es) =
    ap (λ (k : ℕ). if is_entry n (Formatting o.id) then Some k else place_from_end (is_of n) es) (sym (length-map es entry_of))
    ∙ ap (λ (p : Option ℕ). if is_entry n (Formatting o.id) then Some (length (map entry_of es)) else p) (place_is n es)

pub last_place_is : (nodes : List Node) (n : ℕ) (listed : List StandardEntry) (es : List Entry) → IsListOf nodes listed es → last_place (is_of n) es ≡ entry_place n listed
last_place_is nodes n listed es is = place_is n (reverse es) ∙ ap (entry_place n) (sym is.list)

-- another entry is removed
pub record IsStillPlaced (n gone i : ℕ) (es : List StandardEntry) : Type 0 where
  pub index : ℕ
  pub placed : entry_place n es ≡ Some index
  pub left : IsIndexLeft gone i index
  pub other : i ≡ gone → ⊥

pub place_below : (n i : ℕ) (es : List StandardEntry) → entry_place n es ≡ Some i → i < length es
place_below n i [] h = cc
place_below n i (e ∷ es) h = by (is_entry n e) h (place_below n i es)
  where
    by : (b : Bool) → (if b then Some (length es) else entry_place n es) ≡ Some i → (entry_place n es ≡ Some i → i < length es) → i < suc (length es)
    by true h more = (let same : length es ≡ i = cc in omega (arith, same))
    by false h more = (let less = more h in omega (arith, less))

pub still_placed : (n i : ℕ) (front : List StandardEntry) (x : StandardEntry) (back : List StandardEntry) → is_entry n x ≡ false → entry_place n (front ++ x ∷ back) ≡ Some i →
    IsStillPlaced n (length back) i (front ++ back)
still_placed n i [] x back other h =
    let here : entry_place n back ≡ Some i = sym (ap (λ b. if b then Some (length back) else entry_place n back) other) ∙ h in
    let less = place_below n i back here in
    record { index = i; placed = here; left = ((λ more. absurd (omega (arith, less, more))), λ same. refl); other = λ e. omega (arith, less, e) }
still_placed n i (e ∷ front) x back other h =
    let it = by (is_entry n e) h (still_placed n i front x back other) in
    record { index = it.0; placed = it.1; left = it.2; other = it.3 }
  where
    by : (b : Bool) → (if b then Some (length (front ++ x ∷ back)) else entry_place n (front ++ x ∷ back)) ≡ Some i →
        (entry_place n (front ++ x ∷ back) ≡ Some i → IsStillPlaced n (length back) i (front ++ back)) → (let place : Option ℕ = if b then Some (length (front ++ back)) else entry_place n (front ++ back) in
        (j : ℕ) × (place ≡ Some j) × IsIndexLeft (length back) i j × (i ≡ length back → ⊥))
    by true h more =
        let same : length (front ++ x ∷ back) ≡ i = cc in
        let long = length-append front (x ∷ back) in
        let short = length-append front back in
        (length (front ++ back), refl, ((λ less. omega (arith, same, long, short)), λ le. absurd (omega (arith, same, long, le))), λ e. omega (arith, same, long, e))
    by false h more = (let rest = more h in (rest.index, rest.placed, rest.left, rest.other))

-- another one takes the place of an entry
pub place_kept : (n : ℕ) (front : List StandardEntry) (x y : StandardEntry) (back : List StandardEntry) → is_entry n x ≡ false → is_entry n y ≡ false →
    entry_place n (front ++ y ∷ back) ≡ entry_place n (front ++ x ∷ back)
place_kept n [] x y back not_x not_y =
    ap (λ b. if b then Some (length back) else entry_place n back) not_y ∙ sym (ap (λ b. if b then Some (length back) else entry_place n back) not_x)
place_kept n (e ∷ front) x y back not_x not_y =
    let long = length-append front (x ∷ back) in
    let again = length-append front (y ∷ back) in
    ap (λ (k : ℕ). if is_entry n e then Some k else entry_place n (front ++ y ∷ back)) (again ∙ sym long)
    ∙ ap (λ (p : Option ℕ). if is_entry n e then Some (length (front ++ x ∷ back)) else p) (place_kept n front x y back not_x not_y)

-- ---- a node that is made now is in no entry

pub fresh_unlisted : (nodes : List Node) (es : List Entry) (n : ℕ) → All (EntryStands nodes) es → length nodes ≤ n → lists n (map entry_of es) ≡ false
fresh_unlisted nodes [] n all le = refl
fresh_unlisted nodes (Entry.Marker ∷ es) n all le = fresh_unlisted nodes es n (All-tail (EntryStands nodes) Entry.Marker es all) le
fresh_unlisted nodes (Entry.Element o ∷ es) n all le =
    let stands = All-head (EntryStands nodes) (Entry.Element o) es all in
    ap (λ b. b || lists n (map entry_of es)) (by (nat_eq o.id n) refl stands) ∙ fresh_unlisted nodes es n (All-tail (EntryStands nodes) (Entry.Element o) es all) le
  where
    no_contents : {space : Space} {name : List ℕ} {attrs : List NodeAttr} {contents : Option ℕ} → ElementNode space name attrs contents ≡ ContentsNode → ⊥
    no_contents e = cc

    by : (b : Bool) → nat_eq o.id n ≡ b → EntryStands nodes (Entry.Element o) → b ≡ false
    by false e stands = refl
    by true e stands =
        let same : o.id ≡ n = eqb-true o.id n e in
        let past : (node_at nodes o.id).kind ≡ ContentsNode = past_kind nodes o.id (omega (arith, same, le)) in
        absurd (no_contents (sym stands.0.kind ∙ past))
