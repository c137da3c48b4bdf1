-- The order of the open elements, as the stack and the tree change.
use Rattle.std.proofs.Common.{ℕ, ◌≡◌, ◌<◌, ◌≤◌, ◌+◌, suc, List, [], ◌∷◌, ◌++◌, Some, sym, ap, ◌∙◌, subst, zero, arith, inl, inr, take, drop, length}
use Rattle.std.specs.Prelude.{All, insert, remove, slice_get, slice_set}
use Rattle.std.specs.List.{AllPairs}
use Rattle.std.proofs.Math.ListN.{get_or}
use Rattle.std.proofs.lemmas.Bool.{cases_lt}
use Rattle.std.proofs.lemmas.List.{append-nil, drop_all, get_or-set_other, get_or-set_same, get_or-take, get_or_append_left, length-append, length-set, length-take, take_all}
use Rattle.std.proofs.lemmas.List.Edits.{get_or-insert_above, get_or-insert_at, get_or-insert_below, length-insert}
use Rattle.std.proofs.lemmas.List.Elements.{All-from_get_or, All-get_or}
use Rattle.std.proofs.lemmas.List.Quantifiers.{all_pairs_push, all_pairs_remove}
use Rattle.std.proofs.lemmas.Option.{get_or_from_slice_get, slice_get_within}
use Rattle.dom_links.specs.Forest.{Forest}
use Rattle.dom_links.specs.Moves.{moved_to, owner_at}
use Rattle.dom_links.specs.declared.gap.InsertionPoint.{InsertionPoint}
use Rattle.dom_links.specs.Sound.{AtOrBelow, IsForest, IsHostAncestor, IsOpenGap, target}
use Rattle.dom_links.specs.declared.gap.MovedNodes.TheVariants.{Node}
use Rattle.dom_trees.specs.Edits.{MayMove}
use Rattle.page_trees.specs.Elements.{AreOpen, Grows, IsAround, IsElement, IsFresh, IsInOrder, IsInside, IsRooted, LiesIn}
use Rattle.page_trees.specs.declared.stack.Open.{Open}
use Rattle.page_trees.proofs.MadeNodes.{element_known, element_moves, one_allowed}
use Rattle.page_trees.proofs.Ways.{node_steps, owner_target, ways_into}

-- ---- lists

pairs_front : {X : Type 0} (R : X → X → Type 0) (xs ys : List X) → AllPairs R (xs ++ ys) → AllPairs R xs
pairs_front R xs ys h i j d lt within =
    let long = length-append xs ys in
    let low : get_or xs i d ≡ get_or (xs ++ ys) i d = sym (get_or_append_left xs ys d i (omega (arith, lt, within))) in
    let high : get_or xs j d ≡ get_or (xs ++ ys) j d = sym (get_or_append_left xs ys d j within) in
    subst (λ x. R x (get_or xs j d)) (sym low) (subst (R (get_or (xs ++ ys) i d)) (sym high) (h i j d lt (omega (arith, within, long))))

pairs_removed : {X : Type 0} (R : X → X → Type 0) (xs : List X) (n : ℕ) → AllPairs R xs → AllPairs R (remove xs n)
pairs_removed R xs n h = elim (cases_lt n (length xs)) [
  | inl within ↦ all_pairs_remove R xs n within h
  | inr past ↦ (let same : remove xs n ≡ xs = ap (λ ys. ys ++ drop (suc n) xs) (take_all n xs past) ∙ ap (λ ys. xs ++ ys) (drop_all (suc n) xs (omega (arith, past))) ∙ append-nil xs in
      subst (AllPairs R) (sym same) h)
]

pairs_set : {X : Type 0} (R : X → X → Type 0) (xs : List X) (n : ℕ) (y : X) → AllPairs R xs → ((k : ℕ) (d : X) → k < n → n < length xs → R (get_or xs k d) y) →
    ((k : ℕ) (d : X) → n < k → k < length xs → R y (get_or xs k d)) → AllPairs R (slice_set xs n y)
pairs_set R xs n y h before behind i j d lt within =
    let long = length-set xs n y in
    let here : j < length xs = omega (arith, within, long) in
    elim (cases_lt i n) [
      | inl below ↦ (elim (cases_lt j n) [
        | inl low ↦ rw (get_or-set_other xs n i y d (λ e. absurd (omega (arith, e, below))), get_or-set_other xs n j y d (λ e. absurd (omega (arith, e, low)))) (h i j d lt here)
        | inr high ↦ (elim (cases_lt n j) [
          | inl above ↦ rw (get_or-set_other xs n i y d (λ e. absurd (omega (arith, e, below))), get_or-set_other xs n j y d (λ e. absurd (omega (arith, e, above)))) (h i j d lt here)
          | inr under ↦ (let e : j ≡ n = omega (arith, high, under) in
              rw (get_or-set_other xs n i y d (λ e. absurd (omega (arith, e, below))), e, get_or-set_same xs n y d (omega (arith, e, here))) (before i d below (omega (arith, e, here))))
        ])
      ])
      | inr above ↦ (elim (cases_lt n i) [
        | inl behind_it ↦ rw (get_or-set_other xs n i y d (λ e. absurd (omega (arith, e, behind_it))), get_or-set_other xs n j y d (λ e. absurd (omega (arith, e, lt, behind_it)))) (h i j d lt here)
        | inr under ↦ (let e : i ≡ n = omega (arith, above, under) in
            rw (e, get_or-set_same xs n y d (omega (arith, e, lt, here)), get_or-set_other xs n j y d (λ e'. absurd (omega (arith, e, e', lt)))) (behind j d (omega (arith, e, lt)) here))
      ])
    ]

next : (k : ℕ) → suc k ≡ k + 1
next k = omega arith

pairs_inserted : {X : Type 0} (R : X → X → Type 0) (xs : List X) (n : ℕ) (y : X) → n ≤ length xs → AllPairs R xs → ((k : ℕ) (d : X) → k < n → R (get_or xs k d) y) →
    ((k : ℕ) (d : X) → n ≤ k → k < length xs → R y (get_or xs k d)) → AllPairs R (insert xs n y)
pairs_inserted R xs n y known h before behind i zero d lt within = absurd (omega (arith, lt))
pairs_inserted R xs n y known h before behind i (suc j) d lt within =
    let long = length-insert xs n y known in
    elim (cases_lt (suc j) n) [
      | inl low ↦ rw (get_or-insert_below xs n y d i (omega (arith, lt, low)) known, get_or-insert_below xs n y d (suc j) low known) (h i (suc j) d lt (omega (arith, low, known)))
      | inr high ↦ (elim (cases_lt n (suc j)) [
        | inr under ↦ (let e : suc j ≡ n = omega (arith, high, under) in
            let at : get_or (insert xs n y) (suc j) d ≡ y = ap (λ k. get_or (insert xs n y) k d) e ∙ get_or-insert_at xs n y d known in
            rw (get_or-insert_below xs n y d i (omega (arith, lt, e)) known, at) (before i d (omega (arith, lt, e))))
        | inl above ↦ (let right : get_or (insert xs n y) (suc j) d ≡ get_or xs j d = ap (λ k. get_or (insert xs n y) k d) (next j) ∙ get_or-insert_above xs n y d j (omega (arith, above)) known in
            after i lt (omega (arith, within, long)) (omega (arith, above)) right)
      ])
    ]
  where
    after : (i : ℕ) → i < suc j → j < length xs → n ≤ j → get_or (insert xs n y) (suc j) d ≡ get_or xs j d → R (get_or (insert xs n y) i d) (get_or (insert xs n y) (suc j) d)
    after zero lt here above right = elim (cases_lt zero n) [
      | inl low ↦ rw (get_or-insert_below xs n y d zero low known, right) (h zero j d (omega (arith, low, above)) here)
      | inr high ↦ (let e : zero ≡ n = omega (arith, high) in
          let at : get_or (insert xs n y) zero d ≡ y = ap (λ k. get_or (insert xs n y) k d) e ∙ get_or-insert_at xs n y d known in
          rw (at, right) (behind j d above here))
    ]
    after (suc i) lt here above right = elim (cases_lt (suc i) n) [
      | inl low ↦ rw (get_or-insert_below xs n y d (suc i) low known, right) (h (suc i) j d (omega (arith, low, above)) here)
      | inr high ↦ (elim (cases_lt n (suc i)) [
        | inl past ↦ (let left : get_or (insert xs n y) (suc i) d ≡ get_or xs i d = ap (λ k. get_or (insert xs n y) k d) (next i) ∙ get_or-insert_above xs n y d i (omega (arith, past)) known in
            rw (left, right) (h i j d (omega (arith, lt)) here))
        | inr under ↦ (let e : suc i ≡ n = omega (arith, high, under) in
            let at : get_or (insert xs n y) (suc i) d ≡ y = ap (λ k. get_or (insert xs n y) k d) e ∙ get_or-insert_at xs n y d known in
            rw (at, right) (behind j d above here))
      ])
    ]

-- ---- the stack

pub open_at : (f : Forest) (os : List Open) (i : ℕ) (d : Open) → AreOpen f os → i < length os → IsElement f (get_or os i d).id
open_at f os i d are within = All-get_or (λ (o : Open). IsElement f o.id) os i d within are

pub element_there : (f : Forest) (os : List Open) (n : ℕ) (o : Open) → AreOpen f os → slice_get os n ≡ Some o → IsElement f o.id
element_there f os n o are there =
    subst (λ (p : Open). IsElement f p.id) (get_or_from_slice_get os n o o there) (open_at f os n o are (slice_get_within os n o there))

pub order_grown : (f g : Forest) (os : List Open) → Grows f g → AreOpen f os → IsInOrder f os → IsInOrder g os
order_grown f g os grows are order i j d lt within at =
    order i j d lt within (elim at [
      | inl e ↦ inl e
      | inr way ↦ inr (grows.ways _ _ (open_at f os j d are within) (open_at f os i d are (omega (arith, lt, within))) way)
    ])

pub order_front : (f : Forest) (os ns : List Open) → IsInOrder f (os ++ ns) → IsInOrder f os
order_front f os ns order = pairs_front (λ (a b : Open). AtOrBelow f b.id a.id → ⊥) os ns order

pub order_removed : (f : Forest) (os : List Open) (n : ℕ) → IsInOrder f os → IsInOrder f (remove os n)
order_removed f os n order = pairs_removed (λ (a b : Open). AtOrBelow f b.id a.id → ⊥) os n order

-- an element that was just made is opened
pub order_pushed : (f g : Forest) (os : List Open) (o : Open) → Grows f g → IsFresh f g o.id → AreOpen f os → IsInOrder f os → IsInOrder g (os ++ o ∷ [])
order_pushed f g os o grows fresh are order =
    all_pairs_push (λ (a b : Open). AtOrBelow g b.id a.id → ⊥) os o (order_grown f g os grows are order) (λ k d within at. fresh.below _ (open_at f os k d are within) at)

-- a copy takes the place of an element, and holds the one behind it
pub order_renewed : (f g : Forest) (os : List Open) (n : ℕ) (copy last : Open) → Grows f g → IsAround f g copy.id last.id → AreOpen f os → slice_get os (n + 1) ≡ Some last → IsInOrder f os → IsInOrder g (slice_set os n copy)
order_renewed f g os n copy last grows around are there order =
    pairs_set (λ (a b : Open). AtOrBelow g b.id a.id → ⊥) os n copy (order_grown f g os grows are order)
    (λ k d lt within at. (let is = get_or_from_slice_get os (n + 1) last d there in
    let here = slice_get_within os (n + 1) last there in
    let old = around.below _ (open_at f os k d are (omega (arith, lt, within))) at in
    order k (n + 1) d (omega (arith, lt)) here (subst (λ (o : Open). AtOrBelow f o.id (get_or os k d).id) (sym is) old)))
    (λ k d lt within at. around.above _ (open_at f os k d are within) at)

-- a copy that lies in an element is opened right behind it
pub order_copied : (f g : Forest) (os : List Open) (n : ℕ) (copy furthest : Open) → IsForest f → Grows f g → IsInside f g copy.id furthest.id → AreOpen f os → slice_get os n ≡ Some furthest → IsInOrder f os → IsInOrder g (insert os (n + 1) copy)
order_copied f g os n copy furthest good grows inside are there order =
    let here = slice_get_within os n furthest there in
    pairs_inserted (λ (a b : Open). AtOrBelow g b.id a.id → ⊥) os (n + 1) copy (omega (arith, here)) (order_grown f g os grows are order)
    (λ k d lt at. (let is = get_or_from_slice_get os n furthest d there in
    let way = inside.below _ (open_at f os k d are (omega (arith, lt, here))) at in
    elim (cases_lt k n) [
      | inl low ↦ order k n d low here (inr (subst (λ (o : Open). IsHostAncestor f o.id (get_or os k d).id) (sym is) way))
      | inr high ↦ (let e : k ≡ n = omega (arith, high, lt) in
          let same : get_or os k d ≡ furthest = ap (λ j. get_or os j d) e ∙ is in
          good.acyclic furthest.id (subst (λ (o : Open). IsHostAncestor f furthest.id o.id) same way))
    ]))
    (λ k d le within at. (let is = get_or_from_slice_get os n furthest d there in
    let up = inside.above _ (open_at f os k d are within) at in
    order n k d (omega (arith, le)) within (subst (λ (o : Open). AtOrBelow f (get_or os k d).id o.id) (sym is) up)))

-- ---- the last move of the adoption agency

-- an are element is and holds none of those that stand before it
pub none_before : (f : Forest) (os : List Open) (n j : ℕ) (d : Open) → n ≤ j → j < length os → IsInOrder f os → All (λ (o : Open). AtOrBelow f (get_or os j d).id o.id → ⊥) (take n os)
none_before f os n j d le within order =
    All-from_get_or (λ (o : Open). AtOrBelow f (get_or os j d).id o.id → ⊥) (take n os) d (λ i lt.
    (let short = length-take n os in
    let low : i < n = omega (arith, lt, short) in
    subst (λ (o : Open). AtOrBelow f (get_or os j d).id o.id → ⊥) (sym (get_or-take n os i d low)) (order i j d (omega (arith, low, le)) within)))

-- it may be moved to a gap that lies in those
pub open_moves : (f : Forest) (os : List Open) (n : ℕ) (gap : InsertionPoint) (last : Open) → IsRooted f → AreOpen f os → IsInOrder f os → slice_get os (n + 1) ≡ Some last → IsOpenGap gap f → LiesIn f (take n os) (target gap) → MayMove gap (Node last.id) f
open_moves f os n gap last rooted are order there opens lies =
    let here = slice_get_within os (n + 1) last there in
    let is = get_or_from_slice_get os (n + 1) last last there in
    let element = subst (λ (o : Open). IsElement f o.id) is (open_at f os (n + 1) last are here) in
    let none = subst (λ (o : Open). All (λ (b : Open). AtOrBelow f o.id b.id → ⊥) (take n os)) is (none_before f os n (n + 1) last (omega arith) here order) in
    record {
      known = element_known f last.id element;
      list = one_allowed f gap last.id opens (record {
        moves = element_moves f last.id rooted element;
        apart = λ e. lies last.id element none (inl e);
        free = λ way. lies last.id element none (inr way);
      });
    }

-- and the order stays
pub order_moved : (f g : Forest) (os : List Open) (n : ℕ) (gap : InsertionPoint) (last : Open) → IsForest f → AreOpen f os → IsInOrder f os → slice_get os (n + 1) ≡ Some last → IsOpenGap gap f → LiesIn f (take n os) (target gap) →
    g ≡ moved_to (last.id ∷ []) gap f → IsInOrder g os
order_moved f g os n gap last good are order there opens lies e i j d lt within at =
    let here = slice_get_within os (n + 1) last there in
    let is = get_or_from_slice_get os (n + 1) last d there in
    let element = subst (λ (o : Open). IsElement f o.id) is (open_at f os (n + 1) d are here) in
    let none = subst (λ (o : Open). All (λ (b : Open). AtOrBelow f o.id b.id → ⊥) (take n os)) is (none_before f os n (n + 1) d (omega arith) here order) in
    elim at [
      | inl same ↦ order i j d lt within (inl same)
      | inr way ↦ (elim (ways_into f g (λ m. owner_at gap f ≡ Some m) (λ m. last.id ≡ m) (node_steps f g gap last.id good (element_known f last.id element) opens.0 (λ same. lies last.id element none (inl same)) e) _ _ way) [
        | inl old ↦ order i j d lt within (inr old)
        | inr both ↦ (elim (cases_lt j n) [
          | inr behind ↦ lies _ (open_at f os j d are within) (none_before f os n j d behind within order) (owner_target f gap both.0.0 _ both.0.1 both.0.2)
          | inl before ↦ order i (n + 1) d (omega (arith, lt, before)) here (subst (λ (k : ℕ). AtOrBelow f k (get_or os i d).id) (ap (λ (o : Open). o.id) (sym is)) (subst (λ (k : ℕ). AtOrBelow f k (get_or os i d).id) (sym both.1.1) both.1.2))
        ])
      ])
    ]
