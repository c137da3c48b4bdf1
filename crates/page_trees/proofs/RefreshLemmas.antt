-- The entries of the search index after two neighbours on the stack changed places.
use Rattle.std.proofs.Common.{ℕ, zero, suc, ◌≡◌, ◌+◌, ◌-◌, ◌<◌, ◌≤◌, inl, inr, Bool, List, [], ◌∷◌, ◌++◌, length, take, map, set, get_or, refl, sym, ap, ◌∙◌, subst, arith, if◌then◌else◌}
use Rattle.std.specs.Prelude.{Option, Some, None, slice_get}
use Rattle.std.proofs.lemmas.Bool.{cases_eq, cases_lt}
use Rattle.std.proofs.lemmas.List.{ext_get_or, get_or-set_other, get_or-set_same, get_or-take, length-map, length-set, length-take-le, take-map}
use Rattle.std.proofs.lemmas.Option.{same_Some, slice_get_within}
use Rattle.page_trees.specs.Links.{AreLinks}
use Rattle.page_trees.specs.Scopes.{ends_items, last_place}
use Rattle.page_trees.specs.SearchIndex.{AreExchanged, AreRows, IsIndex, key_of, mark_of}
use Rattle.page_trees.specs.Sets.{ends_scope, is_in_html, is_special_element}
use Rattle.page_trees.specs.declared.stack.Open.{Open}
use Rattle.page_trees.specs.declared.stack.marks.Mark.{Mark}
use Rattle.page_trees.specs.declared.stack.marks.Marks.{Marks}
use Rattle.page_trees.proofs.IndexLemmas.{same_mark}
use Rattle.page_trees.proofs.ScopeLemmas.{last_place_push, take_one_more}

pub set_here : {X : Type 0} (xs : List X) (i : ℕ) (x : X) → i < length xs → slice_get (set xs i x) i ≡ Some x
set_here [] i x lt = absurd (omega (arith, lt))
set_here (y ∷ ys) zero x lt = refl
set_here (y ∷ ys) (suc i) x lt = set_here ys i x (omega (arith, lt))

pub set_elsewhere : {X : Type 0} (xs : List X) (i k : ℕ) (x : X) → (k ≡ i → ⊥) → slice_get (set xs i x) k ≡ slice_get xs k
set_elsewhere [] i k x ne = refl
set_elsewhere (y ∷ ys) zero zero x ne = absurd (ne refl)
set_elsewhere (y ∷ ys) zero (suc k) x ne = refl
set_elsewhere (y ∷ ys) (suc i) zero x ne = refl
set_elsewhere (y ∷ ys) (suc i) (suc k) x ne = set_elsewhere ys i k x (λ e. ne (ap suc e))

take_same : {X : Type 0} (m : ℕ) (xs ys : List X) → ((j : ℕ) → j < m → slice_get xs j ≡ slice_get ys j) → take m xs ≡ take m ys
take_same zero xs ys e = refl
take_same (suc m) [] [] e = refl
take_same (suc m) [] (y ∷ ys) e = let f : slice_get [] 0 ≡ slice_get (y ∷ ys) 0 = e 0 (omega arith) in cc
take_same (suc m) (x ∷ xs) [] e = let f : slice_get (x ∷ xs) 0 ≡ slice_get [] 0 = e 0 (omega arith) in cc
take_same (suc m) (x ∷ xs) (y ∷ ys) e =
    let f : x ≡ y = same_Some x y (e 0 (omega arith)) in
    ap (λ z. z ∷ take m xs) f ∙ ap (λ zs. y ∷ zs) (take_same m xs ys (λ j lt. e (suc j) (omega (arith, lt))))

there : {X : Type 0} (xs : List X) (k : ℕ) → k < length xs → (x : X) × (slice_get xs k ≡ Some x)
there [] k lt = absurd (omega (arith, lt))
there (x ∷ xs) zero lt = (x, refl)
there (x ∷ xs) (suc k) lt = there xs k (omega (arith, lt))

-- ---- an entry depends on the one below it

answer_step : (p : Open → Bool) (zs ws : List Open) (o : Open) → last_place p zs ≡ last_place p ws → length zs ≡ length ws → last_place p (zs ++ o ∷ []) ≡ last_place p (ws ++ o ∷ [])
answer_step p zs ws o e long = last_place_push p zs o ∙ ap (λ n. if p o then n + 1 else last_place p zs) long ∙ ap (λ n. if p o then length ws + 1 else n) e ∙ sym (last_place_push p ws o)

mark_step : (zs ws : List Open) (o : Open) → mark_of zs ≡ mark_of ws → length zs ≡ length ws → mark_of (zs ++ o ∷ []) ≡ mark_of (ws ++ o ∷ [])
mark_step zs ws o e long = same_mark
    (last_place (λ x. is_in_html x.ns) (zs ++ o ∷ [])) (last_place is_special_element (zs ++ o ∷ [])) (last_place ends_scope (zs ++ o ∷ [])) (last_place ends_items (zs ++ o ∷ []))
    (last_place (λ x. is_in_html x.ns) (ws ++ o ∷ [])) (last_place is_special_element (ws ++ o ∷ [])) (last_place ends_scope (ws ++ o ∷ [])) (last_place ends_items (ws ++ o ∷ []))
    (answer_step (λ x. is_in_html x.ns) zs ws o (ap (λ m. m.html) e) long) (answer_step is_special_element zs ws o (ap (λ m. m.special) e) long)
    (answer_step ends_scope zs ws o (ap (λ m. m.ends) e) long) (answer_step ends_items zs ws o (ap (λ m. m.item_ends) e) long)

module _ (former elements : List Open) (place : ℕ) (w : AreExchanged former elements place) where
  pub same_below : (m : ℕ) → m ≤ place → take m former ≡ take m elements
  same_below m le = take_same m former elements (λ j lt. sym (w.rest j (omega (arith, lt, le)) (omega (arith, lt, le))))

  -- entries that agree above the two go on agreeing
  meet : (i d : ℕ) → place + 1 < i → i + d ≤ length former → mark_of (take i former) ≡ mark_of (take i elements) → mark_of (take (i + d) former) ≡ mark_of (take (i + d) elements)
  meet i zero lt le e = let z : i ≡ i + 0 = omega arith in subst (λ m. mark_of (take m former) ≡ mark_of (take m elements)) z e
  meet i (suc d) lt le e =
      let n : (i + d) + 1 ≡ i + suc d = omega arith in
      let it : (x : Open) × (slice_get former (i + d) ≡ Some x) = there former (i + d) (omega (arith, le)) in
      let also : slice_get elements (i + d) ≡ Some it.0 = w.rest (i + d) (omega (arith, lt)) (omega (arith, lt)) ∙ it.1 in
      let long : length (take (i + d) former) ≡ length (take (i + d) elements) = length-take-le (i + d) former (omega (arith, le)) ∙ sym (length-take-le (i + d) elements (omega (arith, le, w.long))) in
      subst (λ m. mark_of (take m former) ≡ mark_of (take m elements)) n
      (ap mark_of (take_one_more former (i + d) it.0 it.1) ∙ mark_step (take (i + d) former) (take (i + d) elements) it.0 (meet i d lt (omega (arith, le)) e) long ∙ sym (ap mark_of (take_one_more elements (i + d) it.0 also)))

-- ---- the loop

-- the entries below index i are right for the elements, those from i on for what was there before
pub record AreRefreshed (former elements : List Open) (rows : List Mark) (i : ℕ) (below : Mark) : Type 0 where
  pub under : below ≡ mark_of (take i elements)
  pub front : (k : ℕ) → k < i → k < length rows → slice_get rows k ≡ Some (mark_of (take (k + 1) elements))
  pub back : (k : ℕ) → i ≤ k → k < length rows → slice_get rows k ≡ Some (mark_of (take (k + 1) former))

pub refresh_start : (former elements : List Open) (place : ℕ) (rows : List Mark) (below : Mark) → AreExchanged former elements place → AreRows former rows → below ≡ mark_of (take place former) →
    AreRefreshed former elements rows place below
refresh_start former elements place rows below w is e = record {
  under = e ∙ ap mark_of (same_below former elements place w place (omega arith));
  front = λ k lt l. is k l ∙ ap (λ zs. Some (mark_of zs)) (same_below former elements place w (k + 1) (omega (arith, lt)));
  back = λ k le l. is k l;
}

pub refresh_step : (former elements : List Open) (rows rows' : List Mark) (i : ℕ) (below mark : Mark) (o : Open) → AreRefreshed former elements rows i below → slice_get elements i ≡ Some o → i < length rows →
    mark ≡ mark_of (take i elements ++ o ∷ []) → rows' ≡ set rows i mark → AreRefreshed former elements rows' (i + 1) mark
refresh_step former elements rows rows' i below mark o is at lt e er =
    let here : mark ≡ mark_of (take (i + 1) elements) = e ∙ sym (ap mark_of (take_one_more elements i o at)) in
    let long : length rows' ≡ length rows = ap length er ∙ length-set rows i mark in
    record {
      under = here;
      front = λ k l lk. elim (cases_eq k i) [
        | inl f ↦ ap (λ xs. slice_get xs k) er ∙ ap (λ j. slice_get (set rows i mark) j) f ∙ set_here rows i mark lt ∙ ap (λ m. Some m) here ∙ ap (λ j. Some (mark_of (take (j + 1) elements))) (sym f)
        | inr ne ↦ ap (λ xs. slice_get xs k) er ∙ set_elsewhere rows i k mark ne ∙ is.front k (omega (arith, l, ne)) (omega (arith, lk, long))
      ];
      back = λ k l lk. ap (λ xs. slice_get xs k) er ∙ set_elsewhere rows i k mark (omega (arith, l)) ∙ is.back k (omega (arith, l)) (omega (arith, lk, long));
    }

pub refresh_end : (former elements : List Open) (rows : List Mark) (i : ℕ) (below : Mark) → AreRefreshed former elements rows i below → length rows ≤ i → AreRows elements rows
refresh_end former elements rows i below is le k lt = is.front k (omega (arith, le, lt)) lt

pub refresh_stop : (former elements : List Open) (place : ℕ) (rows : List Mark) (i : ℕ) (below mark : Mark) (o : Open) → AreExchanged former elements place → AreRefreshed former elements rows i below →
    slice_get elements i ≡ Some o → place + 1 < i → length rows ≤ length former → mark ≡ mark_of (take i elements ++ o ∷ []) → slice_get rows i ≡ Some mark → AreRows elements rows
refresh_stop former elements place rows i below mark o w is at above le e row k lt = elim (cases_lt k i) [
  | inl l ↦ is.front k l lt
  | inr l ↦ (let inside : i < length rows = slice_get_within rows i mark row in
      let old : mark ≡ mark_of (take (i + 1) former) = same_Some mark (mark_of (take (i + 1) former)) (sym row ∙ is.back i (omega arith) inside) in
      let now : mark ≡ mark_of (take (i + 1) elements) = e ∙ sym (ap mark_of (take_one_more elements i o at)) in
      let d : ℕ = k - i in
      let n : (i + 1) + d ≡ k + 1 = omega (arith, l) in
      let m : mark_of (take (k + 1) former) ≡ mark_of (take (k + 1) elements) =
      subst (λ j. mark_of (take j former) ≡ mark_of (take j elements)) n (meet former elements place w (i + 1) d (omega (arith, above)) (omega (arith, n, lt, le)) (sym old ∙ now)) in
      is.back k l lt ∙ ap (λ x. Some x) m)
]

-- ---- the keys

abbrev key_or : Option Open → ℕ
key_or (Some o) = key_of o
key_or None = 0

key_at : (xs : List Open) (k : ℕ) → get_or (map key_of xs) k 0 ≡ key_or (slice_get xs k)
key_at [] k = refl
key_at (x ∷ xs) zero = refl
key_at (x ∷ xs) (suc k) = key_at xs k

front_key : (n : ℕ) (xs : List Open) (k : ℕ) → k < n → get_or (map key_of (take n xs)) k 0 ≡ key_or (slice_get xs k)
front_key n xs k lt = ap (λ ks. get_or ks k 0) (sym (take-map key_of n xs)) ∙ get_or-take n (map key_of xs) k 0 lt ∙ key_at xs k

pub key_there : (n : ℕ) (xs : List Open) (k : ℕ) (o : Open) → k < n → slice_get xs k ≡ Some o → get_or (map key_of (take n xs)) k 0 ≡ key_of o
key_there n xs k o lt e = front_key n xs k lt ∙ ap key_or e

front_long : (n : ℕ) (xs : List Open) → n ≤ length xs → length (map key_of (take n xs)) ≡ n
front_long n xs le = length-map (take n xs) key_of ∙ length-take-le n xs le

pub exchanged_keys : (former elements : List Open) (place n : ℕ) (lower upper : Open) → AreExchanged former elements place → n ≤ length former → place + 1 < n →
    slice_get elements place ≡ Some upper → slice_get elements (place + 1) ≡ Some lower →
    set (set (map key_of (take n former)) place (key_of upper)) (place + 1) (key_of lower) ≡ map key_of (take n elements)
exchanged_keys former elements place n lower upper w le lt eu el =
    let long : length (map key_of (take n former)) ≡ n = front_long n former le in
    let long1 : length (set (map key_of (take n former)) place (key_of upper)) ≡ n = length-set (map key_of (take n former)) place (key_of upper) ∙ long in
    let long2 : length (set (set (map key_of (take n former)) place (key_of upper)) (place + 1) (key_of lower)) ≡ n = length-set (set (map key_of (take n former)) place (key_of upper)) (place + 1) (key_of lower) ∙ long1 in
    ext_get_or 0 (set (set (map key_of (take n former)) place (key_of upper)) (place + 1) (key_of lower)) (map key_of (take n elements))
    (long2 ∙ sym (front_long n elements (omega (arith, le, w.long))))
    (λ k l. elim (cases_eq k (place + 1)) [
      | inl e ↦ ap (λ j. get_or (set (set (map key_of (take n former)) place (key_of upper)) (place + 1) (key_of lower)) j 0) e
          ∙ get_or-set_same (set (map key_of (take n former)) place (key_of upper)) (place + 1) (key_of lower) 0 (omega (arith, lt, long1))
          ∙ sym (key_there n elements k lower (omega (arith, l, long2)) (ap (slice_get elements) e ∙ el))
      | inr n1 ↦ get_or-set_other (set (map key_of (take n former)) place (key_of upper)) (place + 1) k (key_of lower) 0 n1 ∙ elim (cases_eq k place) [
        | inl e ↦ ap (λ j. get_or (set (map key_of (take n former)) place (key_of upper)) j 0) e
            ∙ get_or-set_same (map key_of (take n former)) place (key_of upper) 0 (omega (arith, lt, long))
            ∙ sym (key_there n elements k upper (omega (arith, l, long2)) (ap (slice_get elements) e ∙ eu))
        | inr n0 ↦ get_or-set_other (map key_of (take n former)) place k (key_of upper) 0 n0
            ∙ front_key n former k (omega (arith, l, long2)) ∙ ap key_or (sym (w.rest k n0 n1)) ∙ sym (front_key n elements k (omega (arith, l, long2)))
      ]
    ])

-- the whole index
pub exchanged_index : (former elements : List Open) (place : ℕ) (old new : Marks) (lower upper : Open) → AreExchanged former elements place → place + 1 < length old.rows.items →
    slice_get elements place ≡ Some upper → slice_get elements (place + 1) ≡ Some lower → length new.rows.items ≡ length old.rows.items → AreRows elements new.rows.items →
    ((keys : List ℕ) → place + 1 < length keys → get_or keys place 0 ≡ key_of lower → get_or keys (place + 1) 0 ≡ key_of upper → AreLinks keys old.links.same.items old.links.next.items old.links.tops.items →
    AreLinks (set (set keys place (key_of upper)) (place + 1) (key_of lower)) new.links.same.items new.links.next.items new.links.tops.items) →
    IsIndex former old → IsIndex elements new
exchanged_index former elements place old new lower upper w lt eu el long rows step is =
    let n : length (map key_of (take (length old.rows.items) former)) ≡ length old.rows.items = front_long (length old.rows.items) former is.within in
    let keys : set (set (map key_of (take (length old.rows.items) former)) place (key_of upper)) (place + 1) (key_of lower) ≡ map key_of (take (length old.rows.items) elements) =
    exchanged_keys former elements place (length old.rows.items) lower upper w is.within lt eu el in
    record {
      within = omega (arith, long, is.within, w.long);
      rows = rows;
      links = subst (λ ks. AreLinks ks new.links.same.items new.links.next.items new.links.tops.items) (keys ∙ ap (λ m. map key_of (take m elements)) (sym long))
          (step (map key_of (take (length old.rows.items) former)) (omega (arith, lt, n))
          (key_there (length old.rows.items) former place lower (omega (arith, lt)) (sym w.upper ∙ el))
          (key_there (length old.rows.items) former (place + 1) upper lt (sym w.lower ∙ eu)) is.links);
    }
