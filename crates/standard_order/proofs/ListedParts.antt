-- Lists of active formatting elements of which a part is left, or into which a new element comes: no element is in them twice.
use Rattle.std.specs.Prelude.{◌≡◌, ◌||◌, ◌&&◌, refl, ℕ, zero, suc, Bool, true, false, not, List, [], ◌∷◌, cond, drop, filter, map, nat_eq}
use Rattle.std.specs.List.{list_all, list_any}
use Rattle.std.proofs.Common.{arith}
use Rattle.std.proofs.lemmas.Bool.{ltb-true}
use Rattle.std.proofs.lemmas.Bool.Decides.{Decides-eqb}
use mathlib.Core.Path.{◌∙◌, sym, ap, subst}
use Rattle.standard_trees.specs.Formatting.{are_alike, bookmarked, cleared, is_entry, replaced_entry, without_third}
use Rattle.standard_trees.specs.GrowingTree.{Entry, Formatting, GrowingTree, Marker}
use Rattle.standard_order.specs.ListedOnce.{is_below, lists_once}
use Rattle.standard_order.proofs.StandingStacks.{both, never, same_number}

pub and_true : (x y : Bool) → x ≡ true → y ≡ true → x && y ≡ true
and_true true y h k = k
and_true false y h k = never h

all_weaker : (p q : Entry → Bool) → ((e : Entry) → p e ≡ true → q e ≡ true) → (es : List Entry) → list_all p es ≡ true →
    list_all q es ≡ true
all_weaker p q weaker [] h = refl
all_weaker p q weaker (e ∷ es) h =
    let two : (p e ≡ true) × (list_all p es ≡ true) = both (p e) (list_all p es) h in
    and_true (q e) (list_all q es) (weaker e two.0) (all_weaker p q weaker es two.1)

-- the entry is not of that element
abbrev pub apart : ℕ → Entry → Bool
apart n e = not (is_entry n e)

pub none_all : (n : ℕ) (es : List Entry) → not (list_any (is_entry n) es) ≡ list_all (apart n) es
none_all n [] = refl
none_all n (e ∷ es) = by (is_entry n e) (none_all n es)
  where
    by : (x : Bool) → not (list_any (is_entry n) es) ≡ list_all (apart n) es →
        not (x || list_any (is_entry n) es) ≡ not x && list_all (apart n) es
    by true h = refl
    by false h = h

not_same : (n m : ℕ) → (n ≡ m → ⊥) → not (nat_eq n m) ≡ true
not_same n m differ = by (nat_eq n m) refl
  where
    by : (x : Bool) → nat_eq n m ≡ x → not x ≡ true
    by true e = absurd (differ (same_number n m e))
    by false e = refl

differ_back : (n m : ℕ) → not (nat_eq n m) ≡ true → not (nat_eq m n) ≡ true
differ_back n m h = not_same m n (λ e. never (sym (ap not ((Decides-eqb n m).1 (sym e))) ∙ h))

-- a number that no node has yet
below_apart : (n : ℕ) (e : Entry) → is_below n e ≡ true → apart n e ≡ true
below_apart n Marker h = refl
below_apart n (Formatting m) h = not_same m n (λ e. let less = ltb-true m n h in omega (arith, less, e))

pub fresh_apart : (n : ℕ) (es : List Entry) → list_all (is_below n) es ≡ true → list_all (apart n) es ≡ true
fresh_apart n es h = all_weaker (is_below n) (apart n) (below_apart n) es h

pub once_before : (n : ℕ) (es : List Entry) → list_all (apart n) es ≡ true → lists_once es ≡ true → lists_once (Formatting n ∷ es) ≡ true
once_before n es out once = and_true (not (list_any (is_entry n) es)) (lists_once es) (none_all n es ∙ out) once

-- ---- parts

-- some of the entries, in their order
pub record Part (part whole : List Entry) : Type 0 where
  pub once : lists_once whole ≡ true → lists_once part ≡ true
  pub all : (p : Entry → Bool) → list_all p whole ≡ true → list_all p part ≡ true

part_same : (es : List Entry) → Part es es
part_same es = record { once = λ h. h; all = λ p h. h }

part_less : (e : Entry) (part whole : List Entry) → Part part whole → Part part (e ∷ whole)
part_less e part whole less = record {
  once = λ h. less.once (by e h);
  all = λ p h. less.all p (both (p e) (list_all p whole) h).1;
}
  where
    by : (x : Entry) → lists_once (x ∷ whole) ≡ true → lists_once whole ≡ true
    by Marker h = h
    by (Formatting n) h = (both (not (list_any (is_entry n) whole)) (lists_once whole) h).1

part_more : (e : Entry) (part whole : List Entry) → Part part whole → Part (e ∷ part) (e ∷ whole)
part_more e part whole less = record {
  once = by e;
  all = λ p h.
      let two : (p e ≡ true) × (list_all p whole ≡ true) = both (p e) (list_all p whole) h in
      and_true (p e) (list_all p part) two.0 (less.all p two.1);
}
  where
    by : (x : Entry) → lists_once (x ∷ whole) ≡ true → lists_once (x ∷ part) ≡ true
    by Marker h = less.once h
    by (Formatting n) h =
        let two : (not (list_any (is_entry n) whole) ≡ true) × (lists_once whole ≡ true) = both (not (list_any (is_entry n) whole))
        (lists_once whole) h in
        once_before n part (less.all (apart n) (sym (none_all n whole) ∙ two.0)) (less.once two.1)

pub part_filtered : (p : Entry → Bool) (es : List Entry) → Part (filter p es) es
part_filtered p [] = part_same []
part_filtered p (e ∷ es) = by (p e) (part_filtered p es)
  where
    by : (x : Bool) → Part (filter p es) es → Part (cond x (e ∷ filter p es) (filter p es)) (e ∷ es)
    by true part = part_more e (filter p es) es part
    by false part = part_less e (filter p es) es part

pub part_dropped : (n : ℕ) (es : List Entry) → Part (drop n es) es
part_dropped zero es = part_same es
part_dropped (suc n) [] = part_same []
part_dropped (suc n) (e ∷ es) = part_less e (drop n es) es (part_dropped n es)

pub part_cleared : (es : List Entry) → Part (cleared es) es
part_cleared [] = part_same []
part_cleared (Marker ∷ es) = part_less Marker es es (part_same es)
part_cleared (Formatting n ∷ es) = part_less (Formatting n) (cleared es) es (part_cleared es)

pub part_third : (t : GrowingTree) (n count : ℕ) (es : List Entry) → Part (without_third t n count es) es
part_third t n count [] = part_same []
part_third t n count (Marker ∷ es) = part_same (Marker ∷ es)
part_third t n count (Formatting m ∷ es) =
    by (are_alike t n m) (nat_eq count 2) (part_third t n (suc count) es) (part_third t n count es)
  where
    by : (x y : Bool) → Part (without_third t n (suc count) es) es → Part (without_third t n count es) es → Part (elim x as (λ _. List Entry) [
      | true ↦ elim y [ true ↦ es | false ↦ Formatting m ∷ without_third t n (suc count) es ]
      | false ↦ Formatting m ∷ without_third t n count es
    ]) (Formatting m ∷ es)
    by true true more same = part_less (Formatting m) es es (part_same es)
    by true false more same = part_more (Formatting m) (without_third t n (suc count) es) es more
    by false y more same = part_more (Formatting m) (without_third t n count es) es same

-- ---- an element takes the entry of another

pub all_exchanged : (p : Entry → Bool) (old new : ℕ) → p (Formatting new) ≡ true → (es : List Entry) → list_all p es ≡ true →
    list_all p (map (replaced_entry old new) es) ≡ true
all_exchanged p old new q [] h = refl
all_exchanged p old new q (Marker ∷ es) h =
    let two : (p Marker ≡ true) × (list_all p es ≡ true) = both (p Marker) (list_all p es) h in
    and_true (p Marker) (list_all p (map (replaced_entry old new) es)) two.0 (all_exchanged p old new q es two.1)
all_exchanged p old new q (Formatting n ∷ es) h =
    let two : (p (Formatting n) ≡ true) × (list_all p es ≡ true) = both (p (Formatting n)) (list_all p es) h in
    and_true (p (replaced_entry old new (Formatting n))) (list_all p (map (replaced_entry old new) es)) (by (nat_eq n old) two.0)
    (all_exchanged p old new q es two.1)
  where
    by : (x : Bool) → p (Formatting n) ≡ true → p (cond x (Formatting new) (Formatting n)) ≡ true
    by true k = q
    by false k = k

unchanged : (old new : ℕ) (es : List Entry) → list_all (apart old) es ≡ true → map (replaced_entry old new) es ≡ es
unchanged old new [] h = refl
unchanged old new (Marker ∷ es) h = ap (λ xs. Marker ∷ xs) (unchanged old new es h)
unchanged old new (Formatting n ∷ es) h =
    let two : (not (nat_eq n old) ≡ true) × (list_all (apart old) es ≡ true) = both (not (nat_eq n old)) (list_all (apart old) es) h in
    by (nat_eq n old) two.0 (unchanged old new es two.1)
  where
    by : (x : Bool) → not x ≡ true → map (replaced_entry old new) es ≡ es →
        cond x (Formatting new) (Formatting n) ∷ map (replaced_entry old new) es ≡ Formatting n ∷ es
    by true k rest = never k
    by false k rest = ap (λ xs. Formatting n ∷ xs) rest

pub once_exchanged : (old new : ℕ) (es : List Entry) → list_all (apart new) es ≡ true → lists_once es ≡ true →
    lists_once (map (replaced_entry old new) es) ≡ true
once_exchanged old new [] out once = refl
once_exchanged old new (Marker ∷ es) out once = once_exchanged old new es out once
once_exchanged old new (Formatting n ∷ es) out once = by (nat_eq n old) refl (λ h. once_exchanged old new es h)
  where
    outs : (not (nat_eq n new) ≡ true) × (list_all (apart new) es ≡ true)
    outs = both (not (nat_eq n new)) (list_all (apart new) es) out

    onces : (not (list_any (is_entry n) es) ≡ true) × (lists_once es ≡ true)
    onces = both (not (list_any (is_entry n) es)) (lists_once es) once

    alone : list_all (apart n) es ≡ true
    alone = sym (none_all n es) ∙ onces.0

    by : (x : Bool) → nat_eq n old ≡ x →
        (list_all (apart new) es ≡ true → lists_once es ≡ true → lists_once (map (replaced_entry old new) es) ≡ true) →
        lists_once (cond x (Formatting new) (Formatting n) ∷ map (replaced_entry old new) es) ≡ true
    by true e more = subst (λ xs. lists_once (Formatting new ∷ xs) ≡ true)
        (sym (unchanged old new es (subst (λ m. list_all (apart m) es ≡ true) (same_number n old e) alone)))
        (once_before new es outs.1 onces.1)
    by false e more = once_before n (map (replaced_entry old new) es)
        (all_exchanged (apart n) old new (differ_back n new outs.0) es alone) (more outs.1 onces.1)

-- ---- an element comes behind a bookmark

pub all_bookmarked : (p : Entry → Bool) (new mark : ℕ) → p (Formatting new) ≡ true → (es : List Entry) → list_all p es ≡ true →
    list_all p (bookmarked new mark es) ≡ true
all_bookmarked p new mark q [] h = refl
all_bookmarked p new mark q (e ∷ es) h = by (is_entry mark e) (λ k. all_bookmarked p new mark q es k)
  where
    two : (p e ≡ true) × (list_all p es ≡ true)
    two = both (p e) (list_all p es) h

    by : (x : Bool) → (list_all p es ≡ true → list_all p (bookmarked new mark es) ≡ true) →
        list_all p (elim x as (λ _. List Entry) [ true ↦ Formatting new ∷ e ∷ es | false ↦ e ∷ bookmarked new mark es ]) ≡ true
    by true more = and_true (p (Formatting new)) (list_all p (e ∷ es)) q h
    by false more = and_true (p e) (list_all p (bookmarked new mark es)) two.0 (more two.1)

pub once_bookmarked : (new mark : ℕ) (es : List Entry) → list_all (apart new) es ≡ true → lists_once es ≡ true →
    lists_once (bookmarked new mark es) ≡ true
once_bookmarked new mark [] out once = refl
once_bookmarked new mark (Marker ∷ es) out once = once_bookmarked new mark es out once
once_bookmarked new mark (Formatting n ∷ es) out once = by (nat_eq n mark) (λ h. once_bookmarked new mark es h)
  where
    outs : (not (nat_eq n new) ≡ true) × (list_all (apart new) es ≡ true)
    outs = both (not (nat_eq n new)) (list_all (apart new) es) out

    onces : (not (list_any (is_entry n) es) ≡ true) × (lists_once es ≡ true)
    onces = both (not (list_any (is_entry n) es)) (lists_once es) once

    by : (x : Bool) → (list_all (apart new) es ≡ true → lists_once es ≡ true → lists_once (bookmarked new mark es) ≡ true) →
        lists_once (elim x as (λ _. List Entry) [
          | true ↦ Formatting new ∷ Formatting n ∷ es
          | false ↦ Formatting n ∷ bookmarked new mark es
        ]) ≡ true
    by true more = once_before new (Formatting n ∷ es) out once
    by false more = once_before n (bookmarked new mark es)
        (all_bookmarked (apart n) new mark (differ_back n new outs.0) es (sym (none_all n es) ∙ onces.0))
        (more outs.1 onces.1)
