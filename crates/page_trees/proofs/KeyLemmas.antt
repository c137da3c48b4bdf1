-- Lists of keys whose ranks increase along the list.
use Rattle.std.specs.Prelude.{◌≡◌, ◌==◌, ◌<◌, ◌≤◌, ◌∷◌, ◌++◌, [], refl, ℕ, zero, suc, Bool, true, false, List, IfSome, None, Option, Some}
use Rattle.std.specs.Prelude.{drop, if◌then◌else◌, insert, length, map, remove, reverse, slice_get, slice_index_or, slice_set, take}
use Rattle.std.proofs.Common.{arith}
use Rattle.std.specs.BTreeSet.{BTreeSet}
use Rattle.std.specs.List.{AllByRecursion}
use Rattle.std.proofs.lemmas.Bool.{eqb-true}
use Rattle.std.proofs.lemmas.Bool.Decides.{Decides-eqb}
use Rattle.std.proofs.lemmas.List.{length-reverse, map-append, reverse-append, take-append-drop}
use mathlib.Core.Path.{◌∙◌, sym, ap, subst}
use Rattle.page_trees.specs.KeyPlaces.{AreRanked, FitsAt, IsRising, IsTopUpTo, NoneUpTo, has_rank, IsRowAt, key_from_end, keys_of, last_key}
use Rattle.page_trees.specs.declared.formatting.places.Ranked.{Ranked}
use Rattle.page_trees.proofs.RankLemmas.{Extends}

-- ---- facts of every element

pub all_weaker : {X : Type 0} (P Q : X → Type 0) → ((x : X) → P x → Q x) → (xs : List X) → AllByRecursion P xs → AllByRecursion Q xs
all_weaker P Q weaker [] h = tt
all_weaker P Q weaker (x ∷ xs) h = (weaker x h.0, all_weaker P Q weaker xs h.1)

pub all_front : {X : Type 0} (P : X → Type 0) (xs ys : List X) → AllByRecursion P (xs ++ ys) → AllByRecursion P xs
all_front P [] ys h = tt
all_front P (x ∷ xs) ys h = (h.0, all_front P xs ys h.1)

pub all_back : {X : Type 0} (P : X → Type 0) (xs ys : List X) → AllByRecursion P (xs ++ ys) → AllByRecursion P ys
all_back P [] ys h = h
all_back P (x ∷ xs) ys h = all_back P xs ys h.1

pub all_joined : {X : Type 0} (P : X → Type 0) (xs ys : List X) → AllByRecursion P xs → AllByRecursion P ys → AllByRecursion P (xs ++ ys)
all_joined P [] ys h k = k
all_joined P (x ∷ xs) ys h k = (h.0, all_joined P xs ys h.1 k)

all_at : {X : Type 0} (P : X → Type 0) (xs : List X) (n : ℕ) → AllByRecursion P xs → IfSome (slice_get xs n) P
all_at P [] n h = tt
all_at P (x ∷ xs) zero h = h.0
all_at P (x ∷ xs) (suc n) h = all_at P xs n h.1

-- ---- a list about one place

pub record IsSplit {X : Type 0} (xs : List X) (n : ℕ) (x : X) : Type 0 where
  pub whole : xs ≡ take n xs ++ x ∷ drop (suc n) xs
  pub place : length (take n xs) ≡ n

pub split_at : {X : Type 0} (xs : List X) (n : ℕ) (x : X) → slice_get xs n ≡ Some x → IsSplit xs n x
split_at {X} [] n x e = cc
split_at {X} (y ∷ ys) zero x e = record { whole = ap (λ (o : Option X). with_first o) e; place = refl }
  where
    with_first : Option X → List X
    with_first None = []
    with_first (Some z) = z ∷ ys
split_at {X} (y ∷ ys) (suc n) x e =
    let more : IsSplit ys n x = split_at ys n x e in
    record { whole = ap (λ zs. y ∷ zs) more.whole; place = ap suc more.place }

-- ---- ranks

abbrev pub Below : ℕ → List Ranked → Type 0
Below rank rows = AllByRecursion (λ row. row.rank < rank) rows

abbrev pub Above : ℕ → List Ranked → Type 0
Above rank rows = AllByRecursion (λ row. rank < row.rank) rows

pub rising_front : (front back : List Ranked) → IsRising (front ++ back) → IsRising front
rising_front [] back h = tt
rising_front (row ∷ front) back h = (all_front (λ later. row.rank < later.rank) front back h.0, rising_front front back h.1)

rising_back : (front back : List Ranked) → IsRising (front ++ back) → IsRising back
rising_back [] back h = h
rising_back (row ∷ front) back h = rising_back front back h.1

-- the ranks about one
pub rising_below : (front back : List Ranked) (row : Ranked) → IsRising (front ++ row ∷ back) → Below row.rank front
rising_below [] back row h = tt
rising_below (one ∷ front) back row h =
    ((all_back (λ later. one.rank < later.rank) front (row ∷ back) h.0).0, rising_below front back row h.1)

pub rising_above : (front back : List Ranked) (row : Ranked) → IsRising (front ++ row ∷ back) → Above row.rank back
rising_above front back row h = (rising_back front (row ∷ back) h).0

pub rising_without : (front back : List Ranked) (row : Ranked) → IsRising (front ++ row ∷ back) → IsRising (front ++ back)
rising_without [] back row h = h.1
rising_without (one ∷ front) back row h = (
  all_joined (λ later. one.rank < later.rank) front back (all_front (λ later. one.rank < later.rank) front (row ∷ back) h.0)
      (all_back (λ later. one.rank < later.rank) front (row ∷ back) h.0).1,
  rising_without front back row h.1,
)

pub rising_with : (front back : List Ranked) (row : Ranked) → IsRising (front ++ back) → Below row.rank front → Above row.rank back →
    IsRising (front ++ row ∷ back)
rising_with [] back row h below above = (above, h)
rising_with (one ∷ front) back row h below above = (
  all_joined (λ later. one.rank < later.rank) front (row ∷ back) (all_front (λ later. one.rank < later.rank) front back h.0)
      (below.0, all_back (λ later. one.rank < later.rank) front back h.0),
  rising_with front back row h.1 below.1 above,
)

-- a rank that fits at a place
fits_below : (rows : List Ranked) (before rank : ℕ) → suc before ≤ length rows → IsRising rows →
    IfSome (slice_get rows before) (λ row. row.rank < rank) → Below rank (take (suc before) rows)
fits_below [] before rank le rising h = tt
fits_below (row ∷ rows) zero rank le rising h = (h, tt)
fits_below (row ∷ rows) (suc before) rank le rising h = (
  through (slice_get rows before) (there rows before (omega (arith, le))) h (all_at (λ later. row.rank < later.rank) rows before rising.0),
  fits_below rows before rank (omega (arith, le)) rising.1 h,
)
  where
    there : (xs : List Ranked) (n : ℕ) → suc n ≤ length xs → slice_get xs n ≡ None → ⊥
    there [] n less e = omega (arith, less)
    there (x ∷ xs) zero less e = cc
    there (x ∷ xs) (suc n) less e = there xs n (omega (arith, less)) e

    through : (o : Option Ranked) → (o ≡ None → ⊥) → IfSome o (λ one. one.rank < rank) → IfSome o (λ later. row.rank < later.rank) →
        row.rank < rank
    through None some one two = absurd (some refl)
    through (Some x) some one two = omega (arith, one, two)

fits_above : (rows : List Ranked) (place rank : ℕ) → IsRising rows → IfSome (slice_get rows place) (λ row. rank < row.rank) →
    Above rank (drop place rows)
fits_above [] zero rank rising h = tt
fits_above [] (suc place) rank rising h = tt
fits_above (row ∷ rows) zero rank rising h =
    (h, all_weaker (λ later. row.rank < later.rank) (λ later. rank < later.rank) (λ later k. omega (arith, h, k)) rows rising.0)
fits_above (row ∷ rows) (suc place) rank rising h = fits_above rows place rank rising.1 h

-- ---- inserting and removing

pub ranked_more : (rows : List Ranked) (old new : BTreeSet (ℕ × ℕ)) → Extends old new → AreRanked rows old → AreRanked rows new
ranked_more rows old new extends ranked = record {
  rising = ranked.rising;
  known = all_weaker (λ row. has_rank old row.key row.rank ≡ true) (λ row. has_rank new row.key row.rank ≡ true)
      (λ row h. extends row.key row.rank h) rows ranked.known;
}

pub ranked_with : (rows : List Ranked) (place : ℕ) (row : Ranked) (ranks : BTreeSet (ℕ × ℕ)) → place ≤ length rows →
    FitsAt rows place row.rank → has_rank ranks row.key row.rank ≡ true → AreRanked rows ranks → AreRanked (insert rows place row) ranks
ranked_with rows place row ranks le fits there ranked = record {
  rising = rising_with (take place rows) (drop place rows) row (subst IsRising (sym (take-append-drop place rows)) ranked.rising)
      (low place le fits.0) (fits_above rows place row.rank ranked.rising fits.1);
  known = all_joined (λ one. has_rank ranks one.key one.rank ≡ true) (take place rows) (row ∷ drop place rows)
      (all_front (λ one. has_rank ranks one.key one.rank ≡ true) (take place rows) (drop place rows) known)
      (there, all_back (λ one. has_rank ranks one.key one.rank ≡ true) (take place rows) (drop place rows) known);
}
  where
    known : AllByRecursion (λ one. has_rank ranks one.key one.rank ≡ true) (take place rows ++ drop place rows)
    known = subst (AllByRecursion (λ one. has_rank ranks one.key one.rank ≡ true)) (sym (take-append-drop place rows)) ranked.known

    low : (n : ℕ) → n ≤ length rows → ((before : ℕ) → suc before ≡ n → IfSome (slice_get rows before) (λ one. one.rank < row.rank)) →
        Below row.rank (take n rows)
    low zero le h = tt
    low (suc n) le h = fits_below rows n row.rank le ranked.rising (h n refl)

pub ranked_without : (rows : List Ranked) (place : ℕ) (row : Ranked) (old new : BTreeSet (ℕ × ℕ)) → slice_get rows place ≡ Some row →
    ((key rank : ℕ) → (row.rank ≡ rank → ⊥) → has_rank old key rank ≡ true → has_rank new key rank ≡ true) → AreRanked rows old →
    AreRanked (remove rows place) new
ranked_without rows place row old new at stays ranked = record {
  rising = rising_without front back row rising;
  known = all_joined (λ one. has_rank new one.key one.rank ≡ true) front back
      (both front (all_front (λ one. has_rank old one.key one.rank ≡ true) front (row ∷ back) known)
      (all_weaker (λ one. one.rank < row.rank) (λ one. row.rank ≡ one.rank → ⊥) (λ one less e. omega (arith, less, e)) front
      (rising_below front back row rising)))
      (both back (all_back (λ one. has_rank old one.key one.rank ≡ true) front (row ∷ back) known).1
      (all_weaker (λ one. row.rank < one.rank) (λ one. row.rank ≡ one.rank → ⊥) (λ one less e. omega (arith, less, e)) back
      (rising_above front back row rising)));
}
  where
    front : List Ranked
    front = take place rows

    back : List Ranked
    back = drop (suc place) rows

    split : IsSplit rows place row
    split = split_at rows place row at

    rising : IsRising (front ++ row ∷ back)
    rising = subst IsRising split.whole ranked.rising

    known : AllByRecursion (λ one. has_rank old one.key one.rank ≡ true) (front ++ row ∷ back)
    known = subst (AllByRecursion (λ one. has_rank old one.key one.rank ≡ true)) split.whole ranked.known

    both : (xs : List Ranked) → AllByRecursion (λ one. has_rank old one.key one.rank ≡ true) xs →
        AllByRecursion (λ one. row.rank ≡ one.rank → ⊥) xs → AllByRecursion (λ one. has_rank new one.key one.rank ≡ true) xs
    both [] h k = tt
    both (x ∷ xs) h k = (stays x.key x.rank k.0 h.0, both xs h.1 k.1)

-- what is written at a place
set_is : (rows : List Ranked) (place : ℕ) (old new : Ranked) → slice_get rows place ≡ Some old →
    slice_set rows place new ≡ take place rows ++ new ∷ drop (suc place) rows
set_is [] place old new at = cc
set_is (row ∷ rows) zero old new at = refl
set_is (row ∷ rows) (suc place) old new at = ap (λ xs. row ∷ xs) (set_is rows place old new at)

pub set_same : (rows : List Ranked) (place : ℕ) (row : Ranked) → slice_get rows place ≡ Some row → slice_set rows place row ≡ rows
set_same rows place row at = set_is rows place row row at ∙ sym (split_at rows place row at).whole

pub keys_set : (rows : List Ranked) (place : ℕ) (row : Ranked) → keys_of (slice_set rows place row) ≡ slice_set (keys_of rows) place row.key
keys_set [] place row = refl
keys_set (one ∷ rows) zero row = refl
keys_set (one ∷ rows) (suc place) row = ap (λ ks. one.key ∷ ks) (keys_set rows place row)

pub ranked_set : (rows : List Ranked) (place : ℕ) (old new : Ranked) (before after : BTreeSet (ℕ × ℕ)) → slice_get rows place ≡ Some old →
    new.rank ≡ old.rank → has_rank after new.key new.rank ≡ true →
    ((key rank : ℕ) → (old.rank ≡ rank → ⊥) → has_rank before key rank ≡ true → has_rank after key rank ≡ true) → AreRanked rows before →
    AreRanked (slice_set rows place new) after
ranked_set rows place old new before after at same there stays ranked = subst (λ (xs : List Ranked). AreRanked xs after) (sym (set_is rows place old new at)) (record {
  rising = rising_with front back new left.rising
      (all_weaker (λ row. row.rank < old.rank) (λ row. row.rank < new.rank) (λ row less. omega (arith, less, same)) front
      (rising_below front back old rising))
      (all_weaker (λ row. old.rank < row.rank) (λ row. new.rank < row.rank) (λ row less. omega (arith, less, same)) back
      (rising_above front back old rising));
  known = all_joined (λ row. has_rank after row.key row.rank ≡ true) front (new ∷ back)
      (all_front (λ row. has_rank after row.key row.rank ≡ true) front back left.known)
      (there, all_back (λ row. has_rank after row.key row.rank ≡ true) front back left.known);
})
  where
    front : List Ranked
    front = take place rows

    back : List Ranked
    back = drop (suc place) rows

    rising : IsRising (front ++ old ∷ back)
    rising = subst IsRising (split_at rows place old at).whole ranked.rising

    left : AreRanked (remove rows place) after
    left = ranked_without rows place old before after at stays ranked

pub got_at : (rows : List Ranked) (place : ℕ) (row : Ranked) → place < length rows → row ≡ slice_index_or rows place row →
    slice_get rows place ≡ Some row
got_at [] place row less e = absurd (omega (arith, less))
got_at (one ∷ rows) zero row less e = ap Some (sym e)
got_at (one ∷ rows) (suc place) row less e = got_at rows place row (omega (arith, less)) e

pub ranked_front : (rows : List Ranked) (place : ℕ) (ranks : BTreeSet (ℕ × ℕ)) → AreRanked rows ranks → AreRanked (take place rows) ranks
ranked_front rows place ranks ranked = record {
  rising = rising_front (take place rows) (drop place rows) (subst IsRising (sym (take-append-drop place rows)) ranked.rising);
  known = all_front (λ row. has_rank ranks row.key row.rank ≡ true) (take place rows) (drop place rows)
      (subst (AllByRecursion (λ row. has_rank ranks row.key row.rank ≡ true)) (sym (take-append-drop place rows)) ranked.known);
}

-- ---- the last place of a key

differs : (key k : ℕ) → (k ≡ key → ⊥) → (k == key) ≡ false
differs key k apart = by (k == key) refl
  where
    by : (x : Bool) → (k == key) ≡ x → x ≡ false
    by true e = absurd (apart (eqb-true k key e))
    by false e = refl

abbrev pub Other : ℕ → Ranked → Type 0
Other key row = (row.key == key) ≡ false

pub key_here : (key : ℕ) (rows before : List Ranked) (row : Ranked) → rows ≡ before ++ row ∷ [] → row.key ≡ key →
    Some (length before) ≡ last_key key (keys_of rows)
key_here key rows before row at same =
    sym (ap (λ (xs : List Ranked). last_key key (keys_of xs)) at ∙ ap (λ (ks : List ℕ). last_key key ks) (map-append (λ one. one.key) before (row ∷ []))
    ∙ ap (key_from_end key) (reverse-append (keys_of before) (row.key ∷ []))
    ∙ ap (λ b. if b then Some (length (reverse (keys_of before))) else last_key key (keys_of before)) ((Decides-eqb row.key key).1 same)
    ∙ ap Some (length-reverse (keys_of before) ∙ length_keys before))
  where
    length_keys : (xs : List Ranked) → length (keys_of xs) ≡ length xs
    length_keys [] = refl
    length_keys (x ∷ xs) = ap suc (length_keys xs)

pub key_before : (key : ℕ) (rows before : List Ranked) (row : Ranked) → rows ≡ before ++ row ∷ [] → (row.key ≡ key → ⊥) →
    last_key key (keys_of before) ≡ last_key key (keys_of rows)
key_before key rows before row at other =
    sym (ap (λ (xs : List Ranked). last_key key (keys_of xs)) at ∙ ap (λ (ks : List ℕ). last_key key ks) (map-append (λ one. one.key) before (row ∷ []))
    ∙ ap (key_from_end key) (reverse-append (keys_of before) (row.key ∷ []))
    ∙ ap (λ b. if b then Some (length (reverse (keys_of before))) else last_key key (keys_of before)) (differs key row.key other))

-- ---- what a set of ranks finds

-- no key of the list is this one
abbrev pub AllOther : ℕ → List ℕ → Type 0
AllOther key keys = AllByRecursion (λ k. (k == key) ≡ false) keys

joined : {X : Type 0} (xs ys zs : List X) → (xs ++ ys) ++ zs ≡ xs ++ (ys ++ zs)
joined [] ys zs = refl
joined (x ∷ xs) ys zs = ap (λ us. x ∷ us) (joined xs ys zs)

all_reversed : (key : ℕ) (keys : List ℕ) → AllOther key keys → AllOther key (reverse keys)
all_reversed key [] h = tt
all_reversed key (k ∷ keys) h = subst (AllOther key) (sym (reverse-append (k ∷ []) keys))
    (all_joined (λ one. (one == key) ≡ false) (reverse keys) (k ∷ []) (all_reversed key keys h.1) (h.0, tt))

past_others : (key : ℕ) (keys rest : List ℕ) → AllOther key keys → key_from_end key (keys ++ rest) ≡ key_from_end key rest
past_others key [] rest h = refl
past_others key (k ∷ keys) rest h =
    ap (λ b. if b then Some (length (keys ++ rest)) else key_from_end key (keys ++ rest)) h.0 ∙ past_others key keys rest h.1

pub none_last : (key : ℕ) (keys : List ℕ) → AllOther key keys → last_key key keys ≡ None
none_last key keys h = by (reverse keys) (all_reversed key keys h)
  where
    by : (ks : List ℕ) → AllOther key ks → key_from_end key ks ≡ None
    by [] k = refl
    by (x ∷ xs) k = ap (λ b. if b then Some (length xs) else key_from_end key xs) k.0 ∙ by xs k.1

pub about_last : (key : ℕ) (front back : List ℕ) (k : ℕ) → k ≡ key → AllOther key back → last_key key (front ++ k ∷ back) ≡ Some (length front)
about_last key front back k same others =
    ap (key_from_end key) turned ∙ past_others key (reverse back) (k ∷ reverse front) (all_reversed key back others)
    ∙ ap (λ b. if b then Some (length (reverse front)) else key_from_end key (reverse front)) ((Decides-eqb k key).1 same)
    ∙ ap Some (length-reverse front)
  where
    turned : reverse (front ++ k ∷ back) ≡ reverse back ++ k ∷ reverse front
    turned = reverse-append front (k ∷ back) ∙ ap (λ xs. xs ++ reverse front) (reverse-append (k ∷ []) back)
        ∙ joined (reverse back) (k ∷ []) (reverse front)

keys_joined : (xs ys : List Ranked) → keys_of (xs ++ ys) ≡ keys_of xs ++ keys_of ys
keys_joined xs ys = map-append (λ row. row.key) xs ys

pub length_keys : (rows : List Ranked) → length (keys_of rows) ≡ length rows
length_keys [] = refl
length_keys (row ∷ rows) = ap suc (length_keys rows)

pub keys_taken : (n : ℕ) (rows : List Ranked) → keys_of (take n rows) ≡ take n (keys_of rows)
keys_taken zero rows = refl
keys_taken (suc n) [] = refl
keys_taken (suc n) (row ∷ rows) = ap (λ ks. row.key ∷ ks) (keys_taken n rows)

keys_dropped : (n : ℕ) (rows : List Ranked) → keys_of (drop n rows) ≡ drop n (keys_of rows)
keys_dropped zero rows = refl
keys_dropped (suc n) [] = refl
keys_dropped (suc n) (row ∷ rows) = keys_dropped n rows

pub keys_inserted : (rows : List Ranked) (place : ℕ) (row : Ranked) → keys_of (insert rows place row) ≡ insert (keys_of rows) place row.key
keys_inserted rows place row =
    keys_joined (take place rows) (row ∷ drop place rows) ∙ ap (λ ks. ks ++ row.key ∷ keys_of (drop place rows)) (keys_taken place rows)
    ∙ ap (λ ks. take place (keys_of rows) ++ row.key ∷ ks) (keys_dropped place rows)

pub keys_removed : (rows : List Ranked) (place : ℕ) → keys_of (remove rows place) ≡ remove (keys_of rows) place
keys_removed rows place =
    keys_joined (take place rows) (drop (suc place) rows) ∙ ap (λ ks. ks ++ keys_of (drop (suc place) rows)) (keys_taken place rows)
    ∙ ap (λ ks. take place (keys_of rows) ++ ks) (keys_dropped (suc place) rows)

-- keys whose pairs with ranks the set doesn't have up to the last one
others_keys : (key : ℕ) (rows : List Ranked) → AllByRecursion (Other key) rows → AllOther key (keys_of rows)
others_keys key [] h = tt
others_keys key (row ∷ rows) h = (h.0, others_keys key rows h.1)

up_to_top : (rows before : List Ranked) (top : Ranked) → rows ≡ before ++ top ∷ [] → IsRising rows →
    AllByRecursion (λ row. row.rank ≤ top.rank) rows
up_to_top rows before top last rising = subst (AllByRecursion (λ row. row.rank ≤ top.rank)) (sym last)
    (all_joined (λ row. row.rank ≤ top.rank) before (top ∷ [])
    (all_weaker (λ row. row.rank < top.rank) (λ row. row.rank ≤ top.rank) (λ row less. omega (arith, less)) before
    (rising_below before [] top (subst IsRising last rising))) (omega arith, tt))

all_both : {X : Type 0} (P Q R : X → Type 0) → ((x : X) → P x → Q x → R x) → (xs : List X) → AllByRecursion P xs → AllByRecursion Q xs →
    AllByRecursion R xs
all_both P Q R so [] h k = tt
all_both P Q R so (x ∷ xs) h k = (so x h.0 k.0, all_both P Q R so xs h.1 k.1)

pub true_false : (b : Bool) → b ≡ true → b ≡ false → ⊥
true_false true h k = cc
true_false false h k = cc

pub none_found : (rows before : List Ranked) (top : Ranked) (ranks : BTreeSet (ℕ × ℕ)) (key : ℕ) → rows ≡ before ++ top ∷ [] →
    AreRanked rows ranks → NoneUpTo ranks key top.rank → last_key key (keys_of rows) ≡ None
none_found rows before top ranks key last ranked none =
    none_last key (keys_of rows) (others_keys key rows (all_both (λ row. row.rank ≤ top.rank)
    (λ row. has_rank ranks row.key row.rank ≡ true) (Other key) other rows (up_to_top rows before top last ranked.rising) ranked.known))
  where
    other : (row : Ranked) → row.rank ≤ top.rank → has_rank ranks row.key row.rank ≡ true → Other key row
    other row le there = differs key row.key (λ e. true_false (has_rank ranks key row.rank)
        (ap (λ k. has_rank ranks k row.rank) (sym e) ∙ there) (none row.rank le))

pub found_last : (rows before : List Ranked) (top : Ranked) (ranks : BTreeSet (ℕ × ℕ)) (key rank place : ℕ) → rows ≡ before ++ top ∷ [] →
    AreRanked rows ranks → IsTopUpTo ranks key top.rank rank → IsRowAt rows key rank place → Some place ≡ last_key key (keys_of rows)
found_last rows before top ranks key rank place last ranked tops at =
    sym (ap (λ (xs : List Ranked). last_key key (keys_of xs)) split.whole ∙ ap (last_key key) (keys_joined front (at.row ∷ back))
    ∙ about_last key (keys_of front) (keys_of back) at.row.key at.key_is (others_keys key back others)
    ∙ ap Some (length_keys front ∙ split.place))
  where
    front : List Ranked
    front = take place rows

    back : List Ranked
    back = drop (suc place) rows

    split : IsSplit rows place at.row
    split = split_at rows place at.row at.there

    other : (row : Ranked) → at.row.rank < row.rank → row.rank ≤ top.rank → has_rank ranks row.key row.rank ≡ true → Other key row
    other row more le there = differs key row.key (λ e.
        let most = tops row.rank le (ap (λ k. has_rank ranks k row.rank) (sym e) ∙ there) in
        let same = at.rank_is in
        omega (arith, most, more, same))

    whole : (P : Ranked → Type 0) → AllByRecursion P rows → AllByRecursion P back
    whole P h = (all_back P front (at.row ∷ back) (subst (AllByRecursion P) split.whole h)).1

    others : AllByRecursion (Other key) back
    others = all_both (λ row. at.row.rank < row.rank) (λ row. (row.rank ≤ top.rank) × (has_rank ranks row.key row.rank ≡ true)) (Other key)
        (λ row more both. other row more both.0 both.1) back
        (rising_above front back at.row (subst IsRising split.whole ranked.rising))
        (all_both (λ row. row.rank ≤ top.rank) (λ row. has_rank ranks row.key row.rank ≡ true)
        (λ row. (row.rank ≤ top.rank) × (has_rank ranks row.key row.rank ≡ true)) (λ row le there. (le, there)) back
        (whole (λ row. row.rank ≤ top.rank) (up_to_top rows before top last ranked.rising))
        (whole (λ row. has_rank ranks row.key row.rank ≡ true) ranked.known))
