-- Sets of keys with their ranks: what is found in them, and what inserting and removing one does.
use Rattle.std.specs.Prelude.{◌≡◌, ◌≤◌, ◌∷◌, ◌++◌, [], refl, ℕ, Bool, true, false, List, cond}
use Rattle.std.proofs.Common.{arith}
use Rattle.std.specs.BTreeSet.{BTreeSet, IsKeyRangeOf, IsUnchanged, Updates, UpdatesBy, contains}
use Rattle.std.specs.BTreeMap.{is_at}
use Rattle.std.specs.List.{list_any}
use Rattle.std.specs.Ordering.{is_eq, is_gt, is_lt, nat_cmp, ordering_then}
use Rattle.std.specs.declared.cmp.Ordering.{Ordering}
use Rattle.std.specs.declared.cmp.Ordering.TheVariants.{Equal, Greater, Less}
use Rattle.std.specs.declared.ops.Bound.TheVariants.{Included}
use Rattle.std.proofs.lemmas.Cmp.{nat_cmp_total, tied_itself}
use Rattle.std.proofs.lemmas.Map.Keys.{ge_from_not_lt, le_from_not_gt}
use Rattle.std.proofs.lemmas.Map.Lookups.{exact_unsigned}
use mathlib.Core.Path.{◌∙◌, sym, ap, subst}
use Rattle.page_trees.specs.KeyPlaces.{IsTopUpTo, NoneUpTo, has_rank, pair_cmp}

-- ---- the order of keys with ranks

first_le : (a b : ℕ) (o : Ordering) → is_gt (ordering_then (nat_cmp a b) o) ≡ false → a ≤ b
first_le a b o h = le_from_not_gt a b (by (nat_cmp a b) h)
  where
    by : (p : Ordering) → is_gt (ordering_then p o) ≡ false → is_gt p ≡ false
    by Less k = refl
    by Equal k = refl
    by Greater k = k

not_gt : (a b : ℕ) → a ≤ b → is_gt (nat_cmp a b) ≡ false
not_gt a b le = by (nat_cmp a b) refl
  where
    by : (o : Ordering) → nat_cmp a b ≡ o → is_gt o ≡ false
    by Less e = refl
    by Equal e = refl
    by Greater e = let less = ge_from_not_lt a b (ap is_lt e) in
        let same : a ≡ b = omega (arith, less, le) in
        let tied : nat_cmp a b ≡ Equal = ap (nat_cmp a) (sym same) ∙ tied_itself nat_cmp_total a in
        ap is_gt (sym e ∙ tied)

same_first : (key : ℕ) (o : Ordering) → ordering_then (nat_cmp key key) o ≡ o
same_first key o = ap (λ p. ordering_then p o) (tied_itself nat_cmp_total key)

-- pairs of one key are in the order of their ranks
pub in_order : (key one other : ℕ) → one ≤ other → is_gt (pair_cmp (key, one) (key, other)) ≡ false
in_order key one other le = ap is_gt (same_first key (nat_cmp one other)) ∙ not_gt one other le

-- ---- what is found

abbrev pub IsRange : BTreeSet (ℕ × ℕ) → ℕ × ℕ → ℕ × ℕ → List (ℕ × ℕ) → Type 0
IsRange ranks low high found = IsKeyRangeOf pair_cmp (Included low) (Included high) ranks found

pub range_at : (ranks : BTreeSet (ℕ × ℕ)) (l h low high : ℕ × ℕ) (found : List (ℕ × ℕ)) → l ≡ low → h ≡ high → IsRange ranks l h found →
    IsRange ranks low high found
range_at ranks l h low high found e f range =
    subst (λ (x : ℕ × ℕ). IsRange ranks x high found) e (subst (λ (y : ℕ × ℕ). IsRange ranks l y found) f range)

zero_le : (n : ℕ) → 0 ≤ n
zero_le n = omega arith

pub none_up_to : (ranks : BTreeSet (ℕ × ℕ)) (key bound : ℕ) (found : List (ℕ × ℕ)) → IsRange ranks (key, 0) (key, bound) found →
    found ≡ [] → NoneUpTo ranks key bound
none_up_to ranks key bound found range none rank le =
    range.5 none (key, rank) (in_order key 0 rank (zero_le rank), in_order key rank bound le)

pub top_up_to : (ranks : BTreeSet (ℕ × ℕ)) (key bound : ℕ) (found : List (ℕ × ℕ)) → IsRange ranks (key, 0) (key, bound) found →
    (top : ℕ × ℕ) (before : List (ℕ × ℕ)) → found ≡ before ++ top ∷ [] → IsTopUpTo ranks key bound top.1
top_up_to ranks key bound found range top before last rank le there =
    let inside = (range.3 top before last).0 in
    let low = first_le key top.0 (nat_cmp 0 top.1) inside.0 in
    let high = first_le top.0 key (nat_cmp top.1 bound) inside.1 in
    let same : key ≡ top.0 = omega (arith, low, high) in
    let after : is_lt (pair_cmp top (key, rank)) ≡ false =
    range.4 top before last (key, rank) (in_order key 0 rank (zero_le rank), in_order key rank bound le) there in
    ge_from_not_lt top.1 rank (ap is_lt (sym (same_first key (nat_cmp top.1 rank)) ∙ ap (λ k. ordering_then (nat_cmp k key) (nat_cmp top.1 rank)) same) ∙ after)

-- ---- what is inserted and removed

-- the set has what it had
abbrev pub Extends : BTreeSet (ℕ × ℕ) → BTreeSet (ℕ × ℕ) → Type 0
Extends old new = (key rank : ℕ) → has_rank old key rank ≡ true → has_rank new key rank ≡ true

pub extends_inserted : (old new : BTreeSet (ℕ × ℕ)) (pair : ℕ × ℕ) → Updates pair_cmp old new pair true → Extends old new
extends_inserted old new pair updates key rank there =
    updates.0 (key, rank) ∙ by (is_at (pair_cmp pair) (key, rank)) (has_rank old key rank) there
  where
    by : (x y : Bool) → y ≡ true → cond x true y ≡ true
    by true y h = refl
    by false y h = h

pub extends_same : (old new : BTreeSet (ℕ × ℕ)) → IsUnchanged old new → Extends old new
extends_same old new same key rank there = ap (λ (ks : List (ℕ × ℕ)). list_any (is_at (pair_cmp (key, rank))) ks) same ∙ there

not_eq : (a b : ℕ) → (a ≡ b → ⊥) → is_eq (nat_cmp a b) ≡ false
not_eq a b apart = by (nat_cmp a b) refl
  where
    by : (o : Ordering) → nat_cmp a b ≡ o → is_eq o ≡ false
    by Less e = refl
    by Equal e = absurd (apart (exact_unsigned a b e))
    by Greater e = refl

-- pairs of other ranks, or of other keys, stay
pub stays_removed : (old new : BTreeSet (ℕ × ℕ)) (pair : ℕ × ℕ) → UpdatesBy pair_cmp (pair_cmp pair) old new false → (key rank : ℕ) →
    (pair.1 ≡ rank → ⊥) → has_rank old key rank ≡ true → has_rank new key rank ≡ true
stays_removed old new pair updates key rank apart there =
    updates.2 (key, rank) (by (nat_cmp pair.0 key) (nat_cmp pair.1 rank) (not_eq pair.1 rank apart)) ∙ there
  where
    by : (o p : Ordering) → is_eq p ≡ false → is_eq (ordering_then o p) ≡ false
    by Less p h = refl
    by Equal p h = h
    by Greater p h = refl

pub other_key_stays : (old new : BTreeSet (ℕ × ℕ)) (pair : ℕ × ℕ) → UpdatesBy pair_cmp (pair_cmp pair) old new false → (key rank : ℕ) →
    (pair.0 ≡ key → ⊥) → has_rank old key rank ≡ true → has_rank new key rank ≡ true
other_key_stays old new pair updates key rank apart there =
    updates.2 (key, rank) (by (nat_cmp pair.0 key) (nat_cmp pair.1 rank) (not_eq pair.0 key apart)) ∙ there
  where
    by : (o p : Ordering) → is_eq o ≡ false → is_eq (ordering_then o p) ≡ false
    by Less p h = refl
    by Equal p h = cc
    by Greater p h = refl
