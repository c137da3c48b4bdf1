-- Texts in order, each once: which texts there are decides the list.
use Rattle.std.specs.Prelude.{◌≡◌, ◌||◌, ◌∷◌, [], refl, Bool, false, List, true, ℕ}
use Rattle.std.proofs.Common.{inl, inr}
use Rattle.std.specs.BTreeSet.{insert_key}
use Rattle.std.specs.Cmp.Lexicographic.{nat_list_cmp_total, slice_cmp}
use Rattle.std.specs.List.{AllByRecursion, list_any}
use Rattle.std.specs.Ordering.{is_eq, match_ordering, nat_cmp, ordering_reverse}
use Rattle.std.specs.Str.{bytes_eq}
use Rattle.std.specs.declared.cmp.Ordering.{Ordering}
use Rattle.std.specs.declared.cmp.Ordering.TheVariants.{Equal, Greater, Less}
use Rattle.std.proofs.lemmas.Bool.{cases_Bool, true≢false}
use Rattle.std.proofs.lemmas.Map.Text.{is_eq-slice_cmp}
use Rattle.std.proofs.lemmas.Slice.Eq.{bytes_eq-Decides}
use mathlib.Core.Path.{◌∙◌, sym, ap}

abbrev pub order : List ℕ → List ℕ → Ordering
order = slice_cmp nat_cmp

abbrev pub with_text : List (List ℕ) → List ℕ → List (List ℕ)
with_text = insert_key order

-- whether a text is among those
abbrev pub has : List (List ℕ) → List ℕ → Bool
has texts text = list_any (bytes_eq text) texts

abbrev Precedes : List ℕ → List (List ℕ) → Type 0
Precedes x ys = AllByRecursion (λ y. order x y ≡ Less) ys

abbrev pub AreSorted : List (List ℕ) → Type 0
AreSorted [] = Unit {0}
AreSorted (x ∷ xs) = Precedes x xs × AreSorted xs

turned : (x y : List ℕ) → order x y ≡ Greater → order y x ≡ Less
turned x y e = nat_list_cmp_total.antisymm y x ∙ ap ordering_reverse e

same_text : (x y : List ℕ) → order x y ≡ Equal → x ≡ y
same_text x y e = (bytes_eq-Decides x y).0 (sym (is_eq-slice_cmp x y) ∙ ap is_eq e)

precedes_more : (x y : List ℕ) (zs : List (List ℕ)) → order x y ≡ Less → Precedes y zs → Precedes x zs
precedes_more x y [] less all = tt
precedes_more x y (z ∷ zs) less all = (nat_list_cmp_total.trans x y z less all.0, precedes_more x y zs less all.1)

-- ---- a text is added

precedes_with : (x k : List ℕ) (ys : List (List ℕ)) → order x k ≡ Less → Precedes x ys → Precedes x (with_text ys k)
precedes_with x k [] less all = (less, tt)
precedes_with x k (y ∷ ys) less all = by (order k y) (precedes_with x k ys less all.1)
  where
    by : (r : Ordering) → Precedes x (with_text ys k) → Precedes x (match_ordering r (k ∷ y ∷ ys) (y ∷ ys) (y ∷ with_text ys k))
    by Less more = (less, all)
    by Equal more = all
    by Greater more = (all.0, more)

pub sorted_with : (k : List ℕ) (ys : List (List ℕ)) → AreSorted ys → AreSorted (with_text ys k)
sorted_with k [] sorted = (tt, tt)
sorted_with k (y ∷ ys) sorted = by (order k y) refl (sorted_with k ys sorted.1)
  where
    by : (r : Ordering) → order k y ≡ r → AreSorted (with_text ys k) → AreSorted (match_ordering r (k ∷ y ∷ ys) (y ∷ ys) (y ∷ with_text ys k))
    by Less e more = ((e, precedes_more k y ys e sorted.0), sorted)
    by Equal e more = sorted
    by Greater e more = (precedes_with y k ys (turned k y e) sorted.0, more)

or_twice : (b c : Bool) → b || c ≡ b || (b || c)
or_twice true c = refl
or_twice false c = refl

or_turned : (a b c : Bool) → a || (b || c) ≡ b || (a || c)
or_turned true true c = refl
or_turned true false c = refl
or_turned false true c = refl
or_turned false false c = refl

pub has_with : (k : List ℕ) (ys : List (List ℕ)) (q : List ℕ) → has (with_text ys k) q ≡ bytes_eq q k || has ys q
has_with k [] q = refl
has_with k (y ∷ ys) q = by (order k y) refl (has_with k ys q)
  where
    by : (r : Ordering) → order k y ≡ r → has (with_text ys k) q ≡ bytes_eq q k || has ys q →
        has (match_ordering r (k ∷ y ∷ ys) (y ∷ ys) (y ∷ with_text ys k)) q ≡ bytes_eq q k || (bytes_eq q y || has ys q)
    by Less e more = refl
    by Equal e more = or_twice (bytes_eq q y) (has ys q) ∙ ap (λ x. bytes_eq q x || (bytes_eq q y || has ys q)) (sym (same_text k y e))
    by Greater e more = ap (λ b. bytes_eq q y || b) more ∙ or_turned (bytes_eq q y) (bytes_eq q k) (has ys q)

-- ---- two lists with the same texts

lacks : (x : List ℕ) (ys : List (List ℕ)) → Precedes x ys → has ys x ≡ false
lacks x [] all = refl
lacks x (y ∷ ys) all = ap (λ b. b || has ys x) (sym (is_eq-slice_cmp x y) ∙ ap is_eq all.0) ∙ lacks x ys all.1

has_first : (x : List ℕ) (xs : List (List ℕ)) → has (x ∷ xs) x ≡ true
has_first x xs = ap (λ b. b || has xs x) ((bytes_eq-Decides x x).1 refl)

pub same_sorted : (xs ys : List (List ℕ)) → AreSorted xs → AreSorted ys → ((q : List ℕ) → has xs q ≡ has ys q) → xs ≡ ys
same_sorted [] [] s t same = refl
same_sorted [] (y ∷ ys) s t same = absurd (true≢false (sym (has_first y ys) ∙ sym (same y)))
same_sorted (x ∷ xs) [] s t same = absurd (true≢false (sym (has_first x xs) ∙ same x))
same_sorted (x ∷ xs) (y ∷ ys) s t same = by (order x y) refl (λ more. same_sorted xs ys s.1 t.1 more)
  where
    rest : x ≡ y → (q : List ℕ) → has xs q ≡ has ys q
    rest e q = elim (cases_Bool (bytes_eq q x)) [
      | inl here ↦ (let at : q ≡ x = (bytes_eq-Decides q x).0 here in
          ap (has xs) at ∙ lacks x xs s.0 ∙ sym (ap (has ys) (at ∙ e) ∙ lacks y ys t.0))
      | inr apart ↦ ap (λ b. b || has xs q) (sym apart) ∙ same q ∙ ap (λ z. bytes_eq q z || has ys q) (sym e) ∙ ap (λ b. b || has ys q) apart
    ]

    by : (r : Ordering) → order x y ≡ r → (((q : List ℕ) → has xs q ≡ has ys q) → xs ≡ ys) → x ∷ xs ≡ y ∷ ys
    by Less e more = absurd (true≢false (sym (has_first x xs) ∙ same x ∙ lacks x (y ∷ ys) (e, precedes_more x y ys e t.0)))
    by Greater e more =
        let back = turned x y e in
        absurd (true≢false (sym (has_first y ys) ∙ sym (same y) ∙ lacks y (x ∷ xs) (back, precedes_more y x xs back s.0)))
    by Equal e more =
        let at : x ≡ y = same_text x y e in
        ap (λ z. z ∷ xs) at ∙ ap (λ zs. y ∷ zs) (more (rest at))
