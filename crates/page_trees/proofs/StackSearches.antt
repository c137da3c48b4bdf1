-- Searches of the stack of open elements by its index, and what the stack's methods do to the index.
use Rattle.std.proofs.Common.{ℕ, zero, suc, ◌≡◌, ◌+◌, ◌-◌, ◌<◌, ◌≤◌, ◌⊎◌, inl, inr, max, Bool, true, false, List, [], ◌∷◌, ◌++◌, length, take, set, refl, sym, ap, ◌∙◌, subst, arith, if◌then◌else◌}
use Rattle.std.specs.Prelude.{Option, Some, None, remove, slice_get}
use Rattle.std.specs.List.{list_any}
use Rattle.std.specs.Option.{option_to_list}
use Rattle.std.proofs.lemmas.List.{append-nil, length-append, length-set, take-append-le, take-set-le}
use Rattle.page_trees.specs.Popping.{up_to_last}
use Rattle.page_trees.specs.Scopes.{is_among, is_named, last_place}
use Rattle.page_trees.specs.SearchIndex.{AreExchanged, IsIndex}
use Rattle.page_trees.specs.declared.name.Name.{Name}
use Rattle.page_trees.specs.declared.stack.Open.{Open}
use Rattle.page_trees.specs.declared.stack.marks.Marks.{Marks}
use Rattle.page_trees.proofs.IndexLemmas.{front_index}
use Rattle.page_trees.proofs.RefreshLemmas.{same_below, set_elsewhere, set_here}
use Rattle.page_trees.proofs.ScopeLemmas.{last_place_none, last_place_or}

-- the index answers for the elements that have entries, the others were looked at
pub index_decides : (elements rest : List Open) (marks : Marks) (test : Open → Bool) (r : ℕ) → take (length rest) elements ≡ rest →
    (length marks.rows.items ≤ length elements → length marks.rows.items ≤ length rest) → length rest ≤ length marks.rows.items → last_place test rest ≡ last_place test elements →
    ((es : List Open) → IsIndex es marks → r ≡ last_place test (take (length marks.rows.items) es)) → IsIndex elements marks → r ≡ last_place test elements
index_decides elements rest marks test r front enough le value finds is =
    let n : length marks.rows.items ≡ length rest = omega (arith, le, enough is.within) in
    finds elements is ∙ ap (λ m. last_place test (take m elements)) n ∙ ap (last_place test) front ∙ value

-- ---- whether one passes

length_some : {X : Type 0} (b : Bool) (x : X) (xs : List X) → 0 < length (if b then x ∷ xs else []) → b ≡ true
length_some true x xs lt = refl
length_some false x xs lt = absurd (omega (arith, lt))

length_none : {X : Type 0} (b : Bool) (x : X) (xs : List X) → length (if b then x ∷ xs else []) ≤ 0 → b ≡ false
length_none true x xs le = absurd (omega (arith, le))
length_none false x xs le = refl

pub any_passes : {X : Type 0} (p : X → Bool) (xs : List X) → 0 < last_place p xs → list_any p xs ≡ true
any_passes p [] lt = absurd (omega (arith, lt))
any_passes p (x ∷ xs) lt = length_some (list_any p (x ∷ xs)) x (up_to_last p xs) lt

pub none_passes : {X : Type 0} (p : X → Bool) (xs : List X) → last_place p xs ≤ 0 → list_any p xs ≡ false
none_passes p [] le = refl
none_passes p (x ∷ xs) le = length_none (list_any p (x ∷ xs)) x (up_to_last p xs) le

-- ---- one of several names

pub among_next : (names others : List Name) (name : Name) (elements : List Open) (top r m : ℕ) → names ≡ name ∷ others → r ≡ last_place (is_named name) elements → m ≡ max r top →
    max (last_place (is_among others) elements) m ≡ max (last_place (is_among names) elements) top
among_next names others name elements top r m e er em =
    let both : last_place (is_among (name ∷ others)) elements ≡ max (last_place (is_named name) elements) (last_place (is_among others) elements) = last_place_or (is_named name) (is_among others) elements in
    let whole : last_place (is_among names) elements ≡ last_place (is_among (name ∷ others)) elements = ap (λ ns. last_place (is_among ns) elements) e in
    omega (arith, both, whole, er, em)

pub among_none : (names : List Name) (elements : List Open) → names ≡ [] → last_place (is_among names) elements ≡ 0
among_none names elements e = ap (λ ns. last_place (is_among ns) elements) e ∙ last_place_none (is_among []) (λ o. refl) elements

-- ---- the elements change where there are no entries

pub index_pushed : (xs ys : List Open) (marks : Marks) (o : Open) → ys ≡ xs ++ o ∷ [] → IsIndex xs marks → IsIndex ys marks
index_pushed xs ys marks o e is =
    front_index xs ys marks (sym (ap (take (length marks.rows.items)) e ∙ take-append-le (length marks.rows.items) xs (o ∷ []) is.within)) (omega (arith, is.within, ap length e, length-append xs (o ∷ []))) is

pub index_taken : (xs ys : List Open) (marks : Marks) (r : Option Open) → xs ≡ ys ++ option_to_list r → length marks.rows.items ≤ length xs - 1 → IsIndex xs marks → IsIndex ys marks
index_taken xs ys marks None e le is = subst (λ zs. IsIndex zs marks) (e ∙ append-nil ys) is
index_taken xs ys marks (Some o) e le is =
    let long : length xs ≡ length ys + 1 = ap length e ∙ length-append ys (o ∷ []) in
    front_index xs ys marks (ap (take (length marks.rows.items)) e ∙ take-append-le (length marks.rows.items) ys (o ∷ []) (omega (arith, le, long))) (omega (arith, le, long)) is

take_removed : {X : Type 0} (n i : ℕ) (xs : List X) → n ≤ i → take n (remove xs i) ≡ take n xs
take_removed zero i xs le = refl
take_removed (suc n) zero [] le = absurd (omega (arith, le))
take_removed (suc n) (suc i) [] le = refl
take_removed (suc n) zero (x ∷ xs) le = absurd (omega (arith, le))
take_removed (suc n) (suc i) (x ∷ xs) le = ap (λ ys. x ∷ ys) (take_removed n i xs (omega (arith, le)))

length_removed : {X : Type 0} (xs : List X) (i : ℕ) → length xs ≤ length (remove xs i) + 1
length_removed [] i = omega arith
length_removed (x ∷ xs) zero = omega arith
length_removed (x ∷ xs) (suc i) = omega (arith, length_removed xs i)

pub index_removed : (xs ys : List Open) (marks : Marks) (i : ℕ) → ys ≡ remove xs i → i < length xs → length marks.rows.items ≤ i → IsIndex xs marks → IsIndex ys marks
index_removed xs ys marks i e lt le is =
    front_index xs ys marks (sym (ap (take (length marks.rows.items)) e ∙ take_removed (length marks.rows.items) i xs le)) (omega (arith, le, lt, ap length e, length_removed xs i)) is

pub index_set : (xs ys : List Open) (marks : Marks) (i : ℕ) (o : Open) → ys ≡ set xs i o → length marks.rows.items ≤ i → IsIndex xs marks → IsIndex ys marks
index_set xs ys marks i o e le is =
    front_index xs ys marks (sym (ap (take (length marks.rows.items)) e ∙ take-set-le (length marks.rows.items) xs i o le)) (omega (arith, is.within, ap length e, length-set xs i o)) is

-- two writes exchange neighbours
pub set_exchanged : (xs mid ys : List Open) (i : ℕ) (lower upper : Open) → slice_get xs i ≡ Some lower → slice_get xs (i + 1) ≡ Some upper → i + 1 < length xs → mid ≡ set xs i upper → ys ≡ set mid (i + 1) lower → AreExchanged xs ys i
set_exchanged xs mid ys i lower upper el eu lt em ey =
    let long : length mid ≡ length xs = ap length em ∙ length-set xs i upper in
    record {
      long = ap length ey ∙ length-set mid (i + 1) lower ∙ long;
      lower = ap (λ zs. slice_get zs i) ey ∙ set_elsewhere mid (i + 1) i lower (λ e. omega (arith, e)) ∙ ap (λ zs. slice_get zs i) em ∙ set_here xs i upper (omega (arith, lt)) ∙ sym eu;
      upper = ap (λ zs. slice_get zs (i + 1)) ey ∙ set_here mid (i + 1) lower (omega (arith, lt, long)) ∙ sym el;
      rest = λ k n0 n1. ap (λ zs. slice_get zs k) ey ∙ set_elsewhere mid (i + 1) k lower n1 ∙ ap (λ zs. slice_get zs k) em ∙ set_elsewhere xs i k upper n0;
    }

pub below_still : {X : Type 0} (xs ys : List X) (y : X) (n : ℕ) → xs ≡ ys ++ y ∷ [] → n < length xs → n ≤ length ys
below_still xs ys y n e lt = omega (arith, lt, ap length e, length-append ys (y ∷ []))

-- the index follows an exchange, or has no entries there
pub exchanged_stack : (xs ys slice : List Open) (m0 m1 m2 : Marks) (place : ℕ) → slice ≡ ys → m1 ≡ m0 → (place + 1 < length m0.rows.items) ⊎ (length m0.rows.items ≤ place) → AreExchanged xs ys place → IsIndex xs m0 →
    ((former : List Open) → place + 1 < length m1.rows.items → AreExchanged former slice place → IsIndex former m1 → IsIndex slice m2) → (length m1.rows.items ≤ place → m2 ≡ m1) → IsIndex ys m2
exchanged_stack xs ys slice m0 m1 m2 place es em (inl lt) w is moves stays =
    let lt1 : place + 1 < length m1.rows.items = omega (arith, lt, ap (λ (m : Marks). length m.rows.items) em) in
    subst (λ zs. IsIndex zs m2) es (moves xs lt1 (subst (λ zs. AreExchanged xs zs place) (sym es) w) (subst (λ m. IsIndex xs m) (sym em) is))
exchanged_stack xs ys slice m0 m1 m2 place es em (inr le) w is moves stays =
    let le1 : length m1.rows.items ≤ place = omega (arith, le, ap (λ (m : Marks). length m.rows.items) em) in
    subst (λ m. IsIndex ys m) (sym (stays le1 ∙ em)) (front_index xs ys m0 (same_below xs ys place w (length m0.rows.items) le) (omega (arith, is.within, w.long)) is)
