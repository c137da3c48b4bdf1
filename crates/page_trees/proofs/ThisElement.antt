-- Where the open element with a name and an id stands: its search follows the links of the elements with its key.
use Rattle.std.proofs.Common.{ℕ, zero, suc, ◌≡◌, ◌+◌, ◌<◌, ◌≤◌, min, inl, inr, Bool, true, false, ◌&&◌, List, [], ◌∷◌, ◌++◌, length, take, map, get_or, refl, sym, ap, ◌∙◌, subst, arith, eqb, if◌then◌else◌}
use Rattle.std.specs.Prelude.{None, Option, Some, not, slice_get}
use Rattle.std.specs.List.{list_any}
use Rattle.std.specs.Option.{is_some}
use Rattle.std.proofs.lemmas.Bool.{cases_Bool, cases_eq, eqb-false, ne_eqb}
use Rattle.std.proofs.lemmas.List.{length-map, length-take-le, take_all}
use Rattle.page_trees.specs.Links.{IsLast}
use Rattle.page_trees.specs.Reopening.{index_at, is_this}
use Rattle.page_trees.specs.Scopes.{has_name, is_name, is_named, last_place}
use Rattle.page_trees.specs.SearchIndex.{IsIndex, is_sought, key_for, key_of}
use Rattle.page_trees.specs.declared.name.Name.{Name}
use Rattle.page_trees.specs.declared.stack.Open.{Open}
use Rattle.page_trees.specs.declared.stack.marks.Marks.{Marks}
use Rattle.page_trees.specs.declared.stack.marks.Sought.TheVariants.{Key}
use Rattle.page_trees.proofs.AlikeLemmas.{key_named, unnamed}
use Rattle.page_trees.proofs.IndexLemmas.{key_found}
use Rattle.page_trees.proofs.ScopeLemmas.{ends_here, last_place_none, last_place_push, take_next}
use Rattle.page_trees.proofs.StackSearches.{any_passes, none_passes}

-- ---- the test

eq_eqb : (a b : ℕ) → a ≡ b → eqb a b ≡ true
eq_eqb a b e = elim (cases_Bool (eqb a b)) [ inl t ↦ t | inr f ↦ absurd (eqb-false a b f e) ]

and_false : (b : Bool) → (b && false) ≡ false
and_false true = refl
and_false false = refl

other_id : (name : Name) (id : ℕ) (o : Open) (b : Bool) → b ≡ eqb o.id id → b ≡ false → is_this name id o ≡ false
other_id name id o b e f = ap (λ c. is_named name o && c) (sym e ∙ f) ∙ and_false (is_named name o)

other_name : (name : Name) (id : ℕ) (o : Open) → is_named name o ≡ false → is_this name id o ≡ false
other_name name id o f = ap (λ c. c && eqb o.id id) f

this_one : (name : Name) (id : ℕ) (o : Open) → is_named name o ≡ true → eqb o.id id ≡ true → is_this name id o ≡ true
this_one name id o n e = ap (λ c. c && eqb o.id id) n ∙ e

named_by_key : (name : Name) → is_name name Name.Other ≡ false → (o : Open) → key_of o ≡ key_for true name 0 → is_named name o ≡ true
named_by_key name known o e = sym (key_named name known o) ∙ eq_eqb (key_of o) (key_for true name 0) e

other_key : (name : Name) (id : ℕ) → is_name name Name.Other ≡ false → (o : Open) → (key_of o ≡ key_for true name 0 → ⊥) → is_this name id o ≡ false
other_key name id known o ne = other_name name id o (sym (key_named name known o) ∙ ne_eqb (key_of o) (key_for true name 0) ne)

-- ---- elements that do not pass are passed over

key_at : (xs : List Open) (j : ℕ) (x : Open) → slice_get xs j ≡ Some x → get_or (map key_of xs) j 0 ≡ key_of x
key_at [] j x e = cc
key_at (y ∷ ys) zero x e = (let f : y ≡ x = cc in ap key_of f)
key_at (y ∷ ys) (suc j) x e = key_at ys j x e

got : {X : Type 0} (xs : List X) (k : ℕ) → k < length xs → (x : X) × (slice_get xs k ≡ Some x)
got [] k lt = absurd (omega (arith, lt))
got (x ∷ xs) zero lt = (x, refl)
got (x ∷ xs) (suc k) lt = got xs k (omega (arith, lt))

pub passed_over : (p : Open → Bool) (xs : List Open) (t k : ℕ) → t ≤ k → k ≤ length xs → ((j : ℕ) (x : Open) → t ≤ j → j < k → slice_get xs j ≡ Some x → p x ≡ false) →
    last_place p (take t xs) ≡ last_place p (take k xs)
passed_over p xs t zero le within none = (let z : t ≡ 0 = omega (arith, le) in ap (λ n. last_place p (take n xs)) z)
passed_over p xs t (suc k) le within none = elim (cases_eq t (suc k)) [
  | inl e ↦ ap (λ n. last_place p (take n xs)) e
  | inr ne ↦ (let g = got xs k (omega (arith, within)) in
      passed_over p xs t k (omega (arith, le, ne)) (omega (arith, within)) (λ j x lo hi at. none j x lo (omega (arith, hi)) at)
      ∙ sym (ap (last_place p) (take_next xs k g.0 g.1) ∙ last_place_push p (take k xs) g.0
      ∙ ap (λ b. if b then length (take k xs) + 1 else last_place p (take k xs)) (none k g.0 (omega (arith, le, ne)) (omega arith) g.1)))
]

-- ---- the search among the elements that have entries

abbrev pub marked : List Open → Marks → List Open
marked elements marks = take (length marks.rows.items) elements

-- the elements up to a position decide, and the last of them has the key of the name
pub record IsAtKey (name : Name) (id : ℕ) (elements : List Open) (marks : Marks) (top : ℕ) : Type 0 where
  pub within : top ≤ length (marked elements marks)
  pub key : (k : ℕ) → top ≡ suc k → get_or (map key_of (marked elements marks)) k 0 ≡ key_for true name 0
  pub value : last_place (is_this name id) (take top (marked elements marks)) ≡ last_place (is_this name id) (marked elements marks)

at_last : (name : Name) (id : ℕ) (elements : List Open) (marks : Marks) (t k : ℕ) → is_name name Name.Other ≡ false → k ≤ length (marked elements marks) →
    IsLast (λ j. get_or (map key_of (marked elements marks)) j 0 ≡ key_for true name 0) k t →
    last_place (is_this name id) (take k (marked elements marks)) ≡ last_place (is_this name id) (marked elements marks) → IsAtKey name id elements marks t
at_last name id elements marks t k known within is value = record {
  within = omega (arith, is.within, within);
  key = is.here;
  value = passed_over (is_this name id) (marked elements marks) t k is.within within
      (λ j x lo hi at. other_key name id known x (λ e. is.none j lo hi (key_at (marked elements marks) j x at ∙ e))) ∙ value;
}

pub starts_at : (name : Name) (id : ℕ) (elements : List Open) (marks : Marks) (top key : ℕ) → is_name name Name.Other ≡ false → key ≡ key_for true name 0 →
    ((es : List Open) → IsIndex es marks → top ≡ last_place (is_sought (Key key)) (take (length marks.rows.items) es)) → IsIndex elements marks → IsAtKey name id elements marks top
starts_at name id elements marks top key known e finds is =
    let keys : List ℕ = map key_of (marked elements marks) in
    let long : length keys ≡ length (marked elements marks) = length-map (marked elements marks) key_of in
    let same : get_or marks.links.tops.items (key_for true name 0) 0 ≡ top =
    key_found elements marks (key_for true name 0) (get_or marks.links.tops.items (key_for true name 0) 0) refl is
    ∙ sym (finds elements is ∙ ap (λ k. last_place (λ o. eqb (key_of o) k) (marked elements marks)) e) in
    at_last name id elements marks top (length keys) known (omega (arith, long))
    (subst (λ t. IsLast (λ j. get_or keys j 0 ≡ key_for true name 0) (length keys) t) same (is.links.linked.last (key_for true name 0)))
    (ap (λ n. last_place (is_this name id) (take n (marked elements marks))) long ∙ ap (last_place (is_this name id)) (take_all (length (marked elements marks)) (marked elements marks) (omega arith)))

front_at : {X : Type 0} (n k : ℕ) (xs : List X) → k < length (take n xs) → slice_get (take n xs) k ≡ slice_get xs k
front_at zero k xs lt = absurd (omega (arith, lt))
front_at (suc n) k [] lt = absurd (omega (arith, lt))
front_at (suc n) zero (x ∷ xs) lt = refl
front_at (suc n) (suc k) (x ∷ xs) lt = front_at n k xs (omega (arith, lt))

-- the last of these elements
pub last_one : (name : Name) (id : ℕ) (elements : List Open) (marks : Marks) (top k : ℕ) (o : Open) → IsAtKey name id elements marks top → top ≡ suc k → slice_get elements k ≡ Some o →
    slice_get (marked elements marks) k ≡ Some o
last_one name id elements marks top k o is e at = front_at (length marks.rows.items) k elements (omega (arith, is.within, e)) ∙ at

pub found_there : (name : Name) (id : ℕ) (elements : List Open) (marks : Marks) (top k : ℕ) (o : Open) (b : Bool) → is_name name Name.Other ≡ false → IsAtKey name id elements marks top →
    top ≡ suc k → slice_get elements k ≡ Some o → b ≡ eqb o.id id → b ≡ true → Some k ≡ index_at (last_place (is_this name id) (marked elements marks))
found_there name id elements marks top k o b known is e at eb t =
    let here = last_one name id elements marks top k o is e at in
    let named : is_named name o ≡ true = named_by_key name known o (sym (key_at (marked elements marks) k o here) ∙ is.key k e) in
    let long : length (take k (marked elements marks)) ≡ k = length-take-le k (marked elements marks) (omega (arith, is.within, e)) in
    let next : length (take k (marked elements marks)) + 1 ≡ suc k = omega (arith, long) in
    let n : last_place (is_this name id) (marked elements marks) ≡ suc k =
    sym (ap (λ m. last_place (is_this name id) (take m (marked elements marks))) (sym e) ∙ is.value)
    ∙ ap (last_place (is_this name id)) (take_next (marked elements marks) k o here) ∙ last_place_push (is_this name id) (take k (marked elements marks)) o
    ∙ ap (λ c. if c then length (take k (marked elements marks)) + 1 else last_place (is_this name id) (take k (marked elements marks))) (this_one name id o named (sym eb ∙ t))
    ∙ next in
    sym (ap index_at n)

pub goes_on : (name : Name) (id : ℕ) (elements : List Open) (marks : Marks) (top k t : ℕ) (o : Open) (b : Bool) → is_name name Name.Other ≡ false → IsIndex elements marks →
    IsAtKey name id elements marks top → top ≡ suc k → slice_get elements k ≡ Some o → b ≡ eqb o.id id → b ≡ false → t ≡ min (get_or marks.links.same.items k 0) k →
    IsAtKey name id elements marks t
goes_on name id elements marks top k t o b known indexed is e at eb f et =
    let here = last_one name id elements marks top k o is e at in
    let keys : List ℕ = map key_of (marked elements marks) in
    let long : length keys ≡ length (marked elements marks) = length-map (marked elements marks) key_of in
    let before = indexed.links.linked.before k (omega (arith, long, is.within, e)) in
    let same : get_or marks.links.same.items k 0 ≡ t = omega (arith, et, before.within) in
    let key : get_or keys k 0 ≡ key_for true name 0 = is.key k e in
    let short : length (take k (marked elements marks)) ≡ k = length-take-le k (marked elements marks) (omega (arith, is.within, e)) in
    let lower : last_place (is_this name id) (take k (marked elements marks)) ≡ last_place (is_this name id) (marked elements marks) =
    passed_over (is_this name id) (marked elements marks) k (suc k) (omega arith) (omega (arith, is.within, e))
    (λ j x lo hi got_x. (let j_is : j ≡ k = omega (arith, lo, hi) in
    let x_is : Some x ≡ Some o = sym got_x ∙ ap (slice_get (marked elements marks)) j_is ∙ here in
    let same_one : x ≡ o = cc in
    ap (is_this name id) same_one ∙ other_id name id o b eb f))
    ∙ ap (λ m. last_place (is_this name id) (take m (marked elements marks))) (sym e) ∙ is.value in
    at_last name id elements marks t k known (omega (arith, is.within, e))
    (subst (λ u. IsLast (λ j. get_or keys j 0 ≡ key_for true name 0) k u) same
    (subst (λ key_here. IsLast (λ j. get_or keys j 0 ≡ key_here) k (get_or marks.links.same.items k 0)) key before)) lower

pub nothing_left : (name : Name) (id : ℕ) (elements : List Open) (marks : Marks) (top : ℕ) → IsAtKey name id elements marks top → top ≡ 0 →
    None ≡ index_at (last_place (is_this name id) (marked elements marks))
nothing_left name id elements marks top is e =
    ap index_at (ap (λ n. last_place (is_this name id) (take n (marked elements marks))) (sym e) ∙ is.value)

pub not_missing : (name : Name) (id : ℕ) (elements : List Open) (marks : Marks) (top k : ℕ) (r : Option Open) → IsAtKey name id elements marks top → top ≡ suc k →
    r ≡ slice_get elements k → r ≡ None → ⊥
not_missing name id elements marks top k r is e er none =
    let lt : k < length (marked elements marks) = omega (arith, is.within, e) in
    let g = got (marked elements marks) k lt in
    let both : Some g.0 ≡ None = sym g.1 ∙ front_at (length marks.rows.items) k elements lt ∙ sym er ∙ none in
    cc

-- ---- the whole search

pub known_this : (name : Name) (id : ℕ) (o : Open) (b : Bool) → is_name name Name.Other ≡ false → b ≡ (has_name name o && eqb o.id id) → b ≡ is_this name id o
known_this name id o b known e = e ∙ ap (λ c. (not c && has_name name o) && eqb o.id id) (sym known)

pub unknown_name : (name : Name) (id : ℕ) (elements : List Open) → is_name name Name.Other ≡ true → None ≡ index_at (last_place (is_this name id) elements)
unknown_name name id elements other = sym (ap index_at (last_place_none (is_this name id) (λ o. other_name name id o (unnamed name other o)) elements))

pub found_last : (p : Open → Bool) (elements rest below : List Open) (o : Open) → rest ≡ below ++ o ∷ [] → p o ≡ true → last_place p rest ≡ last_place p elements →
    Some (length below) ≡ index_at (last_place p elements)
found_last p elements rest below o e t value =
    let long : length rest ≡ suc (length below) = ap (λ (os : List Open). length os) e ∙ pushed below o in
    ap index_at (sym long ∙ ends_here p rest below o e t ∙ value)
  where
    pushed : (os : List Open) (x : Open) → length (os ++ x ∷ []) ≡ suc (length os)
    pushed [] x = refl
    pushed (y ∷ os) x = ap suc (pushed os x)

pub marked_decide : (p : Open → Bool) (elements rest : List Open) (marks : Marks) → take (length rest) elements ≡ rest →
    (length marks.rows.items ≤ length elements → length marks.rows.items ≤ length rest) → length rest ≤ length marks.rows.items → last_place p rest ≡ last_place p elements → IsIndex elements marks →
    last_place p (marked elements marks) ≡ last_place p elements
marked_decide p elements rest marks front enough le value is =
    let n : length marks.rows.items ≡ length rest = omega (arith, le, enough is.within) in
    ap (λ m. last_place p (take m elements)) n ∙ ap (last_place p) front ∙ value

not_twice : (b c : Bool) → c ≡ not b → b ≡ not c
not_twice true c e = sym (ap not e)
not_twice false c e = sym (ap not e)

-- none passes where none is found
pub none_there : (p : Open → Bool) (xs : List Open) (r : Option ℕ) (b : Bool) → r ≡ index_at (last_place p xs) → is_some r ≡ not b → b ≡ not (list_any p xs)
none_there p xs r b e s = not_twice b (list_any p xs) (sym (by (last_place p xs) refl) ∙ ap is_some (sym e) ∙ s)
  where
    by : (n : ℕ) → last_place p xs ≡ n → is_some (index_at n) ≡ list_any p xs
    by zero z = sym (none_passes p xs (omega (arith, z)))
    by (suc n) z = sym (any_passes p xs (omega (arith, z)))
