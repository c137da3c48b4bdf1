-- Attributes found by name, and lists of names.
use Rattle.std.proofs.Common.{◌≡◌, ℕ, zero, suc, ◌+◌, ◌<◌, List, [], ◌∷◌, ◌++◌, length, Bool, true, false, ◌||◌, cond, map, None, Some, is_some, position, get_or, slice_set, take, refl, sym, ap, ◌∙◌, inl, inr, arith}
use Rattle.std.proofs.lemmas.Bool.{cases_Bool, false≢true}
use Rattle.std.proofs.lemmas.Iterator.Adapters.{position_from-zero}
use Rattle.std.proofs.lemmas.List.{length-take, get_or-take}
use Rattle.std.proofs.lemmas.List.Quantifiers.{position-Some}
use Rattle.std.proofs.lemmas.Option.{none-some}
use Rattle.std.proofs.Math.Seq.{take-set-lt}
use Rattle.std.specs.List.{list_any, find, position_from}
use Rattle.std.specs.Option.{option_map}
use Rattle.dom_nodes.specs.declared.name.Attr.{Attr}
use Rattle.dom_nodes.specs.Attrs.{attr_of}
use Rattle.dom_nodes.specs.Changes.{is_attr_named, with_missing, with_value, with_attr, plain_attr}

pub list_any-map : {X Y : Type 0} (f : X → Y) (p : Y → Bool) (xs : List X) → list_any p (map f xs) ≡ list_any (λ x. p (f x)) xs
list_any-map f p [] = refl
list_any-map f p (x ∷ xs) = ap (λ b. p (f x) || b) (list_any-map f p xs)

-- the first attribute of that local name stands there
pub with_value-at : (name value : List ℕ) (attrs : List Attr) (place : ℕ) (d : Attr) → place < length attrs →
    is_attr_named name (get_or attrs place d) ≡ true → ((k : ℕ) → k < place → is_attr_named name (get_or attrs k d) ≡ false) →
    with_value name value attrs ≡ slice_set attrs place (record (get_or attrs place d) { value = value })
with_value-at name value [] place d low here before = absurd (omega arith)
with_value-at name value (a ∷ attrs) zero d low here before =
    ap (λ b. cond b (record a { value = value } ∷ attrs) (a ∷ with_value name value attrs)) here
with_value-at name value (a ∷ attrs) (suc place) d low here before =
    ap (λ b. cond b (record a { value = value } ∷ attrs) (a ∷ with_value name value attrs)) (before 0 (omega arith))
    ∙ ap (λ rest. a ∷ rest) (with_value-at name value attrs place d (omega arith) here (λ k k_low. before (suc k) (omega arith)))

-- an attribute of that local name has a value
pub attr_of-at : (name : List ℕ) (attrs : List Attr) (place : ℕ) (d : Attr) → place < length attrs →
    is_attr_named name (get_or attrs place d) ≡ true → is_some (attr_of attrs name) ≡ true
attr_of-at name [] place d low here = absurd (omega arith)
attr_of-at name (a ∷ attrs) zero d low here =
    ap (λ b. is_some (option_map (λ attr. attr.value) (cond b (Some a) (find (is_attr_named name) attrs)))) here
attr_of-at name (a ∷ attrs) (suc place) d low here =
    elim (cases_Bool (is_attr_named name a)) [
      | inl t ↦ ap (λ b. is_some (option_map (λ attr. attr.value) (cond b (Some a) (find (is_attr_named name) attrs)))) t
      | inr f ↦ ap (λ b. is_some (option_map (λ attr. attr.value) (cond b (Some a) (find (is_attr_named name) attrs)))) f ∙ attr_of-at name attrs place d (omega arith) here
    ]

-- the value is put at the place that the search names
pub with_attr-found : (name value : List ℕ) (attrs : List Attr) (place : ℕ) (d : Attr) → position (is_attr_named name) attrs ≡ Some place →
    slice_set attrs place (record (get_or attrs place d) { value = value }) ≡ with_attr name value attrs
with_attr-found name value attrs place d at =
    let h = position-Some (is_attr_named name) attrs place d at in
    sym (with_value-at name value attrs place d h.0 h.1 h.2)
    ∙ sym (ap (λ b. cond b (with_value name value attrs) (attrs ++ plain_attr name value ∷ [])) (attr_of-at name attrs place d h.0 h.1))

set_first : {X : Type 0} (xs : List X) (x e : X) → length xs ≡ 2 → x ∷ get_or xs 1 e ∷ [] ≡ slice_set xs 0 x
set_first [] x e two = absurd (omega arith)
set_first (a ∷ []) x e two = absurd (omega arith)
set_first (a ∷ b ∷ []) x e two = refl
set_first (a ∷ b ∷ c ∷ xs) x e two = absurd (omega arith)

-- what is put into the first or the second place of a pair
pub put-first : {X : Type 0} (xs : List X) (x : X) → length xs ≡ 2 → take 1 (slice_set xs 0 x) ≡ x ∷ []
put-first [] x two = absurd (omega arith)
put-first (a ∷ xs) x two = refl

pub put-second : {X : Type 0} (xs : List X) (x : X) → length xs ≡ 2 → slice_set xs 1 x ≡ take 1 xs ++ x ∷ []
put-second [] x two = absurd (omega arith)
put-second (a ∷ []) x two = absurd (omega arith)
put-second (a ∷ b ∷ []) x two = refl
put-second (a ∷ b ∷ c ∷ xs) x two = absurd (omega arith)

-- the first of two attributes has the value
pub with_attr-first : (name value : List ℕ) (attrs : List Attr) (place : ℕ) (d e : Attr) → position (is_attr_named name) attrs ≡ Some place →
    length attrs ≡ 2 → place ≡ 0 → record (get_or attrs place d) { value = value } ∷ get_or attrs 1 e ∷ [] ≡ with_attr name value attrs
with_attr-first name value attrs place d e at two start =
    let changed = record (get_or attrs place d) { value = value } in
    set_first attrs changed e two ∙ ap (λ i. slice_set attrs i changed) (sym start) ∙ with_attr-found name value attrs place d at

find_none : {X : Type 0} (p : X → Bool) (i : ℕ) (xs : List X) → position_from p i xs ≡ None → find p xs ≡ None
find_none p i [] none = refl
find_none p i (x ∷ xs) none =
    elim (cases_Bool (p x)) [
      | inl t ↦ absurd (none-some i (sym none ∙ ap (λ b. cond b (Some i) (position_from p (i + 1) xs)) t))
      | inr f ↦ ap (λ b. cond b (Some x) (find p xs)) f ∙ find_none p (i + 1) xs (sym (ap (λ b. cond b (Some i) (position_from p (i + 1) xs)) f) ∙ none)
    ]

-- the search finds none, so one is added
pub with_attr-added : (name value : List ℕ) (attrs : List Attr) → position (is_attr_named name) attrs ≡ None →
    attrs ++ plain_attr name value ∷ [] ≡ with_attr name value attrs
with_attr-added name value attrs none =
    let missing : find (is_attr_named name) attrs ≡ None = find_none (is_attr_named name) 0 attrs (sym (position_from-zero (is_attr_named name) attrs) ∙ none) in
    sym (ap (λ found. cond (is_some (option_map (λ attr. attr.value) found)) (with_value name value attrs) (attrs ++ plain_attr name value ∷ [])) missing)

-- no attribute of that local name: none is changed
pub with_value-none : (name value : List ℕ) (attrs : List Attr) → is_some (attr_of attrs name) ≡ false → with_value name value attrs ≡ attrs
with_value-none name value [] none = refl
with_value-none name value (a ∷ attrs) none =
    elim (cases_Bool (is_attr_named name a)) [
      | inl t ↦ absurd (false≢true (sym none ∙ ap (λ b. is_some (option_map (λ attr. attr.value) (cond b (Some a) (find (is_attr_named name) attrs)))) t))
      | inr f ↦ ap (λ b. cond b (record a { value = value } ∷ attrs) (a ∷ with_value name value attrs)) f
          ∙ ap (λ rest. a ∷ rest) (with_value-none name value attrs (sym (ap (λ b. is_some (option_map (λ attr. attr.value) (cond b (Some a) (find (is_attr_named name) attrs)))) f) ∙ none))
    ]

kept_whole : (added : List Attr) → added ≡ with_missing added []
kept_whole [] = refl
kept_whole (a ∷ added) = ap (λ rest. a ∷ rest) (kept_whole added)

-- what is added to no attributes stays whole
pub with_missing-empty : (added attrs : List Attr) → length attrs ≡ 0 → added ≡ with_missing added attrs
with_missing-empty added [] none = kept_whole added
with_missing-empty added (a ∷ attrs) none = absurd (omega arith)

-- the value is put at the place that a search of the first so many names
pub with_attr-part : (name value : List ℕ) (attrs : List Attr) (count place : ℕ) (d : Attr) →
    position (is_attr_named name) (take count attrs) ≡ Some place →
    take count (slice_set attrs place (record (get_or attrs place d) { value = value })) ≡ with_attr name value (take count attrs)
with_attr-part name value attrs count place d at =
    let h = position-Some (is_attr_named name) (take count attrs) place d at in
    let low : place < count = omega (arith, h.0, length-take count attrs) in
    take-set-lt count attrs place _ low
    ∙ ap (λ attr. slice_set (take count attrs) place (record attr { value = value })) (sym (get_or-take count attrs place d low))
    ∙ with_attr-found name value (take count attrs) place d at
