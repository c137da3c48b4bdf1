-- What elements with the same name have in common.
use Rattle.std.proofs.Common.{ℕ, ◌≡◌, ◌+◌, ◌*◌, ◌<◌, inl, inr, Bool, true, false, ◌&&◌, not, List, [], ◌∷◌, length, take, map, get_or, set, ltb, ltb-true, refl, sym, ap, ◌∙◌, subst, arith, rules, if◌then◌else◌, eqb}
use Rattle.std.specs.Prelude.{Some, slice_get}
use denote.Enum.Bare.{tag_one}
use denote.Enum.Declared.{tag_of}
use Rattle.std.proofs.Math.Seq.{map-set_same}
use Rattle.std.proofs.lemmas.Bool.{cases_Bool, cases_eq, eqb-false, eqb-true, ne_eqb}
use Rattle.std.proofs.lemmas.List.{length-map, map-append, take-map}
use Rattle.std.proofs.lemmas.Option.{get_or_from_slice_get}
use Rattle.page_trees.specs.Links.{AreLinks}
use Rattle.page_trees.specs.Names.{html_rows, rare_rows}
use Rattle.page_trees.specs.Scopes.{ends_items, is_name, is_named, is_named_like, last_place}
use Rattle.page_trees.specs.SearchIndex.{IsIndex, has_key, key_for, key_of}
use Rattle.page_trees.specs.Sets.{ends_scope, is_in_html, is_special_element}
use Rattle.page_trees.specs.contracts.name.Name.{the_type}
use Rattle.page_trees.specs.contracts.stack.ElementNamespace.{the_type as the_space}
use Rattle.page_trees.specs.declared.name.Name.{Name}
use Rattle.page_trees.specs.declared.stack.ElementNamespace.{ElementNamespace}
use Rattle.page_trees.specs.declared.stack.Open.{Open}
use Rattle.page_trees.specs.declared.stack.marks.Marks.{Marks}
use Rattle.page_trees.proofs.IndexLemmas.{same_mark}
use Rattle.page_trees.proofs.NamesAgree.{for_all}
use Rattle.page_trees.proofs.ScopeLemmas.{by_ends, last_place_push}

-- ---- keys

-- computed
pub tag_below : (name : Name) → tag_of the_type name < 127
unfolding html_rows rare_rows
tag_below name = ltb-true (tag_of the_type name) 127 (for_all (λ n. ltb (tag_of the_type n) 127) refl name)

same_bool : (b c : Bool) → (b ≡ true → c ≡ true) → (c ≡ true → b ≡ true) → b ≡ c
same_bool true true f g = refl
same_bool true false f g = sym (f refl)
same_bool false true f g = g refl
same_bool false false f g = refl

eq_eqb : (a b : ℕ) → a ≡ b → eqb a b ≡ true
eq_eqb a b e = elim (cases_Bool (eqb a b)) [ inl t ↦ t | inr f ↦ absurd (eqb-false a b f e) ]

sides : (b : Bool) (x t u : ℕ) → (x ≡ u → t ≡ u) → (t ≡ u → x ≡ u) → eqb (x * 2 + (if b then 0 else 1)) (u * 2 + 0) ≡ (b && eqb t u)
sides true x t u f g = same_bool (eqb (x * 2 + 0) (u * 2 + 0)) (eqb t u)
    (λ e. let q : x ≡ u = omega (arith, eqb-true (x * 2 + 0) (u * 2 + 0) e) in eq_eqb t u (f q))
    (λ e. eq_eqb (x * 2 + 0) (u * 2 + 0) (ap (λ z. z * 2 + 0) (g (eqb-true t u e))))
sides false x t u f g = ne_eqb (x * 2 + 1) (u * 2 + 0) (λ e. omega (arith, e))

numbers : (b : Bool) (t u number : ℕ) → t < 127 → u < 127 → (u ≡ 126 → ⊥) →
    eqb ((if eqb t 126 then 127 + number else t) * 2 + (if b then 0 else 1)) ((if eqb u 126 then 127 + 0 else u) * 2 + 0) ≡ (not (eqb u 126) && (b && eqb t u))
numbers b t u number lt lu nu =
    let fu : eqb u 126 ≡ false = ne_eqb u 126 nu in
    let right : (not (eqb u 126) && (b && eqb t u)) ≡ (b && eqb t u) = ap (λ c. not c && (b && eqb t u)) fu in
    let left : eqb ((if eqb t 126 then 127 + number else t) * 2 + (if b then 0 else 1)) ((if eqb u 126 then 127 + 0 else u) * 2 + 0) ≡ eqb ((if eqb t 126 then 127 + number else t) * 2 + (if b then 0 else 1)) (u * 2 + 0)
    = ap (λ c. eqb ((if eqb t 126 then 127 + number else t) * 2 + (if b then 0 else 1)) ((if c then 127 + 0 else u) * 2 + 0)) fu in
    left ∙ elim (cases_eq t 126) [
      | inl e ↦ (let x : (if eqb t 126 then 127 + number else t) ≡ 127 + number = ap (λ c. if c then 127 + number else t) (eq_eqb t 126 e) in
          sides b (if eqb t 126 then 127 + number else t) t u (λ f. absurd (omega (arith, f, x, lu))) (λ f. absurd (nu (sym f ∙ e))))
      | inr ne ↦ (let x : (if eqb t 126 then 127 + number else t) ≡ t = ap (λ c. if c then 127 + number else t) (ne_eqb t 126 ne) in
          sides b (if eqb t 126 then 127 + number else t) t u (λ f. sym x ∙ f) (λ f. x ∙ f))
    ] ∙ sym right

-- the key of a known name finds the HTML elements with that name
pub key_named : (name : Name) → is_name name Name.Other ≡ false → (o : Open) → eqb (key_of o) (key_for true name 0) ≡ is_named name o
key_named name known o = numbers (is_in_html o.ns) (tag_of the_type o.name) (tag_of the_type name) o.number (tag_below o.name) (tag_below name) (λ e. eqb-false (tag_of the_type name) 126 known e)

-- whatever its number
pub known_key : (name : Name) → is_name name Name.Other ≡ false → (number : ℕ) (o : Open) → has_key true name number o ≡ is_named name o
known_key name known number o =
    ap (λ b. eqb (key_of o) ((if b then 127 + number else tag_of the_type name) * 2 + 0)) known
    ∙ sym (ap (λ b. eqb (key_of o) ((if b then 127 + 0 else tag_of the_type name) * 2 + 0)) known) ∙ key_named name known o

-- the key of a name that is not in `Name` finds the HTML elements with its number
pub other_key : (number : ℕ) (o : Open) → has_key true Name.Other number o ≡ (is_in_html o.ns && (is_name o.name Name.Other && eqb o.number number))
other_key number o = by (is_in_html o.ns) (is_name o.name Name.Other) refl
  where
    by : (b c : Bool) → is_name o.name Name.Other ≡ c →
        eqb ((if c then 127 + o.number else tag_of the_type o.name) * 2 + (if b then 0 else 1)) ((127 + number) * 2 + 0) ≡ (b && (c && eqb o.number number))
    by true true e = same_bool (eqb ((127 + o.number) * 2 + 0) ((127 + number) * 2 + 0)) (eqb o.number number)
        (λ f. eq_eqb o.number number (omega (arith, eqb-true ((127 + o.number) * 2 + 0) ((127 + number) * 2 + 0) f)))
        (λ f. eq_eqb ((127 + o.number) * 2 + 0) ((127 + number) * 2 + 0) (ap (λ n. (127 + n) * 2 + 0) (eqb-true o.number number f)))
    by true false e = ne_eqb (tag_of the_type o.name * 2 + 0) ((127 + number) * 2 + 0) (λ f. omega (arith, f, tag_below o.name))
    by false true e = ne_eqb ((127 + o.number) * 2 + 1) ((127 + number) * 2 + 0) (λ f. omega (arith, f))
    by false false e = ne_eqb (tag_of the_type o.name * 2 + 1) ((127 + number) * 2 + 0) (λ f. omega (arith, f))

pub unnamed : (name : Name) → is_name name Name.Other ≡ true → (o : Open) → is_named name o ≡ false
unnamed name other o = ap (λ c. not c && (is_in_html o.ns && is_name o.name name)) other

-- ---- an element is replaced by one with its name and namespace

last_place_map : (p : Open → Bool) (xs : List Open) → last_place (λ b. b) (map p xs) ≡ last_place p xs
last_place_map p = by_ends (λ xs. last_place (λ b. b) (map p xs) ≡ last_place p xs) refl (λ ys y same.
    ap (last_place (λ b. b)) (map-append p ys (y ∷ [])) ∙ last_place_push (λ b. b) (map p ys) (p y)
    ∙ ap (λ n. if p y then n + 1 else last_place (λ b. b) (map p ys)) (length-map ys p) ∙ ap (λ n. if p y then length ys + 1 else n) same ∙ sym (last_place_push p ys y))

last_place_alike : (p : Open → Bool) (n : ℕ) (xs ys : List Open) → map p xs ≡ map p ys → last_place p (take n xs) ≡ last_place p (take n ys)
last_place_alike p n xs ys e =
    sym (last_place_map p (take n xs)) ∙ ap (last_place (λ b. b)) (sym (take-map p n xs) ∙ ap (take n) e ∙ take-map p n ys) ∙ last_place_map p (take n ys)

pub record AreAlike (xs ys : List Open) : Type 0 where
  pub html : map (λ o. is_in_html o.ns) xs ≡ map (λ o. is_in_html o.ns) ys
  pub special : map is_special_element xs ≡ map is_special_element ys
  pub ends : map ends_scope xs ≡ map ends_scope ys
  pub item_ends : map ends_items xs ≡ map ends_items ys
  pub keys : map key_of xs ≡ map key_of ys

pub alike_index : (xs ys : List Open) (marks : Marks) → AreAlike xs ys → IsIndex xs marks → IsIndex ys marks
alike_index xs ys marks e is = record {
  within = omega (arith, is.within, ap length e.keys, length-map xs key_of, length-map ys key_of);
  rows = λ k lt. is.rows k lt ∙ ap (λ m. Some m) (same_mark
      (last_place (λ o. is_in_html o.ns) (take (k + 1) xs)) (last_place is_special_element (take (k + 1) xs)) (last_place ends_scope (take (k + 1) xs)) (last_place ends_items (take (k + 1) xs))
      (last_place (λ o. is_in_html o.ns) (take (k + 1) ys)) (last_place is_special_element (take (k + 1) ys)) (last_place ends_scope (take (k + 1) ys)) (last_place ends_items (take (k + 1) ys))
      (last_place_alike (λ o. is_in_html o.ns) (k + 1) xs ys e.html) (last_place_alike is_special_element (k + 1) xs ys e.special)
      (last_place_alike ends_scope (k + 1) xs ys e.ends) (last_place_alike ends_items (k + 1) xs ys e.item_ends));
  links = subst (λ ks. AreLinks ks marks.links.same.items marks.links.next.items marks.links.tops.items)
      (sym (take-map key_of (length marks.rows.items) xs) ∙ ap (take (length marks.rows.items)) e.keys ∙ take-map key_of (length marks.rows.items) ys) is.links;
}

first_of : (b c : Bool) → (b && c) ≡ true → b ≡ true
first_of true c e = refl
first_of false c e = e

second_of : (b c : Bool) → (b && c) ≡ true → c ≡ true
second_of true c e = e
second_of false c e = cc

abbrev like : Open → ElementNamespace → Name → ℕ → Open
like o ns name number = record { id = o.id; ns = ns; name = name; number = number; holds_html = o.holds_html }

named_like : {X : Type 0} (f : ElementNamespace → Name → ℕ → X) (o other : Open) → is_named_like o other ≡ true → f o.ns o.name o.number ≡ f other.ns other.name other.number
named_like f o other e =
    let front = first_of (eqb (tag_of the_space o.ns) (tag_of the_space other.ns) && is_name o.name other.name) (eqb o.number other.number) e in
    let ns : o.ns ≡ other.ns = tag_one the_space (search rules) o.ns other.ns (eqb-true (tag_of the_space o.ns) (tag_of the_space other.ns) (first_of (eqb (tag_of the_space o.ns) (tag_of the_space other.ns)) (is_name o.name other.name) front)) in
    let name : o.name ≡ other.name = tag_one the_type (search rules) o.name other.name (eqb-true (tag_of the_type o.name) (tag_of the_type other.name) (second_of (eqb (tag_of the_space o.ns) (tag_of the_space other.ns)) (is_name o.name other.name) front)) in
    let number : o.number ≡ other.number = eqb-true o.number other.number (second_of (eqb (tag_of the_space o.ns) (tag_of the_space other.ns) && is_name o.name other.name) (eqb o.number other.number) e) in
    ap (λ x. f x o.name o.number) ns ∙ ap (λ x. f other.ns x o.number) name ∙ ap (λ x. f other.ns other.name x) number

pub replaced_alike : (xs : List Open) (i : ℕ) (o copy : Open) → slice_get xs i ≡ Some o → is_named_like o copy ≡ true → AreAlike xs (set xs i copy)
replaced_alike xs i o copy at e =
    let was : get_or xs i o ≡ o = get_or_from_slice_get xs i o o at in
    record {
      html = sym (map-set_same (λ x. is_in_html x.ns) xs i copy o (sym (ap (λ x. is_in_html x.ns) was ∙ named_like (λ s m n. is_in_html s) o copy e)));
      special = sym (map-set_same is_special_element xs i copy o (sym (ap is_special_element was ∙ named_like (λ s m n. is_special_element (like copy s m n)) o copy e)));
      ends = sym (map-set_same ends_scope xs i copy o (sym (ap ends_scope was ∙ named_like (λ s m n. ends_scope (like copy s m n)) o copy e)));
      item_ends = sym (map-set_same ends_items xs i copy o (sym (ap ends_items was ∙ named_like (λ s m n. ends_items (like copy s m n)) o copy e)));
      keys = sym (map-set_same key_of xs i copy o (sym (ap key_of was ∙ named_like (λ s m n. key_of (like copy s m n)) o copy e)));
    }
