-- The search index of the stack of open elements: its entries, and what adding and removing one does.
use Rattle.std.proofs.Common.{ℕ, suc, ◌≡◌, ◌+◌, ◌<◌, ◌≤◌, inl, inr, Bool, List, [], ◌∷◌, ◌++◌, length, take, map, get_or, refl, sym, ap, ◌∙◌, subst, arith, if◌then◌else◌, eqb}
use Rattle.std.specs.Prelude.{IfNone, None, Option, Some, slice_get}
use Rattle.std.specs.Option.{option_to_list}
use Rattle.std.proofs.lemmas.Bool.{cases_Bool, cases_eq, cases_lt, eqb-false, eqb-true}
use Rattle.std.proofs.lemmas.List.{get_or_append_left, get_or_push, length-map, length-take-le, length_push, map-append, take-take}
use Rattle.std.proofs.lemmas.Option.{slice_get_within}
use Rattle.page_trees.specs.Links.{AreLinks, IsLast}
use Rattle.page_trees.specs.Scopes.{ends_items, last_place}
use Rattle.page_trees.specs.SearchIndex.{IsIndex, key_of, mark_of}
use Rattle.page_trees.specs.Sets.{ends_scope, is_in_html, is_special_element}
use Rattle.page_trees.specs.declared.stack.Open.{Open}
use Rattle.page_trees.specs.declared.stack.marks.Mark.{Mark}
use Rattle.page_trees.specs.declared.stack.marks.Marks.{Marks}
use Rattle.page_trees.proofs.LinkLemmas.{of_same, shorter}
use Rattle.page_trees.proofs.ScopeLemmas.{by_ends, last_place_push, slice_get_end, slice_get_left, take_one_more}

-- ---- an entry

abbrev pub mark_with : ℕ → ℕ → ℕ → ℕ → Mark
mark_with h s e i = record { html = h; special = s; ends = e; item_ends = i }

pub same_mark : (h s e i h' s' e' i' : ℕ) → h ≡ h' → s ≡ s' → e ≡ e' → i ≡ i' → mark_with h s e i ≡ mark_with h' s' e' i'
same_mark h s e i h' s' e' i' ph ps pe pi =
    ap (λ x. mark_with x s e i) ph ∙ ap (λ x. mark_with h' x e i) ps ∙ ap (λ x. mark_with h' s' x i) pe ∙ ap (λ x. mark_with h' s' e' x) pi

answer : (p : Open → Bool) (elements : List Open) (o : Open) (b : Bool) (top r below : ℕ) → b ≡ p o → below ≡ last_place p elements → top ≡ length elements + 1 → r ≡ (if b then top else below) → r ≡ last_place p (elements ++ o ∷ [])
answer p elements o b top r below eb el et er =
    er ∙ ap (λ c. if c then top else below) eb ∙ ap (λ n. if p o then n else below) et ∙ ap (λ n. if p o then length elements + 1 else n) el ∙ sym (last_place_push p elements o)

pub found_mark : (elements : List Open) (o : Open) (below : Mark) (top h s e i : ℕ) (bh bs be bi : Bool) → below ≡ mark_of elements → top ≡ length elements + 1 →
    bh ≡ is_in_html o.ns → bs ≡ is_special_element o → be ≡ ends_scope o → bi ≡ ends_items o →
    h ≡ (if bh then top else below.html) → s ≡ (if bs then top else below.special) → e ≡ (if be then top else below.ends) → i ≡ (if bi then top else below.item_ends) →
    mark_with h s e i ≡ mark_of (elements ++ o ∷ [])
found_mark elements o below top h s e i bh bs be bi eb et ebh ebs ebe ebi eh es ee ei =
    same_mark h s e i (last_place (λ x. is_in_html x.ns) (elements ++ o ∷ [])) (last_place is_special_element (elements ++ o ∷ [])) (last_place ends_scope (elements ++ o ∷ [])) (last_place ends_items (elements ++ o ∷ []))
    (answer (λ x. is_in_html x.ns) elements o bh top h below.html ebh (ap (λ m. m.html) eb) et eh)
    (answer is_special_element elements o bs top s below.special ebs (ap (λ m. m.special) eb) et es)
    (answer ends_scope elements o be top e below.ends ebe (ap (λ m. m.ends) eb) et ee)
    (answer ends_items elements o bi top i below.item_ends ebi (ap (λ m. m.item_ends) eb) et ei)

-- ---- keys

keys_next : (elements : List Open) (n : ℕ) (x : Open) → slice_get elements n ≡ Some x → map key_of (take (n + 1) elements) ≡ map key_of (take n elements) ++ key_of x ∷ []
keys_next elements n x e = ap (map key_of) (take_one_more elements n x e) ∙ map-append key_of (take n elements) (x ∷ [])

last_key_step : (ys : List ℕ) (y key t : ℕ) → ((u : ℕ) → IsLast (λ j. get_or ys j 0 ≡ key) (length ys) u → u ≡ last_place (λ k. eqb k key) ys) →
    IsLast (λ j. get_or (ys ++ y ∷ []) j 0 ≡ key) (suc (length ys)) t → t ≡ (if eqb y key then length ys + 1 else last_place (λ k. eqb k key) ys)
last_key_step ys y key t ih is = elim (cases_Bool (eqb y key)) [
  | inl tr ↦ (let e : y ≡ key = eqb-true y key tr in
      let top : t ≡ length ys + 1 = elim (cases_lt t (suc (length ys))) [
        | inl lt ↦ absurd (is.none (length ys) (omega (arith, lt)) (omega arith) (get_or_push ys y 0 (length ys) refl ∙ e))
        | inr le ↦ omega (arith, le, is.within)
      ] in
      top ∙ sym (ap (λ b. if b then length ys + 1 else last_place (λ k. eqb k key) ys) tr))
  | inr fa ↦ ih t (of_same (λ j. get_or (ys ++ y ∷ []) j 0 ≡ key) (λ j. get_or ys j 0 ≡ key) (length ys) t
      (λ j lt p. sym (get_or_append_left ys (y ∷ []) 0 j lt) ∙ p) (λ j lt p. get_or_append_left ys (y ∷ []) 0 j lt ∙ p)
      (shorter (λ j. get_or (ys ++ y ∷ []) j 0 ≡ key) (length ys) t is (λ p. eqb-false y key fa (sym (get_or_push ys y 0 (length ys) refl) ∙ p))))
      ∙ sym (ap (λ b. if b then length ys + 1 else last_place (λ k. eqb k key) ys) fa)
]

last_of_keys : (key : ℕ) (keys : List ℕ) (t : ℕ) → IsLast (λ j. get_or keys j 0 ≡ key) (length keys) t → t ≡ last_place (λ k. eqb k key) keys
last_of_keys key = by_ends (λ keys. (t : ℕ) → IsLast (λ j. get_or keys j 0 ≡ key) (length keys) t → t ≡ last_place (λ k. eqb k key) keys)
    (λ t is. omega (arith, is.within))
    (λ ys y ih t is.
    let long : length (ys ++ y ∷ []) ≡ suc (length ys) = omega (arith, length_push ys y) in
    last_key_step ys y key t ih (subst (λ n. IsLast (λ j. get_or (ys ++ y ∷ []) j 0 ≡ key) n t) long is) ∙ sym (last_place_push (λ k. eqb k key) ys y))

last_mapped : (key : ℕ) (xs : List Open) → last_place (λ k. eqb k key) (map key_of xs) ≡ last_place (λ o. eqb (key_of o) key) xs
last_mapped key = by_ends (λ xs. last_place (λ k. eqb k key) (map key_of xs) ≡ last_place (λ o. eqb (key_of o) key) xs) refl (λ ys y same.
    ap (last_place (λ k. eqb k key)) (map-append key_of ys (y ∷ []))
    ∙ last_place_push (λ k. eqb k key) (map key_of ys) (key_of y)
    ∙ ap (λ n. if eqb (key_of y) key then n + 1 else last_place (λ k. eqb k key) (map key_of ys)) (length-map ys key_of)
    ∙ ap (λ n. if eqb (key_of y) key then length ys + 1 else n) same
    ∙ sym (last_place_push (λ o. eqb (key_of o) key) ys y))

-- the links know the last element with a key
pub key_found : (elements : List Open) (marks : Marks) (key t : ℕ) → t ≡ get_or marks.links.tops.items key 0 → IsIndex elements marks →
    t ≡ last_place (λ o. eqb (key_of o) key) (take (length marks.rows.items) elements)
key_found elements marks key t e is =
    e ∙ last_of_keys key (map key_of (take (length marks.rows.items) elements)) (get_or marks.links.tops.items key 0) (is.links.linked.last key) ∙ last_mapped key (take (length marks.rows.items) elements)

-- ---- steps

-- the elements past the entries do not matter
pub front_index : (xs ys : List Open) (marks : Marks) → take (length marks.rows.items) xs ≡ take (length marks.rows.items) ys → length marks.rows.items ≤ length ys → IsIndex xs marks → IsIndex ys marks
front_index xs ys marks e le is = record {
  within = le;
  rows = λ k lt.
      let front : take (k + 1) xs ≡ take (k + 1) ys = sym (take-take (k + 1) (length marks.rows.items) xs (omega (arith, lt))) ∙ ap (take (k + 1)) e ∙ take-take (k + 1) (length marks.rows.items) ys (omega (arith, lt)) in
      is.rows k lt ∙ ap (λ zs. Some (mark_of zs)) front;
  links = subst (λ zs. AreLinks (map key_of zs) marks.links.same.items marks.links.next.items marks.links.tops.items) e is.links;
}

pub popped_index : (elements : List Open) (old new : Marks) (o : Open) (m : Mark) → old.rows.items ≡ new.rows.items ++ m ∷ [] → slice_get elements (length new.rows.items) ≡ Some o →
    ((keys : List ℕ) → AreLinks (keys ++ key_of o ∷ []) old.links.same.items old.links.next.items old.links.tops.items → AreLinks keys new.links.same.items new.links.next.items new.links.tops.items) →
    IsIndex elements old → IsIndex elements new
popped_index elements old new o m e at_end step is =
    let long : length old.rows.items ≡ length new.rows.items + 1 = ap length e ∙ length_push new.rows.items m in
    record {
      within = omega (arith, long, is.within);
      rows = λ k lt. sym (slice_get_left new.rows.items (m ∷ []) k lt) ∙ ap (λ xs. slice_get xs k) (sym e) ∙ is.rows k (omega (arith, lt, long));
      links = step (map key_of (take (length new.rows.items) elements))
          (subst (λ ks. AreLinks ks old.links.same.items old.links.next.items old.links.tops.items) (ap (λ n. map key_of (take n elements)) long ∙ keys_next elements (length new.rows.items) o at_end) is.links);
    }

pub added_index : (elements : List Open) (old new : Marks) (o : Open) (m : Mark) → new.rows.items ≡ old.rows.items ++ m ∷ [] → slice_get elements (length old.rows.items) ≡ Some o →
    m ≡ mark_of (take (length old.rows.items) elements ++ o ∷ []) →
    ((keys : List ℕ) → AreLinks keys old.links.same.items old.links.next.items old.links.tops.items → AreLinks (keys ++ key_of o ∷ []) new.links.same.items new.links.next.items new.links.tops.items) →
    IsIndex elements old → IsIndex elements new
added_index elements old new o m e at_end em step is =
    let long : length new.rows.items ≡ length old.rows.items + 1 = ap length e ∙ length_push old.rows.items m in
    record {
      within = omega (arith, long, slice_get_within elements (length old.rows.items) o at_end);
      rows = λ k lt. elim (cases_eq k (length old.rows.items)) [
        | inl f ↦ ap (λ xs. slice_get xs k) e ∙ ap (λ i. slice_get (old.rows.items ++ m ∷ []) i) f ∙ slice_get_end old.rows.items m
            ∙ ap (λ x. Some x) (em ∙ ap mark_of (sym (take_one_more elements (length old.rows.items) o at_end)) ∙ ap (λ i. mark_of (take (i + 1) elements)) (sym f))
        | inr ne ↦ (let l : k < length old.rows.items = omega (arith, lt, long, ne) in ap (λ xs. slice_get xs k) e ∙ slice_get_left old.rows.items (m ∷ []) k l ∙ is.rows k l)
      ];
      links = subst (λ ks. AreLinks ks new.links.same.items new.links.next.items new.links.tops.items)
          (sym (ap (λ n. map key_of (take n elements)) long ∙ keys_next elements (length old.rows.items) o at_end))
          (step (map key_of (take (length old.rows.items) elements)) is.links);
    }

pub taken_long : (elements : List Open) (marks : Marks) → IsIndex elements marks → length (take (length marks.rows.items) elements) ≡ length marks.rows.items
taken_long elements marks is = length-take-le (length marks.rows.items) elements is.within

pub popped_off : (elements : List Open) (old new : Marks) (o : Open) (r : Option Mark) → old.rows.items ≡ new.rows.items ++ option_to_list r → IfNone r (old.rows.items ≡ []) → 0 < length old.rows.items →
    slice_get elements (length new.rows.items) ≡ Some o →
    ((keys : List ℕ) → AreLinks (keys ++ key_of o ∷ []) old.links.same.items old.links.next.items old.links.tops.items → AreLinks keys new.links.same.items new.links.next.items new.links.tops.items) →
    IsIndex elements old → IsIndex elements new
popped_off elements old new o None e none lt at_end step is = absurd (omega (arith, lt, ap length none))
popped_off elements old new o (Some m) e none lt at_end step is = popped_index elements old new o m e at_end step is
