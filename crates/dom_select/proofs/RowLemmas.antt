-- The nodes above a node and the elements before it, as they are seen from other nodes there.
use Rattle.std.proofs.Common.{◌≡◌, ◌+◌, ℕ, zero, suc, List, [], ◌∷◌, true, Option, Some, None, inl, inr, refl, sym, ap, ◌∙◌, true≢false, drop, arith}
use Rattle.std.specs.Prelude.{◌==◌, ◌||◌, if◌then◌else◌}
use Rattle.std.proofs.Math.Seq.{drop-nil}
use Rattle.std.proofs.lemmas.Bool.{cases_Bool, eqb-true, eq-eqb, or_right, or_cases}
use Rattle.dom_links.specs.Forest.{Forest, parent, siblings}
use Rattle.dom_links.specs.Laws.{AreLines}
use Rattle.dom_links.specs.Lists.{is_member, before}
use Rattle.dom_links.specs.Trees.{ancestors, upward}
use Rattle.dom_links.specs.Walk.{row_on}
use Rattle.dom_links.specs.ListMoves.{element_at}
use Rattle.dom_select.specs.Leftward.{earlier}
use Rattle.dom_select.specs.Meaning.{ComesFirst}

-- the elements of a list
abbrev pub elements_of : Forest → List ℕ → List ℕ
elements_of forest [] = []
elements_of forest (v ∷ vs) = if element_at forest v then v ∷ elements_of forest vs else elements_of forest vs

pub drop_twice : (i j : ℕ) (ns : List ℕ) → drop i (drop j ns) ≡ drop (i + j) ns
drop_twice i zero ns = ap (λ k. drop k ns) (omega arith)
drop_twice i (suc j) [] = drop-nil i ∙ sym (drop-nil (i + suc j))
drop_twice i (suc j) (n ∷ ns) = let e : i + suc j ≡ suc (i + j) = omega arith in rw e (drop_twice i j ns)

pub drop_swap : (i j : ℕ) (ns : List ℕ) → drop i (drop j ns) ≡ drop j (drop i ns)
drop_swap i j ns = drop_twice i j ns ∙ (ap (λ k. drop k ns) (omega arith) ∙ sym (drop_twice j i ns))

pub stands_farther : (i : ℕ) (ns : List ℕ) (n : ℕ) → is_member n (drop i ns) ≡ true → is_member n ns ≡ true
stands_farther zero ns n s = s
stands_farther (suc i) [] n s = s
stands_farther (suc i) (m ∷ ns) n s = or_right (m == n) (is_member n ns) (stands_farther i ns n s)

-- a way: who comes next on it has the rest of it
module _ (way : ℕ → List ℕ) (goes : (n m : ℕ) (ms : List ℕ) → way n ≡ m ∷ ms → way m ≡ ms) where
  way_from : (ns : List ℕ) (n w : ℕ) → way n ≡ ns → is_member w ns ≡ true → (t : ℕ) × (way w ≡ drop (suc t) ns)
  way_from [] n w e s = absurd (true≢false (sym s))
  way_from (m ∷ ms) n w e s = elim (or_cases (m == w) (is_member w ms) s) [
    | inl here ↦ (zero, ap way (sym (eqb-true m w here)) ∙ goes n m ms e)
    | inr there ↦ (let far = way_from ms m w (goes n m ms e) there in (suc far.0, far.1))
  ]

  -- who stands on the way has a later part of it
  pub on_way : (n w : ℕ) → is_member w (way n) ≡ true → (t : ℕ) × (way w ≡ drop (suc t) (way n))
  on_way n w s = way_from (way n) n w refl s

module _ (forest : Forest) (lines : AreLines forest) where
  up_goes : (o : Option ℕ) (n m : ℕ) (ms : List ℕ) → parent forest n ≡ o → ancestors forest n ≡ m ∷ ms → (parent forest n ≡ Some m) × (ancestors forest m ≡ ms)
  up_goes None n m ms e h = let none = lines.top n e in cc
  up_goes (Some p) n m ms e h =
      let is : p ∷ ancestors forest p ≡ m ∷ ms = sym (lines.up n p e) ∙ h in
      let same : p ≡ m = cc in
      let rest : ancestors forest p ≡ ms = cc in
      (e ∙ ap (λ k. Some k) same, ap (ancestors forest) (sym same) ∙ rest)

  pub parent_first : (n m : ℕ) (ms : List ℕ) → ancestors forest n ≡ m ∷ ms → parent forest n ≡ Some m
  parent_first n m ms h = (up_goes (parent forest n) n m ms refl h).0

  above_goes : (n m : ℕ) (ms : List ℕ) → ancestors forest n ≡ m ∷ ms → ancestors forest m ≡ ms
  above_goes n m ms h = (up_goes (parent forest n) n m ms refl h).1

  back_goes : (o : Option ℕ) (n m : ℕ) (ms : List ℕ) → before (siblings forest n) n ≡ o → earlier forest n ≡ m ∷ ms → (earlier forest m ≡ ms) × (ancestors forest m ≡ ancestors forest n)
  back_goes None n m ms e h = let none : earlier forest n ≡ [] = lines.beside true n ∙ ap (row_on forest true) e in cc
  back_goes (Some p) n m ms e h =
      let is : p ∷ earlier forest p ≡ m ∷ ms = sym (lines.beside true n ∙ ap (row_on forest true) e) ∙ h in
      let same : p ≡ m = cc in
      let rest : earlier forest p ≡ ms = cc in
      (ap (earlier forest) (sym same) ∙ rest, ap (upward forest) (ap (parent forest) (sym same) ∙ lines.together true n p e))

  earlier_goes : (n m : ℕ) (ms : List ℕ) → earlier forest n ≡ m ∷ ms → earlier forest m ≡ ms
  earlier_goes n m ms h = (back_goes (before (siblings forest n) n) n m ms refl h).0

  -- who stands above a node has a later part of what stands above it, and so for those before it
  pub on_above : (n w : ℕ) → is_member w (ancestors forest n) ≡ true → (t : ℕ) × (ancestors forest w ≡ drop (suc t) (ancestors forest n))
  on_above n w s = on_way (ancestors forest) above_goes n w s

  pub on_earlier : (n w : ℕ) → is_member w (earlier forest n) ≡ true → (t : ℕ) × (earlier forest w ≡ drop (suc t) (earlier forest n))
  on_earlier n w s = on_way (earlier forest) earlier_goes n w s

  row_from : (ns : List ℕ) (n w : ℕ) → earlier forest n ≡ ns → is_member w ns ≡ true → ancestors forest w ≡ ancestors forest n
  row_from [] n w e s = absurd (true≢false (sym s))
  row_from (m ∷ ms) n w e s =
      let next = back_goes (before (siblings forest n) n) n m ms refl e in
      elim (or_cases (m == w) (is_member w ms) s) [
        | inl here ↦ ap (ancestors forest) (sym (eqb-true m w here)) ∙ next.1
        | inr there ↦ row_from ms m w next.0 there ∙ next.1
      ]

  -- the same nodes are above those in one list
  pub same_above : (n w : ℕ) → is_member w (earlier forest n) ≡ true → ancestors forest w ≡ ancestors forest n
  same_above n w s = row_from (earlier forest n) n w refl s

  -- the elements before a node
  abbrev pub elements_before : ℕ → List ℕ
  elements_before n = elements_of forest (earlier forest n)

  elements_from : (ns : List ℕ) (n m : ℕ) (ms : List ℕ) → earlier forest n ≡ ns → elements_of forest ns ≡ m ∷ ms → elements_before m ≡ ms
  elements_from [] n m ms e h = cc
  elements_from (v ∷ vs) n m ms e h = elim (cases_Bool (element_at forest v)) [
    | inl t ↦ (let is : v ∷ elements_of forest vs ≡ m ∷ ms = rw t at h in
        let same : v ≡ m = cc in
        let rest : elements_of forest vs ≡ ms = cc in
        ap elements_before (sym same) ∙ (ap (elements_of forest) (earlier_goes n v vs e) ∙ rest))
    | inr f ↦ elements_from vs v m ms (earlier_goes n v vs e) (rw f at h)
  ]

  elements_go : (n m : ℕ) (ms : List ℕ) → elements_before n ≡ m ∷ ms → elements_before m ≡ ms
  elements_go n m ms h = elements_from (earlier forest n) n m ms refl h

  pub on_elements : (n w : ℕ) → is_member w (elements_before n) ≡ true → (t : ℕ) × (elements_before w ≡ drop (suc t) (elements_before n))
  on_elements n w s = on_way elements_before elements_go n w s

  -- the first element before a node
  pub first_element : (n w : ℕ) (ms : List ℕ) → elements_before n ≡ w ∷ ms → elements_before w ≡ drop 1 (elements_before n)
  first_element n w ms h = elements_go n w ms h ∙ sym (ap (drop 1) h)

pub element_among : (forest : Forest) (ns : List ℕ) (w : ℕ) → is_member w ns ≡ true → element_at forest w ≡ true → is_member w (elements_of forest ns) ≡ true
element_among forest [] w s e = s
element_among forest (v ∷ vs) w s e = elim (or_cases (v == w) (is_member w vs) s) [
  | inl here ↦ (let is = ap (element_at forest) (eqb-true v w here) ∙ e in rw is (ap (λ b. b || is_member w (elements_of forest vs)) here))
  | inr there ↦ elim (cases_Bool (element_at forest v)) [
    | inl t ↦ rw t (or_right (v == w) (is_member w (elements_of forest vs)) (element_among forest vs w there e))
    | inr f ↦ rw f (element_among forest vs w there e)
  ]
]

pub among_elements : (forest : Forest) (ns : List ℕ) (w : ℕ) → is_member w (elements_of forest ns) ≡ true → is_member w ns ≡ true
among_elements forest [] w s = s
among_elements forest (v ∷ vs) w s = elim (cases_Bool (element_at forest v)) [
  | inl t ↦ elim (or_cases (v == w) (is_member w (elements_of forest vs)) (rw t at s)) [
    | inl here ↦ ap (λ b. b || is_member w vs) here
    | inr there ↦ or_right (v == w) (is_member w vs) (among_elements forest vs w there)
  ]
  | inr f ↦ or_right (v == w) (is_member w vs) (among_elements forest vs w (rw f at s))
]

-- an element that comes first is the first element
pub comes_first : (forest : Forest) (ns : List ℕ) (w : ℕ) → ComesFirst forest w ns → element_at forest w ≡ true → (ms : List ℕ) × (elements_of forest ns ≡ w ∷ ms)
comes_first forest [] w h e = absurd h
comes_first forest (v ∷ vs) w (inl is) e = let here = ap (element_at forest) (sym is) ∙ e in (elements_of forest vs, rw here (ap (λ m. m ∷ elements_of forest vs) (sym is)))
comes_first forest (v ∷ vs) w (inr h) e = elim (cases_Bool (element_at forest v)) [
  | inl t ↦ absurd (h.0 t)
  | inr f ↦ rw f (comes_first forest vs w h.1 e)
]

pub first_stands : (forest : Forest) (ns : List ℕ) (w : ℕ) → ComesFirst forest w ns → is_member w ns ≡ true
first_stands forest [] w h = absurd h
first_stands forest (v ∷ vs) w (inl is) = ap (λ b. b || is_member w vs) (eq-eqb v w (sym is))
first_stands forest (v ∷ vs) w (inr h) = or_right (v == w) (is_member w vs) (first_stands forest vs w h.1)
