-- Each gap puts nodes that are a run of their own between two parts of one list.
use Rattle.std.proofs.Common.{ℕ, ◌≡◌, ◌<◌, true, false, List, [], ◌∷◌, ◌++◌, Some, refl, sym, ap, ◌∙◌, subst, arith, cond, inl, inr, length, append_assoc}
use Rattle.std.specs.Prelude.{◌==◌, ◌||◌}
use Rattle.std.proofs.lemmas.List.{get_or_past, append-nil}
use Rattle.std.proofs.lemmas.Bool.{cases_Bool, true≢false, eq-eqb, ne_eqb, eqb-true, eqb-false, cases_lt, or_parts}
use Rattle.dom_links.specs.Lists.{is_member, IsDistinct, names, put_before, put_after}
use Rattle.dom_links.specs.Forest.{Forest, StandsOnce, children_of, run_of, parent, siblings, run_under}
use Rattle.dom_links.specs.Moves.{InsertionPoint, end_of, front_of, before_node, after_node, children_with, run_with, put}
use Rattle.dom_links.proofs.forest.Neighbours.{names-true, names-same, Around}
use Rattle.dom_links.proofs.forest.Places.{cases_Option, siblings_child, siblings_run, siblings_once, Beside, beside, get_or-map_all, get_or-map_past, length-map_from}
use Rattle.dom_links.proofs.moves.Owners.{in_own_run, no_child}
use Rattle.dom_links.proofs.moves.BlockFills.{AreAlone, FilledList}

-- what puts nodes beside t goes past the numbers before it
past : (put_in : List ℕ → List ℕ) (t : ℕ) → ((n : ℕ) (ns : List ℕ) → (n == t) ≡ false → put_in (n ∷ ns) ≡ n ∷ put_in ns) → (front rest : List ℕ) → is_member t front ≡ false → put_in (front ++ rest) ≡ front ++ put_in rest
past put_in t skips [] rest h = refl
past put_in t skips (n ∷ front) rest h =
    let two = or_parts (n == t) (is_member t front) h in
    skips n (front ++ rest) two.0 ∙ ap (λ ns. n ∷ ns) (past put_in t skips front rest two.1)

past_before : (t : ℕ) (moved front rest : List ℕ) → is_member t front ≡ false → put_before t moved (front ++ rest) ≡ front ++ put_before t moved rest
past_before t moved = past (put_before t moved) t (λ n ns off. rw off refl)

past_after : (t : ℕ) (moved front rest : List ℕ) → is_member t front ≡ false → put_after t moved (front ++ rest) ≡ front ++ put_after t moved rest
past_after t moved = past (put_after t moved) t (λ n ns off. rw off refl)

pub before_split_list : (front back : List ℕ) (t : ℕ) (moved : List ℕ) → is_member t front ≡ false → put_before t moved (front ++ t ∷ back) ≡ front ++ (moved ++ t ∷ back)
before_split_list front back t moved h =
    let here : put_before t moved (t ∷ back) ≡ moved ++ t ∷ back = rw (eq-eqb t t refl) refl in
    past_before t moved front (t ∷ back) h ∙ ap (λ ns. front ++ ns) here

pub before_none_list : (ns : List ℕ) (t : ℕ) (moved : List ℕ) → is_member t ns ≡ false → put_before t moved ns ≡ ns
before_none_list ns t moved h = ap (put_before t moved) (sym (append-nil ns)) ∙ past_before t moved ns [] h ∙ append-nil ns

pub after_split_list : (front back : List ℕ) (t : ℕ) (moved : List ℕ) → is_member t front ≡ false → put_after t moved (front ++ t ∷ back) ≡ (front ++ t ∷ []) ++ (moved ++ back)
after_split_list front back t moved h =
    let here : put_after t moved (t ∷ back) ≡ t ∷ (moved ++ back) = rw (eq-eqb t t refl) refl in
    past_after t moved front (t ∷ back) h ∙ ap (λ ns. front ++ ns) here ∙ sym (append_assoc front (t ∷ []) (moved ++ back))

pub after_absent_list : (ns : List ℕ) (t : ℕ) (moved : List ℕ) → is_member t ns ≡ false → put_after t moved ns ≡ ns
after_absent_list ns t moved h = ap (put_after t moved) (sym (append-nil ns)) ∙ past_after t moved ns [] h ∙ append-nil ns

-- the moved nodes are not in the list of another node
not_beside : (forest : Forest) (moved : List ℕ) (t n : ℕ) → StandsOnce forest → AreAlone forest moved → is_member t moved ≡ false → t < length forest.content → is_member n moved ≡ true → is_member n (siblings forest t) ≡ false
not_beside forest moved t n once lone out h s = elim (cases_Bool (is_member n (siblings forest t))) [
  | inr f ↦ f
  | inl there ↦ (let whole : siblings forest t ≡ moved = sym (Beside.same_siblings (beside forest t n once there)) ∙ siblings_run forest n (lone.no_parent n s) ∙ lone.alone n s in
      absurd (true≢false (sym (once.placed t h) ∙ ap (is_member t) whole ∙ out)))
]

filled_children : (forest : Forest) (gap : InsertionPoint) (f : List ℕ → List ℕ) (moved : List ℕ) (t : ℕ) (front back : List ℕ) (p : ℕ) → StandsOnce forest → t < length forest.content →
    ((p : ℕ) (ns : List ℕ) → children_with gap moved p ns ≡ f ns) → siblings forest t ≡ front ++ back → f (front ++ back) ≡ front ++ (moved ++ back) → f [] ≡ [] → ((ns : List ℕ) → is_member t ns ≡ false → f ns ≡ ns) →
    children_of (put gap moved forest) p ≡ cond (names (parent forest t) p) (front ++ (moved ++ back)) (children_of forest p)
filled_children forest gap f moved t front back p once h children_are row filling empty off =
    let its : children_of (put gap moved forest) p ≡ f (children_of forest p) = elim (cases_lt p (length forest.children)) [
      | inl here ↦ get_or-map_all (children_with gap moved) forest.children p here ∙ children_are p (children_of forest p)
      | inr past ↦ get_or-map_past (children_with gap moved) forest.children p past ∙ sym empty ∙ ap f (sym (get_or_past forest.children p [] past))
    ] in
    its ∙ (elim (cases_Bool (names (parent forest t) p)) [
      | inl u ↦ rw u (ap f (sym (siblings_child forest t p (names-true (parent forest t) p u)) ∙ row) ∙ filling)
      | inr g ↦ (let absent : is_member t (children_of forest p) ≡ false = elim (cases_Bool (is_member t (children_of forest p))) [
        | inr f' ↦ f'
        | inl s ↦ absurd (true≢false (sym (ap (λ o. names o p) (once.in_children p t s).1 ∙ names-same p) ∙ g))
      ] in
          rw g (off (children_of forest p) absent))
    ])

filled_runs : (forest : Forest) (f : List ℕ → List ℕ) (moved : List ℕ) (t : ℕ) (front back : List ℕ) (m : ℕ) → StandsOnce forest → t < length forest.content → m < length forest.content →
    siblings forest t ≡ front ++ back → f (front ++ back) ≡ front ++ (moved ++ back) → f [] ≡ [] → ((ns : List ℕ) → is_member t ns ≡ false → f ns ≡ ns) →
    f (run_of forest (cond (is_member m moved) t m)) ≡ cond (is_member m moved || is_member m (front ++ back)) (run_under (parent forest t) (front ++ (moved ++ back))) (run_of forest m)
filled_runs forest f moved t front back m once ht h row filling empty off =
    let of_row : (n : ℕ) → parent forest n ≡ parent forest t → siblings forest n ≡ front ++ back → f (run_of forest n) ≡ run_under (parent forest t) (front ++ (moved ++ back)) =
    λ n above same. elim (cases_Option (parent forest t)) [
      | inl none ↦ rw none (ap f (sym (siblings_run forest n (above ∙ none)) ∙ same) ∙ filling)
      | inr (p, some) ↦ rw some (ap f (once.no_run p n (above ∙ some)) ∙ empty)
    ] in
    elim (cases_Bool (is_member m moved)) [
      | inl u ↦ rw u (of_row t refl row)
      | inr g ↦ rw g (elim (cases_Bool (is_member m (front ++ back))) [
        | inl s ↦ (let there = beside forest t m once (ap (is_member m) row ∙ s) in rw s (of_row m there.same_parent (there.same_siblings ∙ row)))
        | inr k ↦ rw k (off (run_of forest m) (elim (cases_Bool (is_member t (run_of forest m))) [
          | inr f' ↦ f'
          | inl s ↦ (let facts = once.in_run m t s in
              absurd (true≢false (sym (in_own_run forest m t once h s) ∙ ap (is_member m) (sym facts.2 ∙ sym (siblings_run forest t facts.1) ∙ row) ∙ k)))
        ]))
      ])
    ]

-- a gap beside t, where f puts the nodes beside t
pub filled_beside_list : (forest : Forest) (gap : InsertionPoint) (f : List ℕ → List ℕ) (moved : List ℕ) (t : ℕ) (front back : List ℕ) → StandsOnce forest → AreAlone forest moved → is_member t moved ≡ false → t < length forest.content →
    ((p : ℕ) (ns : List ℕ) → children_with gap moved p ns ≡ f ns) → ((n : ℕ) → run_with gap moved forest n ≡ f (run_of forest (cond (is_member n moved) t n))) →
    siblings forest t ≡ front ++ back → f (front ++ back) ≡ front ++ (moved ++ back) → f [] ≡ [] → ((ns : List ℕ) → is_member t ns ≡ false → f ns ≡ ns) →
    FilledList forest (put gap moved forest) moved (parent forest t) front back
filled_beside_list forest gap f moved t front back once lone out h children_are runs_are row filling empty off =
    let here : is_member t (front ++ back) ≡ true = ap (is_member t) (sym row) ∙ once.placed t h in
    record {
      content = refl;
      children_long = length-map_from 0 (children_with gap moved) forest.children;
      runs_long = length-map_from 0 (λ n run. run_with gap moved forest n) forest.runs;
      lone = lone;
      owner_known = λ p some. elim (cases_lt p (length forest.children)) [
        | inl here' ↦ omega (arith, once.children_each)
        | inr past ↦ absurd (true≢false (sym (once.placed t h) ∙ ap (is_member t) (siblings_child forest t p some ∙ get_or_past forest.children p [] past)))
      ];
      not_inside = λ n s. ap (is_member n) (sym row) ∙ not_beside forest moved t n once lone out h s;
      row_once = subst IsDistinct row (siblings_once forest t once);
      row_is = λ m s. (let there = beside forest t m once (ap (is_member m) row ∙ s) in (there.known, there.same_parent, there.same_siblings ∙ row));
      owned = λ p some. sym (siblings_child forest t p some) ∙ row;
      children = λ p. filled_children forest gap f moved t front back p once h children_are row filling empty off;
      runs = λ m hm. get_or-map_all (λ n run. run_with gap moved forest n) forest.runs m (omega (arith, once.runs_each)) ∙ runs_are m ∙
          filled_runs forest f moved t front back m once h hm row filling empty off;
    }

-- a gap at an end of the children of t
pub filled_children_of_list : (forest : Forest) (gap : InsertionPoint) (moved : List ℕ) (t : ℕ) (front back : List ℕ) → StandsOnce forest → AreAlone forest moved → t < length forest.content →
    ((p : ℕ) (ns : List ℕ) → children_with gap moved p ns ≡ cond (p == t) (children_with gap moved t ns) ns) → ((n : ℕ) → run_with gap moved forest n ≡ cond (is_member n moved) [] (run_of forest n)) →
    children_of forest t ≡ front ++ back → children_with gap moved t (children_of forest t) ≡ front ++ (moved ++ back) →
    FilledList forest (put gap moved forest) moved (Some t) front back
filled_children_of_list forest gap moved t front back once lone h children_are runs_are row filling = record {
  content = refl;
  children_long = length-map_from 0 (children_with gap moved) forest.children;
  runs_long = length-map_from 0 (λ n run. run_with gap moved forest n) forest.runs;
  lone = lone;
  owner_known = λ p some. (let e : t ≡ p = cc in subst (λ (k : ℕ). k < length forest.content) e h);
  not_inside = λ n s. ap (is_member n) (sym row) ∙ no_child forest n t once (lone.no_parent n s);
  row_once = subst IsDistinct row (once.children_once t);
  row_is = λ m s. (let facts = once.in_children t m (ap (is_member m) row ∙ s) in (facts.0, facts.1, siblings_child forest m t facts.1 ∙ row));
  owned = λ p some. (let e : p ≡ t = cc in ap (children_of forest) e ∙ row);
  children = λ p. elim (cases_lt p (length forest.children)) [
    | inl here ↦ get_or-map_all (children_with gap moved) forest.children p here ∙ children_are p (children_of forest p) ∙
        (elim (cases_Bool (p == t)) [
          | inl u ↦ (let e : p ≡ t = eqb-true p t u in let v : (t == p) ≡ true = eq-eqb t p (sym e) in rw (u, v) (ap (λ (k : ℕ). children_with gap moved t (children_of forest k)) e ∙ filling))
          | inr g ↦ (let v : (t == p) ≡ false = ne_eqb t p (λ e. eqb-false p t g (sym e)) in rw (g, v) refl)
        ])
    | inr past ↦ (let v : (t == p) ≡ false = ne_eqb t p (λ e. omega (arith, once.children_each)) in
        rw v (get_or-map_past (children_with gap moved) forest.children p past ∙ sym (get_or_past forest.children p [] past)))
  ];
  runs = λ m hm. get_or-map_all (λ n run. run_with gap moved forest n) forest.runs m (omega (arith, once.runs_each)) ∙ runs_are m ∙
      (elim (cases_Bool (is_member m moved)) [
        | inl u ↦ rw u refl
        | inr g ↦ rw g (elim (cases_Bool (is_member m (front ++ back))) [
          | inl s ↦ rw s (once.no_run t m (once.in_children t m (ap (is_member m) row ∙ s)).1)
          | inr k ↦ rw k refl
        ])
      ]);
}

pub put-end_of : (forest : Forest) (moved : List ℕ) (t : ℕ) → StandsOnce forest → AreAlone forest moved → t < length forest.content → FilledList forest (put (end_of t) moved forest) moved (Some t) (children_of forest t) []
put-end_of forest moved t once lone h =
    let here : (t == t) ≡ true = eq-eqb t t refl in
    filled_children_of_list forest (end_of t) moved t (children_of forest t) [] once lone h (λ p ns. rw here refl) (λ n. refl) (sym (append-nil (children_of forest t))) (rw (here, append-nil moved) refl)

pub put-front_of : (forest : Forest) (moved : List ℕ) (t : ℕ) → StandsOnce forest → AreAlone forest moved → t < length forest.content → FilledList forest (put (front_of t) moved forest) moved (Some t) [] (children_of forest t)
put-front_of forest moved t once lone h =
    let here : (t == t) ≡ true = eq-eqb t t refl in
    filled_children_of_list forest (front_of t) moved t [] (children_of forest t) once lone h (λ p ns. rw here refl) (λ n. refl) refl (rw here refl)

pub put-before : (forest : Forest) (moved : List ℕ) (t : ℕ) (once : StandsOnce forest) → AreAlone forest moved → is_member t moved ≡ false → (h : t < length forest.content) → (around : Around t (siblings forest t)) →
    FilledList forest (put (before_node t) moved forest) moved (parent forest t) around.front (t ∷ around.back)
put-before forest moved t once lone out h parts =
    filled_beside_list forest (before_node t) (put_before t moved) moved t parts.front (t ∷ parts.back) once lone out h (λ p ns. refl) (λ n. refl) parts.is
    (before_split_list parts.front parts.back t moved parts.not_front) refl (λ ns absent. before_none_list ns t moved absent)

pub put-after : (forest : Forest) (moved : List ℕ) (t : ℕ) (once : StandsOnce forest) → AreAlone forest moved → is_member t moved ≡ false → (h : t < length forest.content) → (around : Around t (siblings forest t)) →
    FilledList forest (put (after_node t) moved forest) moved (parent forest t) (around.front ++ t ∷ []) around.back
put-after forest moved t once lone out h parts =
    let regroup : (parts.front ++ t ∷ []) ++ parts.back ≡ parts.front ++ t ∷ parts.back = append_assoc parts.front (t ∷ []) parts.back in
    filled_beside_list forest (after_node t) (put_after t moved) moved t (parts.front ++ t ∷ []) parts.back once lone out h (λ p ns. refl) (λ n. refl) (parts.is ∙ sym regroup)
    (rw regroup (after_split_list parts.front parts.back t moved parts.not_front)) refl (λ ns absent. after_absent_list ns t moved absent)
