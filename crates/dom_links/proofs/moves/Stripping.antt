-- Named elements are replaced by their children, in the order of the walk.
use Rattle.std.proofs.Common.{ℕ, ◌≡◌, ◌<◌, Bool, true, false, List, [], ◌∷◌, ◌++◌, Option, Some, None, refl, sym, ap, ◌∙◌, subst, arith, inl, inr, length, append_assoc, append-nil}
use Rattle.std.specs.Prelude.{◌==◌, ◌&&◌, ◌||◌, filter, not}
use Rattle.std.specs.Option.{option_and_then, option_map_or}
use Rattle.std.proofs.lemmas.Bool.{cases_Bool, eqb-true, true≢false}
use Rattle.std.proofs.lemmas.List.Elements.{filter-append}
use Rattle.dom_nodes.specs.Attrs.{name_in}
use Rattle.dom_nodes.specs.Words.{is_among}
use Rattle.std.specs.Prelude.{slice_get}
use Rattle.dom_nodes.specs.declared.node_data.TreeNode.{TreeNode}
use Rattle.dom_links.specs.Lists.{is_member, IsDistinct, first, without}
use Rattle.dom_links.specs.Forest.{Forest, children_of, forest_of, parent}
use Rattle.dom_links.specs.Sound.{IsForest, IsSoundArena}
use Rattle.dom_links.specs.Stripped.{IsStripped, all_dissolved, dissolved, is_named, stripped}
use Rattle.dom_links.specs.Trees.{descendants_in_order, ancestors, upward}
use Rattle.dom_links.specs.Walk.{IsBelow, rest_after, walk_on}
use Rattle.dom_links.proofs.walks.Apart.{walk-inside, walk-once}
use Rattle.dom_links.proofs.moves.BlockMoves.{rest_here}
use Rattle.dom_links.proofs.forest.Depth.{here_stands, later_stands, upward-none}
use Rattle.dom_links.proofs.moves.Dissolving.{forest-dissolved, walk_dissolved}
use Rattle.dom_links.proofs.walks.DownUp.{below_or_above}
use Rattle.dom_links.proofs.walks.Later.{not_above_itself}
use Rattle.dom_links.proofs.forest.Neighbours.{distinct_parts, is_member-append, is_member-without, without_here}
use Rattle.dom_links.proofs.forest.Places.{cases_Option}
use Rattle.dom_links.proofs.walks.Steps.{walk_given, walk_starts}
use Rattle.dom_links.proofs.walks.Suffixes.{is_end}
use Rattle.dom_links.proofs.moves.TwoSteps.{without_nothing}

pub content_stays : (ps : List ℕ) (forest : Forest) → (all_dissolved ps forest).content ≡ forest.content
content_stays [] forest = refl
content_stays (p ∷ ps) forest = content_stays ps (dissolved p forest)

dissolved_last : (ps : List ℕ) (p : ℕ) (forest : Forest) → all_dissolved (ps ++ p ∷ []) forest ≡ dissolved p (all_dissolved ps forest)
dissolved_last [] p forest = refl
dissolved_last (m ∷ ps) p forest = dissolved_last ps p (dissolved m forest)

pub same_names : (names : List (List ℕ)) (one other : Forest) (n : ℕ) → one.content ≡ other.content → is_named names one n ≡ is_named names other n
same_names names one other n e = ap (λ contents. option_map_or (λ name. is_among name names) (option_and_then name_in (slice_get contents n)) false) e

-- who stands below another node has a parent
pub has_parent : (forest : Forest) (x n : ℕ) → is_member x (ancestors forest n) ≡ true → (q : ℕ) × (parent forest n ≡ Some q)
has_parent forest x n s = elim (cases_Option (parent forest n)) [
  | inr some ↦ some
  | inl none ↦ (let no : ancestors forest n ≡ [] = ap (upward forest) none ∙ upward-none forest in cc)
]

-- m stands in no list before it
pub only_here : (xs ys : List ℕ) (m : ℕ) → IsDistinct (xs ++ m ∷ ys) → (is_member m xs ≡ false) × (is_member m ys ≡ false)
only_here xs ys m once =
    let parts = distinct_parts xs (m ∷ ys) once in (
      elim (cases_Bool (is_member m xs)) [
        | inr f ↦ f
        | inl t ↦ absurd (true≢false (sym (here_stands m ys) ∙ parts.2 m t))
      ],
      parts.1.0,
    )

one_rest : (xs ys other rest : List ℕ) (m : ℕ) → IsDistinct (xs ++ m ∷ ys) → xs ++ m ∷ ys ≡ other ++ m ∷ rest → ys ≡ rest
one_rest xs ys other rest m once e =
    let one = only_here xs ys m once in
    let two = only_here other rest m (subst IsDistinct e once) in
    sym (rest_here xs ys m one.0) ∙ ap (λ ns. rest_after ns m) e ∙ rest_here other rest m two.0

-- what was stripped so far, and where the walk goes on
pub record Stripping (old now : List TreeNode) (x : ℕ) (names : List (List ℕ)) (next : Option ℕ) : Type 0 where
  pub sound : IsSoundArena now
  done : List ℕ
  passed : List ℕ
  is : forest_of now ≡ all_dissolved (filter (is_named names (forest_of old)) done) (forest_of old)
  whole : descendants_in_order (forest_of old) x ≡ done ++ walk_on (forest_of now) x next
  left : descendants_in_order (forest_of now) x ≡ passed ++ walk_on (forest_of now) x next
  pub below : IsBelow (forest_of now) x next

pub strip_starts : (old : List TreeNode) (x : ℕ) (names : List (List ℕ)) (next : Option ℕ) → IsSoundArena old → next ≡ first (children_of (forest_of old) x) → Stripping old old x names next
strip_starts old x names next sound is =
    let start = walk_starts (forest_of old) x next sound.forest is in
    record { sound = sound; done = []; passed = []; is = refl; whole = sym start.all; left = sym start.all; below = start.below }

pub strip_ends : (old now : List TreeNode) (x : ℕ) (names : List (List ℕ)) (next : Option ℕ) → next ≡ None → Stripping old now x names next → forest_of now ≡ stripped names x (forest_of old)
strip_ends old now x names next none h =
    let all : descendants_in_order (forest_of old) x ≡ h.done = h.whole ∙ ap (λ o. h.done ++ walk_on (forest_of now) x o) none ∙ append-nil h.done in
    h.is ∙ ap (λ ns. all_dissolved (filter (is_named names (forest_of old)) ns) (forest_of old)) (sym all)

-- a node that isn't named is passed
pub strip_passes : (old now : List TreeNode) (x at : ℕ) (names : List (List ℕ)) (next beyond : Option ℕ) → next ≡ Some at → walk_on (forest_of now) x (Some at) ≡ at ∷ walk_on (forest_of now) x beyond → IsBelow (forest_of now) x beyond → is_named names (forest_of now) at ≡ false →
    Stripping old now x names next → Stripping old now x names beyond
strip_passes old now x at names next beyond some steps place other h =
    let rest = walk_on (forest_of now) x beyond in
    let here : walk_on (forest_of now) x next ≡ at ∷ rest = ap (walk_on (forest_of now) x) some ∙ steps in
    let unnamed : is_named names (forest_of old) at ≡ false = same_names names (forest_of old) (forest_of now) at (sym (ap (λ (forest : Forest). forest.content) h.is ∙ content_stays (filter (is_named names (forest_of old)) h.done) (forest_of old))) ∙ other in
    let none : filter (is_named names (forest_of old)) (at ∷ []) ≡ [] = rw unnamed refl in
    let same : filter (is_named names (forest_of old)) (h.done ++ at ∷ []) ≡ filter (is_named names (forest_of old)) h.done = filter-append (is_named names (forest_of old)) h.done (at ∷ []) ∙ ap (λ ns. filter (is_named names (forest_of old)) h.done ++ ns) none ∙ append-nil _ in
    record {
      sound = h.sound;
      done = h.done ++ at ∷ [];
      passed = h.passed ++ at ∷ [];
      is = h.is ∙ ap (λ ps. all_dissolved ps (forest_of old)) (sym same);
      whole = h.whole ∙ ap (λ ns. h.done ++ ns) here ∙ sym (append_assoc h.done (at ∷ []) rest);
      left = h.left ∙ ap (λ ns. h.passed ++ ns) here ∙ sym (append_assoc h.passed (at ∷ []) rest);
      below = place;
    }

-- where the walk goes on after a node was replaced by its children
record GoesOn (now new : Forest) (x : ℕ) (passed : List ℕ) (beyond : Option ℕ) : Type 0 where
  same : walk_on new x beyond ≡ walk_on now x beyond
  left : descendants_in_order new x ≡ passed ++ walk_on new x beyond
  below : IsBelow new x beyond

goes_on : (now new : Forest) (x : ℕ) (passed : List ℕ) (beyond : Option ℕ) → IsForest now → IsForest new → IsBelow now x beyond → descendants_in_order new x ≡ passed ++ walk_on now x beyond → GoesOn now new x passed beyond
goes_on now new x passed None good better place left = record { same = refl; left = left; below = tt }
goes_on now new x passed (Some m) good better place left =
    let given = walk_given now x m good place in
    let whole = left ∙ ap (λ ns. passed ++ ns) given in
    let stands : is_member m (descendants_in_order new x) ≡ true = ap (is_member m) whole ∙ is_member-append passed _ m ∙ or-true _ _ (here_stands m _) in
    let place : IsBelow new x (Some m) = (walk-inside new x m better stands, sym (below_or_above new better x m) ∙ stands) in
    let end = is_end new x m better place in
    let once = subst IsDistinct whole (walk-once new x better) in
    let given_too = walk_given new x m better place in
    let rest = one_rest passed _ end.front _ m once (sym whole ∙ end.is ∙ ap (λ ns. end.front ++ ns) given_too) in
    let same : walk_on new x (Some m) ≡ walk_on now x (Some m) = given_too ∙ ap (λ ns. m ∷ ns) (sym rest) ∙ sym given in
    record { same = same; left = left ∙ ap (λ ns. passed ++ ns) (sym same); below = place }
  where
    or-true : (a b : Bool) → b ≡ true → (a || b) ≡ true
    or-true true b h = refl
    or-true false b h = h

-- a named node is replaced by its children
pub strip_dissolves : (old now new : List TreeNode) (x at q : ℕ) (names : List (List ℕ)) (next beyond : Option ℕ) → next ≡ Some at → walk_on (forest_of now) x (Some at) ≡ at ∷ walk_on (forest_of now) x beyond → IsBelow (forest_of now) x beyond → is_named names (forest_of now) at ≡ true →
    parent (forest_of now) at ≡ Some q → forest_of new ≡ dissolved at (forest_of now) → IsSoundArena new → Stripping old now x names next → Stripping old new x names beyond × (walk_on (forest_of new) x beyond ≡ walk_on (forest_of now) x beyond)
strip_dissolves old now new x at q names next beyond some steps place named up made sound h =
    let good = h.sound.forest in
    let rest = walk_on (forest_of now) x beyond in
    let here : walk_on (forest_of now) x next ≡ at ∷ rest = ap (walk_on (forest_of now) x) some ∙ steps in
    let place_at = subst (IsBelow (forest_of now) x) some h.below in
    let apart : x ≡ at → ⊥ = λ e. not_above_itself (forest_of now) at x good place_at.1 (sym e) in
    let whole : descendants_in_order (forest_of now) x ≡ h.passed ++ at ∷ rest = h.left ∙ ap (λ ns. h.passed ++ ns) here in
    let once = only_here h.passed rest at (subst IsDistinct whole (walk-once (forest_of now) x good)) in
    let out : descendants_in_order (forest_of new) x ≡ h.passed ++ rest = ap (λ forest. descendants_in_order forest x) made ∙ walk_dissolved (forest_of now) at q good up x apart ∙ ap (without (at ∷ [])) whole ∙ without_here h.passed rest at once.0 once.1 in
    let on = goes_on (forest_of now) (forest_of new) x h.passed beyond good sound.forest place out in
    let is_one : is_named names (forest_of old) at ≡ true = same_names names (forest_of old) (forest_of now) at (sym (ap (λ (forest : Forest). forest.content) h.is ∙ content_stays (filter (is_named names (forest_of old)) h.done) (forest_of old))) ∙ named in
    let one : filter (is_named names (forest_of old)) (at ∷ []) ≡ at ∷ [] = rw is_one refl in
    let more : filter (is_named names (forest_of old)) (h.done ++ at ∷ []) ≡ filter (is_named names (forest_of old)) h.done ++ at ∷ [] = filter-append (is_named names (forest_of old)) h.done (at ∷ []) ∙ ap (λ ns. filter (is_named names (forest_of old)) h.done ++ ns) one in (
      record {
        sound = sound;
        done = h.done ++ at ∷ [];
        passed = h.passed;
        is = made ∙ ap (dissolved at) h.is ∙ sym (dissolved_last (filter (is_named names (forest_of old)) h.done) at (forest_of old)) ∙ ap (λ ps. all_dissolved ps (forest_of old)) (sym more);
        whole = h.whole ∙ ap (λ ns. h.done ++ ns) (here ∙ ap (λ ns. at ∷ ns) (sym on.same)) ∙ sym (append_assoc h.done (at ∷ []) (walk_on (forest_of new) x beyond));
        left = on.left;
        below = on.below;
      },
      on.same,
    )

-- the walk that is left gets shorter
pub strip_shorter : (now new : Forest) (x at : ℕ) (next beyond : Option ℕ) → next ≡ Some at → walk_on now x (Some at) ≡ at ∷ walk_on now x beyond → walk_on new x beyond ≡ walk_on now x beyond → length (walk_on new x beyond) < length (walk_on now x next)
strip_shorter now new x at next beyond some steps same =
    let here = ap length (ap (walk_on now x) some ∙ steps) in
    let there = ap length same in
    omega (arith, here, there)

-- all at once

without_two : (p : ℕ) (ps ns : List ℕ) → without ps (without (p ∷ []) ns) ≡ without (p ∷ ps) ns
without_two p ps [] = refl
without_two p ps (n ∷ ns) = elim (cases_Bool (p == n)) [
  | inl t ↦ rw (t, without_two p ps ns) refl
  | inr f ↦ elim (cases_Bool (is_member n ps)) [ inl s ↦ rw (f, s, without_two p ps ns) refl | inr s ↦ rw (f, s, without_two p ps ns) refl ]
]

still_stands : (p m : ℕ) (ns : List ℕ) → (p == m) ≡ false → is_member m ns ≡ true → is_member m (without (p ∷ []) ns) ≡ true
still_stands p m ns ne s = is_member-without (p ∷ []) ns m ∙ rw (s, ne) refl

pub record AllDissolved (ps : List ℕ) (x : ℕ) (forest : Forest) : Type 0 where
  pub good : IsForest (all_dissolved ps forest)
  pub left : descendants_in_order (all_dissolved ps forest) x ≡ without ps (descendants_in_order forest x)

each_dissolved : (ps : List ℕ) (x : ℕ) (forest : Forest) → IsForest forest → IsDistinct ps → ((p : ℕ) → is_member p ps ≡ true → is_member p (descendants_in_order forest x) ≡ true) → AllDissolved ps x forest
each_dissolved [] x forest good once below = record { good = good; left = sym (without_nothing (descendants_in_order forest x)) }
each_dissolved (p ∷ ps) x forest good once below =
    let above : is_member x (ancestors forest p) ≡ true = sym (below_or_above forest good x p) ∙ below p (here_stands p ps) in
    let up = has_parent forest x p above in
    let out = walk_dissolved forest p up.0 good up.1 x (λ e. not_above_itself forest p x good above (sym e)) in
    let rest = each_dissolved ps x (dissolved p forest) (forest-dissolved forest p up.0 good up.1) once.1
    (λ m s. ap (is_member m) out ∙ still_stands p m (descendants_in_order forest x) (other m s) (below m (later_stands p m ps s))) in
    record { good = rest.good; left = rest.left ∙ ap (without ps) out ∙ without_two p ps (descendants_in_order forest x) }
  where
    other : (m : ℕ) → is_member m ps ≡ true → (p == m) ≡ false
    other m s = elim (cases_Bool (p == m)) [
      | inr f ↦ f
      | inl t ↦ absurd (true≢false (sym (ap (λ k. is_member k ps) (eqb-true p m t) ∙ s) ∙ once.0))
    ]

pub is_member-filter : (test : ℕ → Bool) (ns : List ℕ) (n : ℕ) → is_member n (filter test ns) ≡ (is_member n ns && test n)
is_member-filter test [] n = refl
is_member-filter test (m ∷ ns) n = elim (cases_Bool (m == n)) [
  | inl t ↦ elim (cases_Bool (test n)) [
    | inl h ↦ (let same : test m ≡ true = ap test (eqb-true m n t) ∙ h in rw (same, t, h) refl)
    | inr f ↦ (let same : test m ≡ false = ap test (eqb-true m n t) ∙ f in rw (same, t, f) (is_member-filter test ns n ∙ rw f (and-false (is_member n ns))))
  ]
  | inr f ↦ elim (cases_Bool (test m)) [
    | inl h ↦ rw (h, f) (is_member-filter test ns n)
    | inr h ↦ rw (h, f) (is_member-filter test ns n)
  ]
]
  where
    and-false : (a : Bool) → (a && false) ≡ false
    and-false true = refl
    and-false false = refl

without_tested : (test : ℕ → Bool) (moved ns : List ℕ) → ((n : ℕ) → is_member n ns ≡ true → is_member n moved ≡ test n) → without moved ns ≡ filter (λ n. not (test n)) ns
without_tested test moved [] same = refl
without_tested test moved (n ∷ ns) same =
    let rest = without_tested test moved ns (λ m s. same m (later_stands n m ns s)) in
    let here = same n (here_stands n ns) in
    elim (cases_Bool (test n)) [
      | inl t ↦ (let in_it = here ∙ t in rw (in_it, t) rest)
      | inr f ↦ (let out = here ∙ f in rw (out, f) (ap (λ ms. n ∷ ms) rest))
    ]

distinct-filter : (test : ℕ → Bool) (ns : List ℕ) → IsDistinct ns → IsDistinct (filter test ns)
distinct-filter test [] once = tt
distinct-filter test (n ∷ ns) once = elim (cases_Bool (test n)) [
  | inr f ↦ rw f (distinct-filter test ns once.1)
  | inl t ↦ rw t (is_member-filter test ns n ∙ rw once.0 refl, distinct-filter test ns once.1)
]

none_twice : (test : ℕ → Bool) (ns : List ℕ) → filter test (filter (λ n. not (test n)) ns) ≡ []
none_twice test [] = refl
none_twice test (n ∷ ns) = elim (cases_Bool (test n)) [
  | inl t ↦ rw t (none_twice test ns)
  | inr f ↦ rw (f, f) (none_twice test ns)
]

filter_alike : (test other : ℕ → Bool) (ns : List ℕ) → ((n : ℕ) → test n ≡ other n) → filter test ns ≡ filter other ns
filter_alike test other [] same = refl
filter_alike test other (n ∷ ns) same = rw (same n, filter_alike test other ns same) refl

pub is_stripped : (names : List (List ℕ)) (x : ℕ) (forest : Forest) → IsForest forest → IsStripped names x forest
is_stripped names x forest good =
    let test = is_named names forest in
    let nodes = descendants_in_order forest x in
    let after = stripped names x forest in
    let all = each_dissolved (filter test nodes) x forest good (distinct-filter test nodes (walk-once forest x good))
    (λ p s. and-left (is_member p nodes) (test p) (sym (is_member-filter test nodes p) ∙ s)) in
    let left : descendants_in_order after x ≡ filter (λ n. not (test n)) nodes = all.left ∙ without_tested test (filter test nodes) nodes (λ n s. is_member-filter test nodes n ∙ rw s refl) in
    let none : filter (is_named names after) (descendants_in_order after x) ≡ [] =
    filter_alike (is_named names after) test (descendants_in_order after x) (λ n. same_names names after forest n (content_stays (filter test nodes) forest)) ∙ ap (filter test) left ∙ none_twice test nodes in
    record { kept = all.good; left = left; again = ap (λ ps. all_dissolved ps after) none }
  where
    and-left : (a b : Bool) → (a && b) ≡ true → a ≡ true
    and-left true b h = refl
    and-left false b h = h
