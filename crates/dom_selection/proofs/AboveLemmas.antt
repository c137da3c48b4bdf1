-- Climbs that end where a node was met before.
use Rattle.std.proofs.Common.{ℕ, ◌≡◌, ◌||◌, ◌&&◌, ◌==◌, true, false, Bool, List, [], ◌∷◌, ◌++◌, Option, Some, None, inl, inr, ◌⊎◌, refl, ap, sym, ◌∙◌, cond, subst, append-nil, append_assoc, filter}
use Rattle.std.proofs.lemmas.Bool.{cases_Bool, eq-eqb, eqb-true, or_cases, true≢false}
use Rattle.std.proofs.lemmas.List.Elements.{filter-append}
use Rattle.dom_links.specs.Forest.{Forest, parent}
use Rattle.dom_links.specs.ListMoves.{element_at}
use Rattle.dom_links.specs.Lists.{is_member}
use Rattle.dom_links.specs.Sound.{IsForest}
use Rattle.dom_links.specs.Trees.{ancestors, upward}
use Rattle.dom_links.proofs.forest.Depth.{parent_inside, upward-none}
use Rattle.dom_links.proofs.walks.Later.{ancestors-parent, not_above_itself}
use Rattle.dom_links.proofs.forest.Neighbours.{split_at, is_member-append}
use Rattle.dom_links.proofs.moves.Stripping.{is_member-filter}
use Rattle.dom_trees.specs.declared.node_ref.NodeRef.{NodeRef}
use Rattle.dom_selection.specs.Gathering.{HasGathered, IsClosed, IsClosedFor, Gathers}
use Rattle.dom_selection.specs.Seen.{with_unseen}
use Rattle.dom_selection.specs.Selections.{elements_above, gathered}
use Rattle.dom_selection.specs.Steps.{related_by}
use Rattle.dom_selection.specs.declared.selection.gathering.Gathered.{Gathered}
use Rattle.dom_selection.specs.declared.selection.gathering.Relation.{Relation}
use Rattle.dom_selection.specs.declared.selection.gathering.Relation.TheVariants.{Parent, Children, Ancestors, Above, Next, Prev}
use Rattle.dom_selection.proofs.GatherLemmas.{GoesOn, with_unseen-append, gathers_nothing, gathers_then, stands-append}
use Rattle.dom_selection.proofs.SeenLemmas.{or_moves}

-- ---- what stands among those met

or_end : (b : Bool) → (b || false) ≡ b
or_end true = refl
or_end false = refl

or_left : (a b : Bool) → a ≡ true → (a || b) ≡ true
or_left a b e = ap (λ x. x || b) e

or_right : (a b : Bool) → b ≡ true → (a || b) ≡ true
or_right true b e = refl
or_right false b e = e

or_last : (a b : Bool) → (a || b) ≡ true → b ≡ false → a ≡ true
or_last true b e f = refl
or_last false b e f = sym f ∙ e

and_first : (a b : Bool) → (a && b) ≡ true → a ≡ true
and_first true b e = refl
and_first false b e = e

again : (n m : ℕ) (met rest : List ℕ) → is_member n met ≡ true → (is_member m met || is_member m rest) ≡ (is_member m met || ((n == m) || is_member m rest))
again n m met rest seen = elim (cases_Bool (n == m)) [
  | inl t ↦ (let here : is_member m met ≡ true = subst (λ (k : ℕ). is_member k met ≡ true) (eqb-true n m t) seen in rw here refl)
  | inr f ↦ rw f refl
]

stands-with_unseen : (m : ℕ) (met ns : List ℕ) → is_member m (with_unseen met ns) ≡ (is_member m met || is_member m ns)
stands-with_unseen m met [] = sym (or_end (is_member m met))
stands-with_unseen m met (n ∷ ns) = elim (cases_Bool (is_member n met)) [
  | inl t ↦ ap (λ b. is_member m (with_unseen (cond b met (met ++ n ∷ [])) ns)) t ∙ stands-with_unseen m met ns ∙ again n m met ns t
  | inr f ↦ ap (λ b. is_member m (with_unseen (cond b met (met ++ n ∷ [])) ns)) f ∙ stands-with_unseen m (met ++ n ∷ []) ns
      ∙ ap (λ b. b || is_member m ns) (stands-append m n met) ∙ or_moves (n == m) (is_member m met) (is_member m ns)
]

-- where all stand there already, nothing is new
all_met_before : (met ns : List ℕ) → ((m : ℕ) → is_member m ns ≡ true → is_member m met ≡ true) → with_unseen met ns ≡ met
all_met_before met [] all = refl
all_met_before met (n ∷ ns) all =
    let here : is_member n met ≡ true = all n (or_left (n == n) (is_member n ns) (eq-eqb n n refl)) in
    ap (λ b. with_unseen (cond b met (met ++ n ∷ [])) ns) here ∙ all_met_before met ns (λ m s. all m (or_right (n == m) (is_member m ns) s))

-- ---- the nodes above a node

above_first : (forest : Forest) (n p : ℕ) (more : List ℕ) (o : Option ℕ) → IsForest forest → parent forest n ≡ o → ancestors forest n ≡ p ∷ more → more ≡ ancestors forest p
above_first forest n p more None good up e = cc (sym e ∙ ap (upward forest) up ∙ upward-none forest)
above_first forest n p more (Some q) good up e =
    let all = sym e ∙ ancestors-parent forest n q good up (parent_inside forest n q good up) in cc

-- what stands behind one of them is above that one, which stands there once
above-split : (forest : Forest) (n : ℕ) (xs : List ℕ) (a : ℕ) (rest : List ℕ) → IsForest forest → ancestors forest n ≡ xs ++ a ∷ rest → (rest ≡ ancestors forest a) × (is_member a xs ≡ false)
above-split forest n [] a rest good e = (above_first forest n a rest (parent forest n) good refl e, refl)
above-split forest n (x ∷ xs) a rest good e =
    let up = above_first forest n x (xs ++ a ∷ rest) (parent forest n) good refl e in
    let on = above-split forest x xs a rest good (sym up) in
    let there : is_member a (ancestors forest x) ≡ true = ap (is_member a) (sym up) ∙ is_member-append xs (a ∷ rest) a ∙ or_right (is_member a xs) (is_member a (a ∷ rest)) (or_left (a == a) (is_member a rest) (eq-eqb a a refl)) in
    elim (cases_Bool (x == a)) [
      | inl t ↦ absurd (not_above_itself forest x a good there (eqb-true x a t))
      | inr f ↦ (on.0, ap (λ b. b || is_member a xs) f ∙ on.1)
    ]

-- what is above one of them is among them
above_trans : (forest : Forest) (n k m : ℕ) → IsForest forest → is_member k (elements_above None forest n) ≡ true → is_member m (elements_above None forest k) ≡ true → is_member m (elements_above None forest n) ≡ true
above_trans forest n k m good s t =
    let there : is_member k (ancestors forest n) ≡ true = and_first (is_member k (ancestors forest n)) (element_at forest k) (sym (is_member-filter (element_at forest) (ancestors forest n) k) ∙ s) in
    let (xs, rest, is, new) = split_at k (ancestors forest n) there in
    let up = (above-split forest n xs k rest good is).0 in
    let E = element_at forest in
    ap (λ ns. is_member m (filter E ns)) (is ∙ ap (λ ns. xs ++ k ∷ ns) up) ∙ ap (is_member m) (filter-append E xs (k ∷ ancestors forest k)) ∙ is_member-append (filter E xs) (filter E (k ∷ ancestors forest k)) m
    ∙ or_right (is_member m (filter E xs)) (is_member m (filter E (k ∷ ancestors forest k))) (behind E k (ancestors forest k) m t)
  where
    behind : (E : ℕ → Bool) (k : ℕ) (ns : List ℕ) (m : ℕ) → is_member m (filter E ns) ≡ true → is_member m (filter E (k ∷ ns)) ≡ true
    behind E k ns m t = elim (cases_Bool (E k)) [
      | inl e ↦ rw e (or_right (k == m) (is_member m (filter E ns)) t)
      | inr f ↦ rw f t
    ]

-- ---- a gather_all_ancestors

-- some of the nodes above n were met, and these are left
abbrev pub ClimbsOn : Gathered → Gathered → ℕ → List ℕ → Type 0
ClimbsOn start now n left = (xs : List ℕ) × Gathers start now (filter (element_at start.tree.now) xs) × (ancestors start.tree.now n ≡ xs ++ left)

in_tail : (E : ℕ → Bool) (a : ℕ) (rest : List ℕ) (m : ℕ) → is_member m (filter E (a ∷ rest)) ≡ true → (a ≡ m) ⊎ (is_member m (filter E rest) ≡ true)
in_tail E a rest m s = elim (cases_Bool (E a)) [
  | inl e ↦ (let here : ((a == m) || is_member m (filter E rest)) ≡ true = rw e at s in elim (or_cases (a == m) (is_member m (filter E rest)) here) [
    | inl t ↦ inl (eqb-true a m t)
    | inr t ↦ inr t
  ])
  | inr f ↦ inr (rw f at s)
]

-- it ends at one that was met
pub ends_early : (start now : Gathered) (n a : ℕ) (rest : List ℕ) → IsForest start.tree.now → IsClosed start.tree.now start.seen → is_member a now.seen ≡ true → ClimbsOn start now n (a ∷ rest)
    → Gathers start now (elements_above None start.tree.now n)
ends_early start now n a rest good closed seen (xs, gathers, is) =
    let forest = start.tree.now in
    let E = element_at forest in
    let (up, new) = above-split forest n xs a rest good is in
    record {
      tree = gathers.tree;
      met = λ before has.
          let then : HasGathered now (with_unseen before (filter E xs)) = gathers.met before has in
          let met = with_unseen before (filter E xs) in
          let here : is_member a met ≡ true = sym (then.seen a) ∙ seen in
          let unmet : is_member a (filter E xs) ≡ false = is_member-filter E xs a ∙ ap (λ b. b && E a) new in
          let old : is_member a before ≡ true = or_last (is_member a before) (is_member a (filter E xs)) (sym (stands-with_unseen a before (filter E xs)) ∙ here) unmet in
          let all : (m : ℕ) → is_member m (filter E (a ∷ rest)) ≡ true → is_member m met ≡ true = λ m s. elim (in_tail E a rest m s) [
            | inl same ↦ subst (λ (k : ℕ). is_member k met ≡ true) same here
            | inr t ↦ stands-with_unseen m before (filter E xs)
                ∙ or_left (is_member m before) (is_member m (filter E xs)) (sym (has.seen m) ∙ closed a m (has.seen a ∙ old) (ap (λ ns. is_member m (filter E ns)) (sym up) ∙ t))
          ] in
          let split : filter E (ancestors forest n) ≡ filter E xs ++ filter E (a ∷ rest) = ap (filter E) is ∙ filter-append E xs (a ∷ rest) in
          subst (HasGathered now) (sym (ap (with_unseen before) split ∙ with_unseen-append before (filter E xs) (filter E (a ∷ rest)) ∙ all_met_before met (filter E (a ∷ rest)) all)) then;
    }

pub climb_starts : (start : Gathered) (n : ℕ) → ClimbsOn start start n (ancestors start.tree.now n)
climb_starts start n = ([], gathers_nothing start, refl)

-- one more is asked whether it is an element
pub climbs_one : (start now next : Gathered) (n a : ℕ) (it rest : List ℕ) → ClimbsOn start now n it → it ≡ a ∷ rest → Gathers now next (filter (element_at now.tree.now) (a ∷ [])) → ClimbsOn start next n rest
climbs_one start now next n a it rest (xs, gathers, is) split m =
    let E = element_at start.tree.now in
    let more : Gathers now next (filter E (a ∷ [])) = subst (λ tree. Gathers now next (filter (element_at tree.now) (a ∷ []))) gathers.tree m in (
      xs ++ a ∷ [],
      subst (Gathers start next) (sym (filter-append E xs (a ∷ []))) (gathers_then start now next (filter E xs) (filter E (a ∷ [])) gathers more),
      is ∙ ap (λ ns. xs ++ ns) split ∙ sym (append_assoc xs (a ∷ []) rest),
    )

pub climbs_end : (start now : Gathered) (n : ℕ) → ClimbsOn start now n [] → Gathers start now (elements_above None start.tree.now n)
climbs_end start now n (xs, gathers, is) = subst (λ ns. Gathers start now (filter (element_at start.tree.now) ns)) (sym (is ∙ append-nil xs)) gathers

-- ---- a step from each node

pub closed_start : (step : Relation) (g : Gathered) → HasGathered g [] → IsClosedFor step g
closed_start Above g has = λ n m seen above. absurd (true≢false (sym seen ∙ has.seen n))
closed_start Parent g has = tt
closed_start Children g has = tt
closed_start (Ancestors most) g has = tt
closed_start Next g has = tt
closed_start Prev g has = tt

closed_above : (old new : Gathered) (n : ℕ) (before : List ℕ) → IsForest old.tree.now → HasGathered old before → IsClosed old.tree.now old.seen → Gathers old new (elements_above None old.tree.now n) → IsClosed old.tree.now new.seen
closed_above old new n before good has closed gathers k m seen above =
    let forest = old.tree.now in
    let found = elements_above None forest n in
    let then : HasGathered new (with_unseen before found) = gathers.met before has in
    let where_k : (is_member k before || is_member k found) ≡ true = sym (stands-with_unseen k before found) ∙ sym (then.seen k) ∙ seen in
    then.seen m ∙ stands-with_unseen m before found ∙ elim (or_cases (is_member k before) (is_member k found) where_k) [
      | inl t ↦ or_left (is_member m before) (is_member m found) (sym (has.seen m) ∙ closed k m (has.seen k ∙ t) above)
      | inr t ↦ or_right (is_member m before) (is_member m found) (above_trans forest n k m good t above)
    ]

-- what is closed stays so
pub closed_on : (step : Relation) (start old new : Gathered) (all left : List ℕ) (n : ℕ) → IsForest old.tree.now → HasGathered start [] → GoesOn start old all left → IsClosedFor step old → Gathers old new (related_by step old.tree.now n) → IsClosedFor step new
closed_on Above start old new all left n good none (xs, met, is) closed gathers =
    subst (λ tree. IsClosed tree.now new.seen) (sym gathers.tree) (closed_above old new n (with_unseen [] xs) good (met.met [] none) closed gathers)
closed_on Parent start old new all left n good none on closed gathers = tt
closed_on Children start old new all left n good none on closed gathers = tt
closed_on (Ancestors most) start old new all left n good none on closed gathers = tt
closed_on Next start old new all left n good none on closed gathers = tt
closed_on Prev start old new all left n good none on closed gathers = tt

-- no depth, or 0, is no limit
pub no_limit : (nodes : List NodeRef) → gathered (elements_above (Some 0)) nodes ≡ gathered (elements_above None) nodes
no_limit [] = refl
no_limit (node ∷ nodes) = refl
