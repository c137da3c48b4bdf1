-- The steps of a walk, each over plain variables.
use Rattle.std.proofs.Common.{ℕ, zero, suc, ◌≡◌, ◌+◌, ◌*◌, ◌-◌, ◌^◌, ◌<◌, ◌≤◌, Bool, true, false, List, [], ◌∷◌, ◌++◌, Option, Some, None, is_some, refl, sym, ap, ◌∙◌, subst, arith, length, take, append_assoc, append-nil, cond}
use Rattle.std.specs.Prelude.{◌==◌, is_none}
use Rattle.std.specs.List.{flat_map}
use Rattle.std.specs.Iterator.{MakesProgress, item_count}
use Rattle.std.proofs.lemmas.Bool.{eqb-true, eq-eqb, ne_eqb}
use Rattle.std.proofs.lemmas.List.{take_all}
use Rattle.std.proofs.lemmas.List.Sums.{sum_by-cons}
use Rattle.dom_links.specs.Lists.{is_member, first, after}
use Rattle.dom_links.specs.Forest.{Forest, children_of, parent, siblings, chain}
use Rattle.dom_links.specs.Sound.{IsForest}
use Rattle.dom_links.specs.Trees.{trees, walk, descendants_in_order, in_order, limited, upward, ancestors}
use Rattle.dom_links.specs.Walk.{up_to, later, row_on, ancestors_below, walk_on, leaves_among, reads_ahead, IsCounted, IsWithin, IsBelow}
use Rattle.dom_links.proofs.forest.Depth.{trees-none, upward-none, upward-some, parent_inside, here_stands, later_stands}
use Rattle.dom_links.proofs.walks.Later.{Follows, follows, Begins, begins, tree_at, ancestors-parent, ancestors-same, not_above_itself}

up_to-other : (stop n : ℕ) (ns : List ℕ) → (n ≡ stop → ⊥) → up_to stop (n ∷ ns) ≡ n ∷ up_to stop ns
up_to-other stop n ns ne = rw (ne_eqb n stop ne) refl

up_to-stop : (stop n : ℕ) (ns : List ℕ) → n ≡ stop → up_to stop (n ∷ ns) ≡ []
up_to-stop stop n ns is = rw (eq-eqb n stop is) refl

walk_none : (forest : Forest) (ns : List ℕ) → ns ≡ [] → walk (trees forest ns) ≡ []
walk_none forest ns e = ap (λ ks. walk (trees forest ks)) e ∙ ap walk (trees-none forest)

-- the node and its later siblings are walked: the node, what is below it, and the later siblings
walk_here : (forest : Forest) (n : ℕ) → IsForest forest → n < length forest.content → walk (trees forest (n ∷ later forest false n)) ≡ n ∷ descendants_in_order forest n ++ walk (trees forest (later forest false n))
walk_here forest n good known = ap walk (tree_at forest n good known)

-- one leaf more, or none more
leaves-leaf : (forest : Forest) (n : ℕ) (ns : List ℕ) → None ≡ first (children_of forest n) → leaves_among forest (n ∷ ns) ≡ 1 + leaves_among forest ns
leaves-leaf forest n ns leaf = sum_by-cons (λ m. cond (is_none (first (children_of forest m))) 1 0) n ns ∙ ap (λ o. cond (is_none o) 1 0 + leaves_among forest ns) (sym leaf)

leaves-inner : (forest : Forest) (n k : ℕ) (ns : List ℕ) → Some k ≡ first (children_of forest n) → leaves_among forest (n ∷ ns) ≡ 0 + leaves_among forest ns
leaves-inner forest n k ns inner = sum_by-cons (λ m. cond (is_none (first (children_of forest m))) 1 0) n ns ∙ ap (λ o. cond (is_none o) 1 0 + leaves_among forest ns) (sym inner)

-- from a node on, so many looks lead to the next one
abbrev pub Costs : Forest → ℕ → ℕ → Option ℕ → ℕ → Type 0
Costs forest start n to looks = looks + reads_ahead forest start to + leaves_among forest (walk_on forest start (Some n)) ≡ reads_ahead forest start (Some n) + leaves_among forest (walk_on forest start to)

-- A walk goes on from node n to the next one with so many looks
pub record StepsTo (forest : Forest) (start n : ℕ) (to : Option ℕ) (looks : ℕ) : Type 0 where
  pub steps : walk_on forest start (Some n) ≡ n ∷ walk_on forest start to
  pub below : IsBelow forest start to
  pub cost : Costs forest start n to looks

-- into a node: its first child is next
pub enters : (forest : Forest) (start n : ℕ) (to : Option ℕ) → IsForest forest → IsBelow forest start (Some n) → to ≡ first (children_of forest n) → true ≡ is_some to → StepsTo forest start n to 1
enters forest start n None good place is some = absurd (cc)
enters forest start n (Some k) good place is some =
    let child = begins forest false n (Some k) good is in
    let up : ancestors forest k ≡ n ∷ ancestors forest n = ancestors-parent forest k n good (child.above k refl) place.0 in
    let between : ancestors_below forest start k ≡ n ∷ ancestors_below forest start n = ap (up_to start) up ∙ up_to-other start n (ancestors forest n) (not_above_itself forest n start good place.1) in
    let rest = flat_map (λ p. walk (trees forest (later forest false p))) (ancestors_below forest start n) in
    let inner : descendants_in_order forest n ≡ walk (trees forest (k ∷ later forest false k)) = ap (λ ns. walk (trees forest ns)) child.all in
    let gives : walk_on forest start (Some n) ≡ n ∷ walk_on forest start (Some k) =
    ap (λ ns. ns ++ rest) (walk_here forest n good place.0 ∙ ap (λ ns. n ∷ ns ++ walk (trees forest (later forest false n))) inner)
    ∙ ap (λ ns. n ∷ ns) (append_assoc (walk (trees forest (k ∷ later forest false k))) (walk (trees forest (later forest false n))) rest)
    ∙ ap (λ ps. n ∷ walk (trees forest (k ∷ later forest false k)) ++ flat_map (λ p. walk (trees forest (later forest false p))) ps) (sym between) in
    record {
      steps = gives;
      below = (child.within, ap (is_member start) up ∙ later_stands n start (ancestors forest n) place.1);
      cost = omega (arith, ap length gives, ap length between, ap (leaves_among forest) gives, leaves-inner forest n k (walk_on forest start (Some k)) is);
    }

no_children : (o p : Option ℕ) → o ≡ p → false ≡ is_some o → None ≡ p
no_children None p e leaf = e
no_children (Some k) p e leaf = cc

leaf_walk : (forest : Forest) (start n : ℕ) (first_child : Option ℕ) → IsForest forest → IsBelow forest start (Some n) → first_child ≡ first (children_of forest n) → false ≡ is_some first_child →
    walk_on forest start (Some n) ≡ n ∷ walk (trees forest (later forest false n)) ++ flat_map (λ p. walk (trees forest (later forest false p))) (ancestors_below forest start n)
leaf_walk forest start n (Some k) good place is leaf = absurd (cc)
leaf_walk forest start n None good place is leaf =
    ap (λ ns. ns ++ flat_map (λ p. walk (trees forest (later forest false p))) (ancestors_below forest start n))
    (walk_here forest n good place.0 ∙ ap (λ ns. n ∷ ns ++ walk (trees forest (later forest false n))) (walk_none forest (children_of forest n) (Begins.all (begins forest false n None good is))))

-- past a node without children, to the one after it
pub passes : (forest : Forest) (start n : ℕ) (first_child to : Option ℕ) → IsForest forest → IsBelow forest start (Some n) → first_child ≡ first (children_of forest n) → false ≡ is_some first_child →
    to ≡ after (siblings forest n) n → true ≡ is_some to → StepsTo forest start n to 1
passes forest start n first_child None good place is leaf next some = absurd (cc)
passes forest start n first_child (Some k) good place is leaf next some =
    let on = follows forest false n (Some k) good next in
    let up : ancestors forest k ≡ ancestors forest n = ancestors-same forest n k (on.same_parent k refl) in
    let between : ancestors_below forest start k ≡ ancestors_below forest start n = ap (up_to start) up in
    let onward = flat_map (λ p. walk (trees forest (later forest false p))) in
    let gives : walk_on forest start (Some n) ≡ n ∷ walk_on forest start (Some k) =
    leaf_walk forest start n first_child good place is leaf
    ∙ ap (λ ns. n ∷ walk (trees forest ns) ++ onward (ancestors_below forest start n)) on.rest
    ∙ ap (λ ps. n ∷ walk (trees forest (k ∷ later forest false k)) ++ onward ps) (sym between) in
    record {
      steps = gives;
      below = (on.within, ap (is_member start) up ∙ place.1);
      cost = omega (arith, ap length gives, ap length between, ap (leaves_among forest) gives, leaves-leaf forest n (walk_on forest start (Some k)) (no_children first_child _ is leaf));
    }

-- what a climb that is at a node still gives
abbrev pub climb : Forest → ℕ → Option ℕ → List ℕ
climb forest start at = flat_map (λ p. walk (trees forest (later forest false p))) (up_to start (upward forest at))

-- A climb from node n is at this node, and has used so many looks
pub record IsClimb (forest : Forest) (start n spent : ℕ) (at : Option ℕ) : Type 0 where
  pub gives : walk_on forest start (Some n) ≡ n ∷ climb forest start at
  pub met : is_member start (upward forest at) ≡ true
  pub within : IsWithin forest at
  pub leaf : None ≡ first (children_of forest n)
  pub cost : spent + length (up_to start (upward forest at)) ≡ 1 + length (ancestors_below forest start n)

parent_within : (forest : Forest) (n : ℕ) (at : Option ℕ) → IsForest forest → at ≡ parent forest n → IsWithin forest at
parent_within forest n None good is = tt
parent_within forest n (Some p) good is = parent_inside forest n p good (sym is)

pub climb_begins : (forest : Forest) (start n : ℕ) (first_child next at : Option ℕ) → IsForest forest → IsBelow forest start (Some n) → first_child ≡ first (children_of forest n) → false ≡ is_some first_child →
    next ≡ after (siblings forest n) n → false ≡ is_some next → at ≡ parent forest n → IsClimb forest start n 1 at
climb_begins forest start n first_child (Some k) at good place is leaf on last up = absurd (cc)
climb_begins forest start n first_child None at good place is leaf on last up = record {
  gives = leaf_walk forest start n first_child good place is leaf
      ∙ ap (λ ns. n ∷ ns ++ flat_map (λ p. walk (trees forest (later forest false p))) (ancestors_below forest start n)) (walk_none forest (later forest false n) (Follows.rest (follows forest false n None good on)))
      ∙ ap (λ p. n ∷ climb forest start p) (sym up);
  met = ap (λ p. is_member start (upward forest p)) up ∙ place.1;
  within = parent_within forest n at good up;
  leaf = no_children first_child _ is leaf;
  cost = omega (arith, ap (λ p. length (up_to start (upward forest p))) up);
}

pub climb_ends : (forest : Forest) (start n spent p : ℕ) (at : Option ℕ) → IsForest forest → IsClimb forest start n spent at → at ≡ Some p → true ≡ (p == start) → StepsTo forest start n None spent
climb_ends forest start n spent p None good climbing here is = absurd (cc)
climb_ends forest start n spent p (Some q) good climbing here is =
    let same : q ≡ p = cc in
    let top : up_to start (upward forest (Some q)) ≡ [] = ap (up_to start) (upward-some forest q good climbing.within) ∙ up_to-stop start q (ancestors forest q) (same ∙ eqb-true p start (sym is)) in
    let gives : walk_on forest start (Some n) ≡ n ∷ [] = climbing.gives ∙ ap (λ ps. n ∷ flat_map (λ k. walk (trees forest (later forest false k))) ps) top in
    record {
      steps = gives;
      below = tt;
      cost = omega (arith, climbing.cost, ap length top, ap length gives, ap (leaves_among forest) gives, leaves-leaf forest n [] climbing.leaf);
    }

-- a climb meets its start before it has no parent left
pub climb_inside : (forest : Forest) (start n spent : ℕ) (at : Option ℕ) → IsClimb forest start n spent at → at ≡ None → ⊥
climb_inside forest start n spent at climbing none =
    let met : is_member start [] ≡ true = ap (is_member start) (sym (ap (upward forest) none ∙ upward-none forest)) ∙ climbing.met in
    cc

-- a climb at another node than its start
record Over (forest : Forest) (start p : ℕ) : Type 0 where
  path : upward forest (Some p) ≡ p ∷ ancestors forest p
  some_more : up_to start (upward forest (Some p)) ≡ p ∷ ancestors_below forest start p
  met : is_member start (ancestors forest p) ≡ true

over : (forest : Forest) (start p : ℕ) → IsForest forest → p < length forest.content → false ≡ (p == start) → is_member start (upward forest (Some p)) ≡ true → Over forest start p
over forest start p good within other met =
    let path = upward-some forest p good within in
    let there : is_member start (p ∷ ancestors forest p) ≡ true = ap (is_member start) (sym path) ∙ met in
    record {
      path = path;
      some_more = ap (up_to start) path ∙ up_to-other start p (ancestors forest p) (λ e. (let yes = eq-eqb p start e in cc));
      met = rw (sym other) at there;
    }

-- a node with one after it ends the climb
pub finds : (forest : Forest) (start n spent p : ℕ) (at to : Option ℕ) → IsForest forest → IsClimb forest start n spent at → at ≡ Some p → false ≡ (p == start) → to ≡ after (siblings forest p) p → true ≡ is_some to →
    StepsTo forest start n to (spent + 1)
finds forest start n spent p at None good climbing here other next some = absurd (cc)
finds forest start n spent p at (Some k) good climbing' here other next some =
    let climbing = subst (IsClimb forest start n spent) here climbing' in
    let up = over forest start p good climbing.within other climbing.met in
    let on = follows forest false p (Some k) good next in
    let same : ancestors forest k ≡ ancestors forest p = ancestors-same forest p k (on.same_parent k refl) in
    let between : ancestors_below forest start k ≡ ancestors_below forest start p = ap (up_to start) same in
    let onward = flat_map (λ q. walk (trees forest (later forest false q))) in
    let gives : walk_on forest start (Some n) ≡ n ∷ walk_on forest start (Some k) =
    climbing.gives ∙ ap (λ ps. n ∷ onward ps) up.some_more
    ∙ ap (λ ns. n ∷ walk (trees forest ns) ++ onward (ancestors_below forest start p)) on.rest
    ∙ ap (λ ps. n ∷ walk (trees forest (k ∷ later forest false k)) ++ onward ps) (sym between) in
    record {
      steps = gives;
      below = (on.within, ap (is_member start) same ∙ up.met);
      cost = omega (arith, climbing.cost, ap length gives, ap length up.some_more, ap length between, ap (leaves_among forest) gives, leaves-leaf forest n (walk_on forest start (Some k)) climbing.leaf);
    }

pub goes_up : (forest : Forest) (start n spent p : ℕ) (at next to : Option ℕ) → IsForest forest → IsClimb forest start n spent at → at ≡ Some p → false ≡ (p == start) → next ≡ after (siblings forest p) p → false ≡ is_some next → to ≡ parent forest p →
    IsClimb forest start n (spent + 1) to × (length (upward forest to) < length (upward forest at))
goes_up forest start n spent p at (Some k) to good climbing here other on last up = absurd (cc)
goes_up forest start n spent p at None to good climbing' here other on last up =
    let climbing = subst (IsClimb forest start n spent) here climbing' in
    let above = over forest start p good climbing.within other climbing.met in
    let onward = flat_map (λ q. walk (trees forest (later forest false q))) in (
      record {
        gives = climbing.gives ∙ ap (λ ps. n ∷ onward ps) above.some_more
            ∙ ap (λ ns. n ∷ ns ++ onward (ancestors_below forest start p)) (walk_none forest (later forest false p) (Follows.rest (follows forest false p None good on)))
            ∙ ap (λ q. n ∷ climb forest start q) (sym up);
        met = ap (λ q. is_member start (upward forest q)) up ∙ above.met;
        within = parent_within forest p to good up;
        leaf = climbing.leaf;
        cost = omega (arith, climbing.cost, ap length above.some_more, ap (λ q. length (up_to start (upward forest q))) up);
      },
      omega (arith, ap length above.path, ap (λ q. length (upward forest q)) up, ap (λ q. length (upward forest q)) here),
    )

-- A walk that begins has all before it
pub record Starts (forest : Forest) (start : ℕ) (at : Option ℕ) : Type 0 where
  pub all : walk_on forest start at ≡ descendants_in_order forest start
  pub below : IsBelow forest start at
  pub count : IsCounted forest start at 1

-- a walk begins at the first child
pub walk_starts : (forest : Forest) (start : ℕ) (at : Option ℕ) → IsForest forest → at ≡ first (children_of forest start) → Starts forest start at
walk_starts forest start None good is =
    let none : descendants_in_order forest start ≡ [] = walk_none forest (children_of forest start) (Begins.all (begins forest false start None good is)) in
    record {
      all = sym none;
      below = tt;
      count = record { counted = omega (arith, ap length none, ap (leaves_among forest) none); fewer = omega arith };
    }
walk_starts forest start (Some k) good is =
    let child = begins forest false start (Some k) good is in
    let up : ancestors forest k ≡ start ∷ ancestors forest start = ancestors-parent forest k start good (child.above k refl) (parent_inside forest k start good (child.above k refl)) in
    let between : ancestors_below forest start k ≡ [] = ap (up_to start) up ∙ up_to-stop start start (ancestors forest start) refl in
    let all : walk_on forest start (Some k) ≡ descendants_in_order forest start =
    ap (λ ps. walk (trees forest (k ∷ later forest false k)) ++ flat_map (λ p. walk (trees forest (later forest false p))) ps) between
    ∙ append-nil (walk (trees forest (k ∷ later forest false k))) ∙ ap (λ ns. walk (trees forest ns)) (sym child.all) in
    record {
      all = all;
      below = (child.within, ap (is_member start) up ∙ here_stands start (ancestors forest start));
      count = record {
        counted = omega (arith, ap length all, ap length between, ap (leaves_among forest) all);
        fewer = omega (arith, ap (leaves_among forest) all);
      };
    }

-- a walk that has a next node gives it
pub walk_given : (forest : Forest) (start n : ℕ) → IsForest forest → IsBelow forest start (Some n) →
    walk_on forest start (Some n) ≡ n ∷ (descendants_in_order forest n ++ walk (trees forest (later forest false n))) ++ flat_map (λ p. walk (trees forest (later forest false p))) (ancestors_below forest start n)
walk_given forest start n good place = ap (λ ns. ns ++ flat_map (λ p. walk (trees forest (later forest false p))) (ancestors_below forest start n)) (walk_here forest n good place.0)

walk_over : (forest : Forest) (start : ℕ) (at : Option ℕ) → IsForest forest → IsBelow forest start at → walk_on forest start at ≡ [] → reads_ahead forest start at ≡ 0
walk_over forest start None good place none = refl
walk_over forest start (Some n) good place none = (let given = walk_given forest start n good place in cc)

-- what a walk with nothing left has looked at
pub walk_cost : (forest : Forest) (start : ℕ) (at : Option ℕ) (reads : ℕ) → IsForest forest → IsBelow forest start at → IsCounted forest start at reads → walk_on forest start at ≡ [] →
    reads + leaves_among forest (descendants_in_order forest start) ≡ 2 * length (descendants_in_order forest start) + 1
walk_cost forest start at reads good place count none = omega (arith, count.counted, walk_over forest start at good place none, ap (leaves_among forest) none)

-- the looks of a walk can be counted
pub looks_fit : (forest : Forest) (start n : ℕ) (at : Option ℕ) (reads : ℕ) → IsCounted forest start at reads → at ≡ Some n → length (descendants_in_order forest start) ≤ 4294967295 → reads + reads_ahead forest start (Some n) < 2 ^ 64
looks_fit forest start n at reads count is few =
    let here = subst (λ o. IsCounted forest start o reads) is count in
    omega (arith, here.counted, here.fewer)

-- the next ancestor is given
pub ancestors_step : (forest : Forest) (from to : Option ℕ) (n most : ℕ) → IsForest forest → IsWithin forest from → from ≡ Some n → to ≡ parent forest n → 0 < most →
    take most (upward forest from) ≡ n ∷ take (most - 1) (upward forest to)
ancestors_step forest None to n most good within is up some = absurd (cc)
ancestors_step forest (Some k) to n zero good within is up some = absurd (omega arith)
ancestors_step forest (Some k) to n (suc most) good within is up some =
    let same : k ≡ n = cc in
    let less : suc most - 1 ≡ most = omega arith in
    ap (take (suc most)) (upward-some forest k good within) ∙ rw (same, less, up) refl

-- the front of a list of numbers was taken
pub goes_on : {S : Type 0} (rest : S → List ℕ) (s t : S) (n : ℕ) → rest s ≡ n ∷ rest t → MakesProgress (λ _. Unit {0}) (item_count rest) s (Some n) t
goes_on rest s t n e = record {
  on = λ _. (tt, tt, subst (λ l. length (rest t) < length l) (sym e) (omega arith));
  keeps = tt;
  rests = λ _. tt;
}

-- the next child is given
pub children_step : (forest : Forest) (rev : Bool) (from to : Option ℕ) (n : ℕ) → IsForest forest → from ≡ Some n → to ≡ after (in_order rev (siblings forest n)) n →
    (row_on forest rev from ≡ n ∷ row_on forest rev to) × IsWithin forest to
children_step forest rev from to n good is next =
    let on = follows forest rev n to good next in
    (ap (row_on forest rev) is ∙ ap (λ ns. n ∷ ns) on.rest, on.within)

-- there are no more ancestors than nodes
pub upward_short : (forest : Forest) (from : Option ℕ) → length (upward forest from) ≤ length forest.content
unfolding upward
upward_short forest from = few (length forest.content) from
  where
    few : (most : ℕ) (from : Option ℕ) → length (chain (parent forest) most from) ≤ most
    few zero from = omega arith
    few (suc most) None = omega arith
    few (suc most) (Some n) = omega (arith, few most (parent forest n))

pub take_none : (most : ℕ) (ns : List ℕ) → ns ≡ [] → take most ns ≡ []
take_none zero ns e = refl
take_none (suc most) [] e = refl
take_none (suc most) (n ∷ ns) e = cc

-- a limit on a list of numbers

pub limit_some : (most : Option ℕ) (depth n : ℕ) (ns : List ℕ) → most ≡ Some depth → 0 < depth → n ≡ depth → take n ns ≡ limited most ns
limit_some None depth n ns is some same = cc
limit_some (Some zero) depth n ns is some same = (let none : 0 ≡ depth = cc in absurd (omega arith))
limit_some (Some (suc most)) depth n ns is some same = (let all : n ≡ suc most = cc in rw all refl)

pub limit_none : (most : Option ℕ) (n : ℕ) (ns : List ℕ) → ((depth : ℕ) → most ≡ Some depth → depth ≡ 0) → length ns ≤ n → take n ns ≡ limited most ns
limit_none None n ns none h = take_all n ns h
limit_none (Some zero) n ns none h = take_all n ns h
limit_none (Some (suc most)) n ns none h = (let no = none (suc most) refl in absurd (omega arith))
