-- Going along a list from a node, and up from a node to the list.
use Rattle.std.proofs.Common.{ℕ, ◌≡◌, ◌<◌, ◌≤◌, ◌+◌, Bool, true, false, List, [], ◌∷◌, Option, Some, None, reverse, refl, sym, ap, ◌∙◌, arith, inl, inr, ◌⊎◌, length, get_or}
use Rattle.std.specs.Prelude.{◌==◌, ◌||◌, MatchBool, not, slice_get}
use Rattle.std.specs.Option.{option_map_or}
use Rattle.std.proofs.lemmas.Bool.{cases_Bool, eqb-true, eq-eqb, ne_eqb, true≢false}
use Rattle.dom_nodes.specs.declared.node_data.TreeNode.{TreeNode}
use Rattle.dom_nodes.specs.Kinds.{is_top}
use Rattle.dom_links.specs.Lists.{is_member, first, last, after, names}
use Rattle.dom_links.specs.Forest.{Forest, StandsOnce, IsArenaOf, parent, siblings}
use Rattle.dom_links.specs.Sound.{IsParentOrHost, IsHostAncestor, one_step, then_step, AtOrBelow, IsForest, MayPlace, contents_at, stays}
use Rattle.dom_links.specs.Trees.{in_order}
use Rattle.dom_links.specs.Walk.{later, rest_after}
use Rattle.dom_links.specs.ListMoves.{BlockedRun, EachOf, with_later}
use Rattle.dom_links.proofs.forest.Neighbours.{after-stands, last_names, last-reverse, names-true}
use Rattle.dom_links.proofs.forest.Places.{siblings_once, siblings_run, Beside, beside}
use Rattle.dom_links.proofs.moves.Attach.{read_prev, read_next}
use Rattle.dom_links.proofs.moves.Cuts.{length-contents, one-stands}
use Rattle.dom_links.proofs.moves.Acyclicity.{further}
use Rattle.dom_links.proofs.forest.Climbs.{Climb, climb_more, climb_ends, fragment_is_top, free_at_top, met_it}
use Rattle.dom_links.proofs.forest.Depth.{here_stands}
use Rattle.dom_links.proofs.walks.Later.{rest_next, rest_none, ordered_once, ordered_stands}
use Rattle.dom_links.proofs.moves.BlockCuts.{TailFacts, tail_facts}
use Rattle.dom_links.proofs.moves.BlockMoves.{tailed}

pub beside_itself : (forest : Forest) (x : ℕ) → x < length forest.content → Beside forest x x
beside_itself forest x h = record { known = h; same_parent = refl; same_siblings = refl }

-- the next node along the list
pub record Along (forest : Forest) (rev : Bool) (x at next : ℕ) : Type 0 where
  pub there : Beside forest x next
  pub rest : later forest rev at ≡ next ∷ later forest rev next
  pub fewer : length (later forest rev next) < length (later forest rev at)

pub along : (forest : Forest) (rev : Bool) (x at next : ℕ) (link : Option ℕ) → StandsOnce forest → Beside forest x at → link ≡ after (in_order rev (siblings forest at)) at → link ≡ Some next → Along forest rev x at next
along forest rev x at next link once here is some =
    let row = in_order rev (siblings forest at) in
    let found : after row at ≡ Some next = sym is ∙ some in
    let stands : is_member next (siblings forest at) ≡ true = sym (ordered_stands rev (siblings forest at) next) ∙ after-stands row at next found in
    let both = beside forest at next once stands in
    let rest : later forest rev at ≡ next ∷ later forest rev next =
    rest_next row at next (ordered_once rev (siblings forest at) (siblings_once forest at once)) found ∙ ap (λ ns. next ∷ rest_after (in_order rev ns) next) (sym (Beside.same_siblings both)) in
    record {
      there = record { known = Beside.known both; same_parent = Beside.same_parent both ∙ here.same_parent; same_siblings = Beside.same_siblings both ∙ here.same_siblings };
      rest = rest;
      fewer = omega (arith, ap length rest);
    }

-- a node with none after it is the last
at_end : (forest : Forest) (rev : Bool) (x at : ℕ) (link : Option ℕ) → StandsOnce forest → Beside forest x at → link ≡ after (in_order rev (siblings forest at)) at → link ≡ None → last (in_order rev (siblings forest x)) ≡ Some at
at_end forest rev x at link once here is none =
    let row = in_order rev (siblings forest at) in
    let stands : is_member at row ≡ true = ordered_stands rev (siblings forest at) at ∙ once.placed at here.known in
    let named : names (last row) at ≡ true = last_names row at (ordered_once rev (siblings forest at) (siblings_once forest at once)) ∙ rw (stands, sym is ∙ none) refl in
    ap (λ ns. last (in_order rev ns)) (sym here.same_siblings) ∙ names-true (last row) at named

pub is_first : (forest : Forest) (x at : ℕ) (link : Option ℕ) → StandsOnce forest → Beside forest x at → link ≡ after (reverse (siblings forest at)) at → link ≡ None → first (siblings forest x) ≡ Some at
is_first forest x at link once here is none = sym (last-reverse (siblings forest x)) ∙ at_end forest true x at link once here is none

-- n was not met yet on the way along the list from x
pub record Seeking (forest : Forest) (x n at : ℕ) : Type 0 where
  pub here : Beside forest x at
  pub same : is_member n (with_later forest x) ≡ is_member n (with_later forest at)

pub seeks_on : (forest : Forest) (x n at next : ℕ) (link : Option ℕ) → StandsOnce forest → Seeking forest x n at → (at ≡ n → ⊥) → link ≡ after (siblings forest at) at → link ≡ Some next → Seeking forest x n next
seeks_on forest x n at next link once seeking other is some =
    let on = along forest false x at next link once seeking.here is some in
    record {
      here = on.there;
      same = seeking.same ∙ rw (ne_eqb at n other) (ap (is_member n) on.rest);
    }

pub sought_in_vain : (forest : Forest) (x n at : ℕ) (link : Option ℕ) → Seeking forest x n at → (at ≡ n → ⊥) → link ≡ after (siblings forest at) at → link ≡ None → is_member n (with_later forest x) ≡ false
sought_in_vain forest x n at link seeking other is none =
    seeking.same ∙ rw (ne_eqb at n other) (ap (is_member n) (rest_none (siblings forest at) at (sym is ∙ none)))

pub sought_it : (forest : Forest) (x n at : ℕ) → Seeking forest x n at → at ≡ n → is_member n (with_later forest x) ≡ true
sought_it forest x n at seeking is = seeking.same ∙ rw (eq-eqb at n is) refl

-- a climb from t has met none of x and its later siblings
pub record ClimbsPast (forest : Forest) (t x at steps : ℕ) : Type 0 where
  pub each : EachOf (with_later forest x) (λ m. Climb forest t m at steps)

pub climb_known : (forest : Forest) (t x at steps : ℕ) → ClimbsPast forest t x at steps → at < length forest.content
climb_known forest t x at steps climb = Climb.known (climb.each x (here_stands x (later forest false x)))

later_beside : (forest : Forest) (x m : ℕ) → StandsOnce forest → x < length forest.content → is_member m (with_later forest x) ≡ true → Beside forest x m
later_beside forest x m once h s =
    let it = tailed forest x once h in
    TailFacts.inside (tail_facts forest x it.front (with_later forest x) once it.tail) m s

-- none of the list stays where it is, if x doesn't
later_move : (forest : Forest) (x m : ℕ) → IsForest forest → x < length forest.content → stays forest x ≡ false → is_member m (with_later forest x) ≡ true → stays forest m ≡ false
later_move forest x m good h moves s = elim (cases_Bool (stays forest m)) [
  | inr f ↦ f
  | inl t ↦ (let there = later_beside forest x m good.once h s in
      let lone = good.alone m there.known t in
      let only : siblings forest x ≡ m ∷ [] = sym there.same_siblings ∙ siblings_run forest m lone.0 ∙ lone.1 in
      let is : m ≡ x = eqb-true m x (sym (one-stands m x) ∙ ap (is_member x) (sym only) ∙ good.once.placed x h) in
      absurd (true≢false (sym t ∙ ap (stays forest) is ∙ moves)))
]

-- a node that stays where it is, or has another parent, is none of the list
pub passes_by : (forest : Forest) (x at : ℕ) → IsForest forest → x < length forest.content → stays forest x ≡ false → (stays forest at ≡ true) ⊎ (parent forest at ≡ parent forest x → ⊥) → EachOf (with_later forest x) (λ m. at ≡ m → ⊥)
passes_by forest x at good h moves (inl t) m s e = true≢false (sym t ∙ ap (stays forest) e ∙ later_move forest x m good h moves s)
passes_by forest x at good h moves (inr other) m s e = other (ap (parent forest) e ∙ Beside.same_parent (later_beside forest x m good.once h s))

pub climbs_on : (forest : Forest) (nodes : List TreeNode) (t x at above steps : ℕ) → IsArenaOf forest nodes → IsForest forest → ClimbsPast forest t x at steps → EachOf (with_later forest x) (λ m. at ≡ m → ⊥) → IsParentOrHost forest above at → ClimbsPast forest t x above (steps + 1)
climbs_on forest nodes t x at above steps arena good climb other up = record { each = λ m s. climb_more forest nodes t m at above steps arena good (climb.each m s) (other m s) up }

pub climbs_past_ends : (forest : Forest) (t x at steps : ℕ) → IsForest forest → ClimbsPast forest t x at steps → length forest.content ≤ steps → ⊥
climbs_past_ends forest t x at steps good climb h = climb_ends forest t x at steps good (climb.each x (here_stands x (later forest false x))) h

-- none of them reaches t
none_reach : (forest : Forest) (t x : ℕ) → IsForest forest → x < length forest.content → stays forest x ≡ false → EachOf (with_later forest x) (λ m. AtOrBelow forest m t → ⊥) → EachOf (with_later forest x) (MayPlace forest t)
none_reach forest t x good h moves apart m s = record {
  moves = later_move forest x m good h moves s;
  apart = λ e. apart m s (inl e);
  free = λ way. apart m s (inr way);
}

pub past_the_top : (forest : Forest) (t x at steps : ℕ) → IsForest forest → x < length forest.content → stays forest x ≡ false → ClimbsPast forest t x at steps → EachOf (with_later forest x) (λ m. at ≡ m → ⊥) → ((m : ℕ) → IsParentOrHost forest m at → ⊥) →
    EachOf (with_later forest x) (MayPlace forest t)
past_the_top forest t x at steps good h moves climb other none =
    none_reach forest t x good h moves (λ m s. free_at_top forest t m at steps (climb.each m s) (other m s) none)

-- a held fragment stays where it is
held_stays : (forest : Forest) (n c : ℕ) → IsForest forest → contents_at forest n ≡ Some c → stays forest c ≡ true
held_stays forest n c good holds =
    let top = fragment_is_top (slice_get forest.content c) (good.contents_known n c holds).1 in
    elim (c == 0) as (λ t. (t || option_map_or is_top (slice_get forest.content c) false) ≡ true) [ true ↦ refl | false ↦ top ]

by_step : (forest : Forest) (m k n : ℕ) → IsForest forest → AtOrBelow forest m k → IsParentOrHost forest k n → parent forest n ≡ parent forest m → stays forest n ≡ false → ⊥
by_step forest m k n good way (inl p) same moves = good.acyclic m (further forest m k m way (inl (sym same ∙ p)))
by_step forest m k n good way (inr c) same moves = true≢false (sym (held_stays forest k n good c) ∙ moves)

-- nothing reaches a node with the same parent, unless it is a held fragment
pub not_beside_below : (forest : Forest) (m n : ℕ) → IsForest forest → stays forest n ≡ false → parent forest n ≡ parent forest m → IsHostAncestor forest m n → ⊥
not_beside_below forest _ _ good moves same (one_step m n step) = by_step forest m m n good (inl refl) step same moves
not_beside_below forest _ _ good moves same (then_step m k n way step) = by_step forest m k n good (inr way) step same moves

-- the climb came to a node beside them that is none of them
pub past_beside : (forest : Forest) (t x at steps : ℕ) → IsForest forest → x < length forest.content → stays forest x ≡ false → ClimbsPast forest t x at steps → (stays forest at ≡ false) × (parent forest at ≡ parent forest x) → is_member at (with_later forest x) ≡ false →
    EachOf (with_later forest x) (MayPlace forest t)
past_beside forest t x at steps good h moves climb same out =
    none_reach forest t x good h moves (λ m s below. elim (Climb.onto (climb.each m s) below) [
      | inl e ↦ true≢false (sym s ∙ ap (λ (k : ℕ). is_member k (with_later forest x)) e ∙ out)
      | inr way ↦ not_beside_below forest m at good same.0 (same.1 ∙ sym (Beside.same_parent (later_beside forest x m good.once h s))) way
    ])

-- the climb came to one of them
pub met_one : (forest : Forest) (t x at steps : ℕ) → ClimbsPast forest t x at steps → is_member at (with_later forest x) ≡ true → BlockedRun forest t x
met_one forest t x at steps climb s = inr (at, s, met_it forest t at at steps (climb.each at s) refl)

-- what is read at a node along the list

pub inside_nodes : (forest : Forest) (nodes : List TreeNode) (x at : ℕ) → IsArenaOf forest nodes → Beside forest x at → at < length nodes
inside_nodes forest nodes x at arena here =
    let long = length-contents forest nodes arena.links in
    let known = here.known in
    omega arith

pub goes_back : (forest : Forest) (nodes : List TreeNode) (x at i prev : ℕ) (d : TreeNode) → IsArenaOf forest nodes → Beside forest x at → i ≡ at → (get_or nodes i d).prev_sibling ≡ Some prev → Along forest true x at prev
goes_back forest nodes x at i prev d arena here e some =
    along forest true x at prev (get_or nodes i d).prev_sibling arena.once here (read_prev forest nodes i at d arena (inside_nodes forest nodes x at arena here) e) some

pub goes_forth : (forest : Forest) (nodes : List TreeNode) (x at i next : ℕ) (d : TreeNode) → IsArenaOf forest nodes → Beside forest x at → i ≡ at → (get_or nodes i d).next_sibling ≡ Some next → Along forest false x at next
goes_forth forest nodes x at i next d arena here e some =
    along forest false x at next (get_or nodes i d).next_sibling arena.once here (read_next forest nodes i at d arena (inside_nodes forest nodes x at arena here) e) some

pub comes_first : (forest : Forest) (nodes : List TreeNode) (x at i : ℕ) (d : TreeNode) → IsArenaOf forest nodes → Beside forest x at → i ≡ at → (get_or nodes i d).prev_sibling ≡ None → first (siblings forest x) ≡ Some at
comes_first forest nodes x at i d arena here e none =
    is_first forest x at (get_or nodes i d).prev_sibling arena.once here (read_prev forest nodes i at d arena (inside_nodes forest nodes x at arena here) e) none

pub seeks_forth : (forest : Forest) (nodes : List TreeNode) (x n at i next : ℕ) (d : TreeNode) → IsArenaOf forest nodes → Seeking forest x n at → (at ≡ n → ⊥) → i ≡ at → (get_or nodes i d).next_sibling ≡ Some next → Seeking forest x n next
seeks_forth forest nodes x n at i next d arena seeking other e some =
    seeks_on forest x n at next (get_or nodes i d).next_sibling arena.once seeking other (read_next forest nodes i at d arena (inside_nodes forest nodes x at arena seeking.here) e) some

pub seeks_no_more : (forest : Forest) (nodes : List TreeNode) (x n at i : ℕ) (d : TreeNode) → IsArenaOf forest nodes → Seeking forest x n at → (at ≡ n → ⊥) → i ≡ at → (get_or nodes i d).next_sibling ≡ None → is_member n (with_later forest x) ≡ false
seeks_no_more forest nodes x n at i d arena seeking other e none =
    sought_in_vain forest x n at (get_or nodes i d).next_sibling seeking other (read_next forest nodes i at d arena (inside_nodes forest nodes x at arena seeking.here) e) none

pub seeking_starts : (forest : Forest) (x n : ℕ) → x < length forest.content → Seeking forest x n x
seeking_starts forest x n h = record { here = beside_itself forest x h; same = refl }

-- the climb came to a node beside them: the test decides whether it is one of them
pub beside_given : (forest : Forest) (t x at steps : ℕ) (r : Bool) → IsForest forest → x < length forest.content → stays forest x ≡ false → ClimbsPast forest t x at steps → (stays forest at ≡ false) × (parent forest at ≡ parent forest x) → r ≡ is_member at (with_later forest x) →
    MatchBool (not r) (EachOf (with_later forest x) (MayPlace forest t)) (BlockedRun forest t x)
beside_given forest t x at steps r good h moves climb same is = elim (cases_Bool r) [
  | inl u ↦ rw u (met_one forest t x at steps climb (sym is ∙ u))
  | inr f ↦ rw f (past_beside forest t x at steps good h moves climb same (sym is ∙ f))
]
