-- Nodes are detached one after the other, each put behind the one before: they are detached together.
use Rattle.std.proofs.Common.{ℕ, ◌≡◌, ◌<◌, ◌≤◌, ◌+◌, get_or, true, false, List, [], ◌∷◌, ◌++◌, Some, None, refl, sym, ap, ◌∙◌, subst, arith, cond, inl, inr, length, map, take, drop, take-append-drop}
use Rattle.std.specs.Prelude.{◌==◌, ◌||◌, ◌&&◌}
use Rattle.std.proofs.lemmas.Bool.{cases_Bool, eq-eqb, ne_eqb, true≢false}
use Rattle.std.proofs.lemmas.List.{get_or_default, same_lists, take_all, take_more}
use Rattle.dom_nodes.specs.declared.node_data.TreeNode.{TreeNode}
use Rattle.dom_links.specs.Forest.{Forest, IsArenaOf, forest_of, run_of}
use Rattle.dom_links.specs.ListMoves.{AreNodes, MovedList, Moves}
use Rattle.dom_links.specs.Lists.{IsDistinct, first, last, map_from, put_after, is_member, without}
use Rattle.dom_links.specs.Moves.{InsertionPoint, after_node, children_with, detach, moved_to, put, run_with}
use Rattle.dom_links.specs.Sound.{Removed}
use Rattle.dom_links.specs.declared.gap.MovedNodes.TheVariants.{Node}
use Rattle.dom_links.proofs.moves.BlockGaps.{after_absent_list}
use Rattle.dom_links.proofs.moves.BlockKept.{list_moved}
use Rattle.dom_links.proofs.moves.Cuts.{length-contents, one-stands, run-detach}
use Rattle.dom_links.proofs.forest.Neighbours.{distinct_parts, first-stands, last-append, last-cons_cons, last-stands, is_member-append, is_member-without, without_one-none, first_none}
use Rattle.dom_links.proofs.forest.Places.{get_or-map_all, length-map_from}
use Rattle.dom_links.proofs.moves.TwoSteps.{cut_nothing, nothing_put}

-- behind the last of a list
put_behind_last : (ns : List ℕ) (l m : ℕ) → IsDistinct ns → last ns ≡ Some l → put_after l (m ∷ []) ns ≡ ns ++ m ∷ []
put_behind_last [] l m once e = cc
put_behind_last (n ∷ []) l m once e = let is : n ≡ l = cc in rw (eq-eqb n l is) refl
put_behind_last (n ∷ k ∷ ns) l m once e =
    let e' : last (k ∷ ns) ≡ Some l = sym (last-cons_cons n k ns) ∙ e in
    let off : (n == l) ≡ false = ne_eqb n l (λ is. true≢false (sym (last-stands (k ∷ ns) l e') ∙ ap (λ j. is_member j (k ∷ ns)) (sym is) ∙ once.0)) in
    rw off (ap (λ ks. n ∷ ks) (put_behind_last (k ∷ ns) l m once.1 e'))

-- what one list and then another loses
without_twice : (ns : List ℕ) (m : ℕ) (ks : List ℕ) → without (m ∷ []) (without ns ks) ≡ without (ns ++ m ∷ []) ks
without_twice ns m [] = refl
without_twice ns m (k ∷ ks) =
    let both : is_member k (ns ++ m ∷ []) ≡ (is_member k ns || is_member k (m ∷ [])) = is_member-append ns (m ∷ []) k in
    elim (cases_Bool (is_member k ns)) [
      | inl t ↦ (let in_both : is_member k (ns ++ m ∷ []) ≡ true = rw t at both in rw (t, in_both) (without_twice ns m ks))
      | inr f ↦ (let same : is_member k (ns ++ m ∷ []) ≡ is_member k (m ∷ []) = rw f at both in
          elim (cases_Bool (is_member k (m ∷ []))) [
            | inl u ↦ (let in_both : is_member k (ns ++ m ∷ []) ≡ true = same ∙ u in rw (f, u, in_both) (without_twice ns m ks))
            | inr g ↦ (let in_none : is_member k (ns ++ m ∷ []) ≡ false = same ∙ g in rw (f, g, in_none) (ap (λ js. k ∷ js) (without_twice ns m ks)))
          ])
    ]

-- none of them is left in it
none_left : (ns : List ℕ) (l m : ℕ) (ks : List ℕ) → is_member l ns ≡ true → put_after l (m ∷ []) (without (m ∷ []) (without ns ks)) ≡ without (ns ++ m ∷ []) ks
none_left ns l m ks inside =
    let whole = without_twice ns m ks in
    let there : is_member l (ns ++ m ∷ []) ≡ true = is_member-append ns (m ∷ []) l ∙ rw inside refl in
    let out : is_member l (without (ns ++ m ∷ []) ks) ≡ false = is_member-without (ns ++ m ∷ []) ks l ∙ rw there (elim (is_member l ks) as (λ t. (t && false) ≡ false) [ true ↦ refl | false ↦ refl ]) in
    ap (put_after l (m ∷ [])) whole ∙ after_absent_list (without (ns ++ m ∷ []) ks) l (m ∷ []) out

-- a node that is put behind the last of those that are detached is detached with them
children_more : (i : ℕ) (ns : List ℕ) (l m : ℕ) (lists : List (List ℕ)) → is_member l ns ≡ true →
    map_from i (children_with (after_node l) (m ∷ [])) (map (without (m ∷ [])) (map (without ns) lists)) ≡ map (without (ns ++ m ∷ [])) lists
children_more i ns l m [] inside = refl
children_more i ns l m (ks ∷ lists) inside = rw (none_left ns l m ks inside, children_more (i + 1) ns l m lists inside) refl

abbrev run_out : List ℕ → ℕ → List ℕ → List ℕ
run_out moved n run = cond (is_member n moved) moved (without moved run)

run_more : (forest : Forest) (ns : List ℕ) (l m n : ℕ) → IsDistinct ns → is_member m ns ≡ false → last ns ≡ Some l → l < length forest.runs → n < length forest.runs →
    run_of (moved_to (m ∷ []) (after_node l) (detach ns forest)) n ≡ run_of (detach (ns ++ m ∷ []) forest) n
run_more forest ns l m n once out e hl hn =
    let first = detach ns forest in
    let second = detach (m ∷ []) first in
    let long : length first.runs ≡ length forest.runs = length-map_from 0 (run_out ns) forest.runs in
    let longer : length second.runs ≡ length first.runs = length-map_from 0 (run_out (m ∷ [])) first.runs in
    let inside : is_member l ns ≡ true = last-stands ns l e in
    let run_now : (k : ℕ) → k < length forest.runs → run_of second k ≡ cond (is_member k (m ∷ [])) (m ∷ []) (without (m ∷ []) (cond (is_member k ns) ns (without ns (run_of forest k)))) =
    λ k h. run-detach (m ∷ []) first k (omega arith) ∙ ap (λ ks. cond (is_member k (m ∷ [])) (m ∷ []) (without (m ∷ []) ks)) (run-detach ns forest k h) in
    let whole : without (m ∷ []) ns ≡ ns = without_one-none ns m out in
    let apart : is_member l (m ∷ []) ≡ false = one-stands m l ∙ ne_eqb m l (λ is. true≢false (sym inside ∙ ap (λ k. is_member k ns) (sym is) ∙ out)) in
    let behind : put_after l (m ∷ []) (without (m ∷ []) ns) ≡ ns ++ m ∷ [] = ap (put_after l (m ∷ [])) whole ∙ put_behind_last ns l m once e in
    let new : run_of (moved_to (m ∷ []) (after_node l) first) n ≡ put_after l (m ∷ []) (run_of second (cond (is_member n (m ∷ [])) l n)) =
    get_or-map_all (λ k run. run_with (after_node l) (m ∷ []) second k) second.runs n (omega arith) in
    let both : is_member n (ns ++ m ∷ []) ≡ (is_member n ns || is_member n (m ∷ [])) = is_member-append ns (m ∷ []) n in
    let goal_run = run-detach (ns ++ m ∷ []) forest n hn in
    elim (cases_Bool (is_member n (m ∷ []))) [
      | inl t ↦ (let in_both : is_member n (ns ++ m ∷ []) ≡ true = both ∙ rw t (elim (is_member n ns) as (λ b. (b || true) ≡ true) [ true ↦ refl | false ↦ refl ]) in
          let here : run_of second l ≡ without (m ∷ []) ns = run_now l hl ∙ rw (apart, inside) refl in
          new ∙ rw t (ap (put_after l (m ∷ [])) here ∙ behind ∙ sym (goal_run ∙ rw in_both refl)))
      | inr f ↦ (let same : is_member n (ns ++ m ∷ []) ≡ is_member n ns = both ∙ rw f (elim (is_member n ns) as (λ b. (b || false) ≡ b) [ true ↦ refl | false ↦ refl ]) in
          let here : run_of second n ≡ without (m ∷ []) (cond (is_member n ns) ns (without ns (run_of forest n))) = run_now n hn ∙ rw f refl in
          elim (cases_Bool (is_member n ns)) [
            | inl u ↦ new ∙ rw f (ap (put_after l (m ∷ [])) (here ∙ rw u refl) ∙ behind ∙ sym (goal_run ∙ rw (same ∙ u) refl))
            | inr g ↦ new ∙ rw f (ap (put_after l (m ∷ [])) (here ∙ rw g refl) ∙ none_left ns l m (run_of forest n) inside ∙ sym (goal_run ∙ rw (same ∙ g) refl))
          ])
    ]

pub cut_more : (forest : Forest) (ns : List ℕ) (l m : ℕ) → IsDistinct ns → is_member m ns ≡ false → last ns ≡ Some l → l < length forest.runs →
    moved_to (m ∷ []) (after_node l) (detach ns forest) ≡ detach (ns ++ m ∷ []) forest
cut_more forest ns l m once out e hl =
    let first = detach ns forest in
    let second = detach (m ∷ []) first in
    let after' = moved_to (m ∷ []) (after_node l) first in
    let whole = detach (ns ++ m ∷ []) forest in
    let one : length after'.runs ≡ length second.runs = length-map_from 0 (λ k run. run_with (after_node l) (m ∷ []) second k) second.runs in
    let two : length second.runs ≡ length first.runs = length-map_from 0 (run_out (m ∷ [])) first.runs in
    let three : length first.runs ≡ length forest.runs = length-map_from 0 (run_out ns) forest.runs in
    let all : length whole.runs ≡ length forest.runs = length-map_from 0 (run_out (ns ++ m ∷ [])) forest.runs in
    let runs : after'.runs ≡ whole.runs = same_lists after'.runs whole.runs (omega arith) (λ k d h.
    get_or_default after'.runs k d [] h ∙ run_more forest ns l m k once out e hl (omega arith) ∙ get_or_default whole.runs k [] d (omega arith)) in
    rw (children_more 0 ns l m forest.children (last-stands ns l e), runs) refl

-- ---- the steps

-- some nodes were detached together, and l is the last of them
pub record IsGathered (base : Forest) (ns : List ℕ) (nodes : List TreeNode) (l : ℕ) : Type 0 where
  pub is : forest_of nodes ≡ detach ns base
  pub linked : IsArenaOf (forest_of nodes) nodes
  pub ends : last ns ≡ Some l
  pub many : length nodes ≡ length base.content

-- a front of nodes
pub nodes_front : (forest : Forest) (moved front back : List ℕ) → AreNodes forest moved → moved ≡ front ++ back → AreNodes forest front
nodes_front forest moved front back are e =
    let parts = distinct_parts front back (subst IsDistinct e are.once) in
    record {
      once = parts.0;
      known = λ n s. are.known n (ap (is_member n) e ∙ is_member-append front back n ∙ rw s refl);
    }

pub gather_first : (old new : List TreeNode) (n : ℕ) → IsArenaOf (forest_of old) old → Removed old new n → IsGathered (forest_of old) (n ∷ []) new n
gather_first old new n arena removed = record {
  is = removed.made;
  linked = removed.linked;
  ends = refl;
  many = length-contents (forest_of new) new removed.linked.links ∙ ap (λ (f : Forest). length f.content) removed.made;
}

pub gather_more : (base : Forest) (mid new : List TreeNode) (ns : List ℕ) (l m : ℕ) → length base.runs ≡ length base.content → AreNodes base (ns ++ m ∷ []) → IsGathered base ns mid l →
    Moves mid new (after_node l) (Node m) → IsGathered base (ns ++ m ∷ []) new m
gather_more base mid new ns l m each are so_far moved =
    let parts = distinct_parts ns (m ∷ []) are.once in
    let out : is_member m ns ≡ false = elim (cases_Bool (is_member m ns)) [
      | inr f ↦ f
      | inl t ↦ absurd (true≢false (sym (one-stands m m ∙ eq-eqb m m refl) ∙ parts.2 m t))
    ] in
    let known : l < length base.content = are.known l (is_member-append ns (m ∷ []) l ∙ rw (last-stands ns l so_far.ends) refl) in
    let is : forest_of new ≡ detach (ns ++ m ∷ []) base = moved.made ∙ ap (moved_to (m ∷ []) (after_node l)) so_far.is ∙ cut_more base ns l m parts.0 out so_far.ends (omega arith) in
    record {
      is = is;
      linked = moved.linked;
      ends = last-append ns (m ∷ []);
      many = length-contents (forest_of new) new moved.linked.links ∙ ap (λ (f : Forest). length f.content) is;
    }

-- what the next step asks
pub apart_from_last : (base : Forest) (ns : List ℕ) (l m : ℕ) → AreNodes base (ns ++ m ∷ []) → last ns ≡ Some l → m ≡ l → ⊥
apart_from_last base ns l m are e same =
    let parts = distinct_parts ns (m ∷ []) are.once in
    true≢false (sym (one-stands m l ∙ eq-eqb m l same) ∙ parts.2 l (last-stands ns l e))

pub part_known : (base : Forest) (ns : List ℕ) (m : ℕ) → AreNodes base (ns ++ m ∷ []) → m < length base.content
part_known base ns m are = are.known m (is_member-append ns (m ∷ []) m ∙ rw (one-stands m m ∙ eq-eqb m m refl) (elim (is_member m ns) as (λ b. (b || true) ≡ true) [ true ↦ refl | false ↦ refl ]))

pub last_known : (base : Forest) (ns : List ℕ) (l m : ℕ) → AreNodes base (ns ++ m ∷ []) → last ns ≡ Some l → l < length base.content
last_known base ns l m are e = are.known l (is_member-append ns (m ∷ []) l ∙ rw (last-stands ns l e) refl)

-- the next of some nodes
pub front_more : (forest : Forest) (moved others : List ℕ) (start i n : ℕ) → AreNodes forest moved → moved ≡ start ∷ others → i < length others → n ≡ get_or others i n →
    (AreNodes forest ((start ∷ take i others) ++ n ∷ [])) × (start ∷ take (i + 1) others ≡ (start ∷ take i others) ++ n ∷ [])
front_more forest moved others start i n are e h item =
    let more : take (i + 1) others ≡ take i others ++ n ∷ [] = take_more others i n h ∙ ap (λ (k : ℕ). take i others ++ k ∷ []) (sym item) in
    let all : moved ≡ ((start ∷ take i others) ++ n ∷ []) ++ drop (i + 1) others = e ∙ ap (λ ks. start ∷ ks) (sym (take-append-drop (i + 1) others) ∙ ap (λ ks. ks ++ drop (i + 1) others) more) in
    (nodes_front forest moved ((start ∷ take i others) ++ n ∷ []) (drop (i + 1) others) are all, ap (λ ks. start ∷ ks) more)

pub all_gathered : (base : Forest) (nodes : List TreeNode) (moved others : List ℕ) (start i l : ℕ) → moved ≡ start ∷ others → length others ≤ i → IsGathered base (start ∷ take i others) nodes l → IsArenaOf (detach moved base) nodes
all_gathered base nodes moved others start i l e far so_far =
    let all : start ∷ take i others ≡ moved = ap (λ ks. start ∷ ks) (take_all i others far) ∙ sym e in
    subst (λ (f : Forest). IsArenaOf f nodes) (so_far.is ∙ ap (λ ns. detach ns base) all) so_far.linked

pub start_known : (base : Forest) (moved others : List ℕ) (start : ℕ) → AreNodes base moved → moved ≡ start ∷ others → start < length base.content
start_known base moved others start are e = are.known start (first-stands moved start (ap first e))

-- ---- a run of nodes that were detached is put at a gap

-- ---- no node at all

pub nothing_cut : (old : List TreeNode) (ns : List ℕ) → length ns ≡ 0 → IsArenaOf (forest_of old) old → IsArenaOf (detach ns (forest_of old)) old
nothing_cut old [] e arena = subst (λ (f : Forest). IsArenaOf f old) (sym (cut_nothing (forest_of old))) arena
nothing_cut old (n ∷ ns) e arena = absurd (omega (arith, e))

pub none_moved : (old new : List TreeNode) (gap : InsertionPoint) (moved : List ℕ) → AreNodes (forest_of old) moved → first moved ≡ None → IsArenaOf (detach moved (forest_of old)) new → MovedList old new gap moved
none_moved old new gap moved are none arena =
    let empty : moved ≡ [] = first_none moved none in
    list_moved old new gap moved are (subst (λ (f : Forest). IsArenaOf f new) (sym (ap (λ ns. put gap ns (detach moved (forest_of old))) empty ∙ nothing_put gap (detach moved (forest_of old)))) arena)
