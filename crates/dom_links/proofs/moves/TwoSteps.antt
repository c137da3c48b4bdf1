-- Moves of the children of a node, and moves in two steps.
use Rattle.std.proofs.Common.{ℕ, suc, ◌≡◌, ◌<◌, ◌+◌, true, false, List, [], ◌∷◌, ◌++◌, Option, Some, None, refl, sym, ap, ◌∙◌, subst, arith, cond, inl, inr, length, map, get_or}
use Rattle.std.specs.Prelude.{◌==◌, MatchOption, option_and_then}
use Rattle.std.proofs.lemmas.List.{append-nil}
use Rattle.std.proofs.lemmas.Bool.{cases_Bool, not-true}
use Rattle.dom_nodes.specs.declared.node_data.TreeNode.{TreeNode}
use Rattle.dom_links.specs.Lists.{is_member, first, without, map_from, put_after, put_before}
use Rattle.dom_links.specs.Forest.{Forest, StandsOnce, IsArenaOf, forest_of, children_of, run_of, parent, siblings}
use Rattle.dom_links.specs.Moves.{InsertionPoint, after_node, before_node, end_of, front_of, children_with, run_with, put, detach, moved_to}
use Rattle.dom_links.specs.Sound.{one_step, then_step, Allowed, IsForest, MayPlace, Moved, Removed, stays}
use Rattle.dom_links.specs.ListMoves.{AllowedList, MovedList, ChildrenRemoved, Reparents, MayWrap, Replaced, Wrapped, Unwrapped, element_at, element_above, wrapper, without_wrapper, with_later}
use Rattle.dom_links.proofs.forest.Neighbours.{around, first-stands, first_none}
use Rattle.dom_links.proofs.forest.Places.{cases_Option, siblings_once}
use Rattle.dom_links.proofs.moves.Cuts.{no_other, one_here}
use Rattle.dom_links.proofs.moves.BlockCuts.{once-detach, one_node}
use Rattle.dom_links.proofs.moves.BlockFills.{parent-put_in, parent-put_out}
use Rattle.dom_links.proofs.moves.BlockGaps.{put-before}
use Rattle.dom_links.proofs.forest.Depth.{parent_inside}
use Rattle.dom_links.proofs.walks.SiblingWalks.{not_beside_below}
use Rattle.dom_links.proofs.moves.BlockKept.{alone-cut_list, children_are, children_move, children_removed, list_moved}
use Rattle.dom_links.proofs.moves.BlockMoves.{all_children}

-- no node at all is detached or put anywhere

pub map_from_same : (i : ℕ) (f : ℕ → List ℕ → List ℕ) (lists : List (List ℕ)) → ((n : ℕ) → n < length lists → f (i + n) (get_or lists n []) ≡ get_or lists n []) → map_from i f lists ≡ lists
map_from_same i f [] same = refl
map_from_same i f (ns ∷ lists) same =
    let z : i ≡ i + 0 = omega arith in
    let here : f i ns ≡ ns = ap (λ (k : ℕ). f k ns) z ∙ same 0 (omega arith) in
    let others : map_from (i + 1) f lists ≡ lists = map_from_same (i + 1) f lists (λ n h. (let e : i + 1 + n ≡ i + suc n = omega arith in ap (λ (k : ℕ). f k (get_or lists n [])) e ∙ same (suc n) (omega arith))) in
    rw (here, others) refl

pub without_nothing : (ns : List ℕ) → without [] ns ≡ ns
without_nothing [] = refl
without_nothing (n ∷ ns) = ap (λ ms. n ∷ ms) (without_nothing ns)

pub map_without_nothing : (lists : List (List ℕ)) → map (without []) lists ≡ lists
map_without_nothing [] = refl
map_without_nothing (ns ∷ lists) = rw (without_nothing ns, map_without_nothing lists) refl

pub cut_nothing : (forest : Forest) → detach [] forest ≡ forest
cut_nothing forest =
    let runs : map_from 0 (λ n run. without [] run) forest.runs ≡ forest.runs = map_from_same 0 (λ n run. without [] run) forest.runs (λ n h. without_nothing (get_or forest.runs n [])) in
    rw (map_without_nothing forest.children, runs) refl

nothing_after : (t : ℕ) (ns : List ℕ) → put_after t [] ns ≡ ns
nothing_after t [] = refl
nothing_after t (n ∷ ns) = elim (n == t) as (λ b. cond b (n ∷ ns) (n ∷ put_after t [] ns) ≡ n ∷ ns) [ true ↦ refl | false ↦ ap (λ ks. n ∷ ks) (nothing_after t ns) ]

nothing_before : (t : ℕ) (ns : List ℕ) → put_before t [] ns ≡ ns
nothing_before t [] = refl
nothing_before t (n ∷ ns) = elim (n == t) as (λ b. cond b (n ∷ ns) (n ∷ put_before t [] ns) ≡ n ∷ ns) [ true ↦ refl | false ↦ ap (λ ks. n ∷ ks) (nothing_before t ns) ]

nothing_with : (gap : InsertionPoint) (p : ℕ) (ns : List ℕ) → children_with gap [] p ns ≡ ns
nothing_with (end_of t) p ns = elim (p == t) as (λ b. cond b (ns ++ []) ns ≡ ns) [ true ↦ append-nil ns | false ↦ refl ]
nothing_with (front_of t) p ns = elim (p == t) as (λ b. cond b ns ns ≡ ns) [ true ↦ refl | false ↦ refl ]
nothing_with (before_node t) p ns = nothing_before t ns
nothing_with (after_node t) p ns = nothing_after t ns

nothing_in_run : (gap : InsertionPoint) (forest : Forest) (n : ℕ) → run_with gap [] forest n ≡ run_of forest n
nothing_in_run (end_of t) forest n = refl
nothing_in_run (front_of t) forest n = refl
nothing_in_run (before_node t) forest n = nothing_before t (run_of forest n)
nothing_in_run (after_node t) forest n = nothing_after t (run_of forest n)

pub nothing_put : (gap : InsertionPoint) (forest : Forest) → put gap [] forest ≡ forest
nothing_put gap forest =
    let children : map_from 0 (children_with gap []) forest.children ≡ forest.children = map_from_same 0 (children_with gap []) forest.children (λ n h. nothing_with gap (0 + n) (get_or forest.children n [])) in
    let runs : map_from 0 (λ n run. run_with gap [] forest n) forest.runs ≡ forest.runs = map_from_same 0 (λ n run. run_with gap [] forest n) forest.runs (λ n h.
    (let z : 0 + n ≡ n = omega arith in nothing_in_run gap forest (0 + n) ∙ ap (λ (k : ℕ). get_or forest.runs k []) z)) in
    rw (children, runs) refl

pub no_children_removed : (old : List TreeNode) (x : ℕ) → IsArenaOf (forest_of old) old → children_of (forest_of old) x ≡ [] → ChildrenRemoved old old x
no_children_removed old x arena none =
    children_removed old old x arena (subst (λ (forest : Forest). IsArenaOf forest old) (sym (ap (λ moved. detach moved (forest_of old)) none ∙ cut_nothing (forest_of old))) arena)

pub children_cut_out : (old new : List TreeNode) (x first_child : ℕ) → IsArenaOf (forest_of old) old → with_later (forest_of old) first_child ≡ children_of (forest_of old) x → IsArenaOf (detach (with_later (forest_of old) first_child) (forest_of old)) new → ChildrenRemoved old new x
children_cut_out old new x first_child arena all cut_out = children_removed old new x arena (subst (λ moved. IsArenaOf (detach moved (forest_of old)) new) all cut_out)

pub first_child_given : (nodes : List TreeNode) (x : ℕ) (o : Option ℕ) → IsArenaOf (forest_of nodes) nodes → o ≡ first (children_of (forest_of nodes) x) →
    MatchOption o (children_of (forest_of nodes) x ≡ []) (λ child. with_later (forest_of nodes) child ≡ children_of (forest_of nodes) x)
first_child_given nodes x None arena e = first_none (children_of (forest_of nodes) x) (sym e)
first_child_given nodes x (Some k) arena e = all_children (forest_of nodes) x k arena.once (sym e) (arena.once.in_children x k (first-stands (children_of (forest_of nodes) x) k (sym e))).1

-- the children of a node are moved

pub no_children_moved : (old : List TreeNode) (x : ℕ) (gap : InsertionPoint) → IsArenaOf (forest_of old) old → children_of (forest_of old) x ≡ [] → MovedList old old gap (children_of (forest_of old) x)
no_children_moved old x gap arena none =
    list_moved old old gap (children_of (forest_of old) x) (children_are (forest_of old) x arena.once)
    (subst (λ (forest : Forest). IsArenaOf forest old) (sym (ap (λ moved. moved_to moved gap (forest_of old)) none ∙ ap (put gap []) (cut_nothing (forest_of old)) ∙ nothing_put gap (forest_of old))) arena)

pub reparents_to : (old new : List TreeNode) (x t : ℕ) (p : Option ℕ) → p ≡ Some t → MovedList old new (end_of t) (children_of (forest_of old) x) → Reparents old new x p
reparents_to old new x t p some moved = subst (Reparents old new x) (sym some) (record { made = moved.made; linked = moved.linked; kept = moved.kept })

-- a node was put before another, and that one was detached
pub replaces : (old middle new : List TreeNode) (t x : ℕ) → Moved old middle (before_node t) x → Removed middle new t → Replaced old new t x
replaces old middle new t x beside' out = record {
  made = out.made ∙ ap (detach (t ∷ [])) beside'.made;
  linked = out.linked;
  kept = λ allowed good. out.kept tt (beside'.kept allowed good);
}

-- w was put before x: they then have one parent, and x may be moved into w

pub one_parent : (forest : Forest) (x w : ℕ) → StandsOnce forest → Allowed forest (before_node x) w → parent (moved_to (w ∷ []) (before_node x) forest) w ≡ parent (moved_to (w ∷ []) (before_node x) forest) x
one_parent forest x w once allowed =
    let moved : List ℕ = w ∷ [] in
    let middle = detach moved forest in
    let after' = moved_to moved (before_node x) forest in
    let once' = once-detach forest w once allowed.known in
    let known : x < length middle.content = allowed.target_known in
    let out = no_other x w (MayPlace.apart allowed.may) in
    let parts = around x (siblings middle x) (siblings_once middle x once') (once'.placed x known) in
    let fill = put-before middle moved x once' (alone-cut_list forest moved once (one_node forest w allowed.known)) out known parts in
    parent-put_in middle after' moved (parent middle x) parts.front (x ∷ parts.back) w once' fill (one_here w)
    ∙ sym (parent-put_out middle after' moved (parent middle x) parts.front (x ∷ parts.back) x fill out)

pub into_wrapper : (forest : Forest) (x w : ℕ) → IsForest forest → MayWrap forest x w → IsForest (moved_to (w ∷ []) (before_node x) forest) → Allowed (moved_to (w ∷ []) (before_node x) forest) (end_of w) x
into_wrapper forest x w good may good' =
    let after' = moved_to (w ∷ []) (before_node x) forest in
    let allowed = may.beside in
    record {
      target_known = allowed.known;
      known = allowed.target_known;
      open_here = may.parents_allow;
      may = record {
        moves = not-true (stays forest x) allowed.open_here;
        apart = λ e. MayPlace.apart allowed.may (sym e);
        free = λ way. not_beside_below after' x w good' (MayPlace.moves allowed.may) (one_parent forest x w good.once allowed) way;
      };
    }

pub wraps : (old middle new : List TreeNode) (x w : ℕ) → Moved old middle (before_node x) w → Moved middle new (end_of w) x → Wrapped old new x w
wraps old middle new x w beside' inside = record {
  made = inside.made ∙ ap (moved_to (x ∷ []) (end_of w)) beside'.made;
  linked = inside.linked;
  kept = λ may good. (let good' = beside'.kept may.beside good in
      inside.kept (subst (λ (forest : Forest). Allowed forest (end_of w) x) (sym beside'.made)
      (into_wrapper (forest_of old) x w good may (subst IsForest beside'.made good'))) good');
}

-- the elements above a node

pub element_named : (forest : Forest) (n p : ℕ) → parent forest n ≡ Some p → element_at forest p ≡ true → element_above forest n ≡ Some p
element_named forest n p some is = ap (option_and_then (λ q. cond (element_at forest q) (Some q) None)) some ∙ rw is refl

pub no_element : (forest : Forest) (n p : ℕ) → parent forest n ≡ Some p → element_at forest p ≡ false → element_above forest n ≡ None
no_element forest n p some is = ap (option_and_then (λ q. cond (element_at forest q) (Some q) None)) some ∙ rw is refl

pub no_parent_above : (forest : Forest) (n : ℕ) → parent forest n ≡ None → element_above forest n ≡ None
no_parent_above forest n none = ap (option_and_then (λ q. cond (element_at forest q) (Some q) None)) none

pub above_is : (forest : Forest) (n p : ℕ) → element_above forest n ≡ Some p → (parent forest n ≡ Some p) × (element_at forest p ≡ true)
above_is forest n p e = elim (cases_Option (parent forest n)) [
  | inl none ↦ (let no = sym (no_parent_above forest n none) ∙ e in cc)
  | inr (q, some) ↦ elim (cases_Bool (element_at forest q)) [
    | inl t ↦ (let is : q ≡ p = (let two = sym (element_named forest n q some t) ∙ e in cc) in (some ∙ ap Some is, subst (λ (k : ℕ). element_at forest k ≡ true) is t))
    | inr f ↦ (let no = sym (no_element forest n q some f) ∙ e in cc)
  ]
]

pub wrapper_found : (forest : Forest) (x p g : ℕ) → element_above forest x ≡ Some p → element_above forest p ≡ Some g → wrapper forest x ≡ Some p
wrapper_found forest x p g one two = ap (option_and_then (λ q. option_and_then (λ above. Some q) (element_above forest q))) one ∙ ap (option_and_then (λ above. Some p)) two

pub wrapper_alone : (forest : Forest) (x p : ℕ) → element_above forest x ≡ Some p → element_above forest p ≡ None → wrapper forest x ≡ None
wrapper_alone forest x p one two = ap (option_and_then (λ q. option_and_then (λ above. Some q) (element_above forest q))) one ∙ ap (option_and_then (λ above. Some p)) two

pub wrapper_none : (forest : Forest) (x : ℕ) → element_above forest x ≡ None → wrapper forest x ≡ None
wrapper_none forest x one = ap (option_and_then (λ q. option_and_then (λ above. Some q) (element_above forest q))) one

pub record IsWrapper (forest : Forest) (x p : ℕ) : Type 0 where
  pub above : ℕ
  pub parent_is : parent forest x ≡ Some p
  pub grandparent_is : parent forest p ≡ Some above

pub wrapper_is : (forest : Forest) (x p : ℕ) → wrapper forest x ≡ Some p → IsWrapper forest x p
wrapper_is forest x p e = elim (cases_Option (element_above forest x)) [
  | inl none ↦ (let no = sym (wrapper_none forest x none) ∙ e in cc)
  | inr (q, some) ↦ elim (cases_Option (element_above forest q)) [
    | inl none ↦ (let no = sym (wrapper_alone forest x q some none) ∙ e in cc)
    | inr (g, some') ↦ (let is : q ≡ p = (let two = sym (wrapper_found forest x q g some some') ∙ e in cc) in
        record {
          above = g;
          parent_is = (above_is forest x q some).0 ∙ ap Some is;
          grandparent_is = ap (parent forest) (sym is) ∙ (above_is forest q g some').0;
        })
  ]
]

-- the children of a wrapper may be put before it

pub wrapper_apart : (forest : Forest) (p : ℕ) → IsForest forest → is_member p (children_of forest p) ≡ false
wrapper_apart forest p good = elim (cases_Bool (is_member p (children_of forest p))) [
  | inr f ↦ f
  | inl s ↦ absurd (good.acyclic p (one_step p p (inl (good.once.in_children p p s).1)))
]

pub children_before : (forest : Forest) (x p : ℕ) → IsForest forest → IsWrapper forest x p → AllowedList forest (before_node p) (children_of forest p)
children_before forest x p good is = record {
  target_known = parent_inside forest x p good is.parent_is;
  open_here = elim (cases_Bool (stays forest p)) [
    | inr f ↦ rw f refl
    | inl t ↦ (let none = (good.alone p (parent_inside forest x p good is.parent_is) t).0 in let some = is.grandparent_is in cc)
  ];
  may = λ k s. (let above = (good.once.in_children p k s).1 in
      record {
        moves = children_move forest p good k s;
        apart = λ e. good.acyclic p (one_step p p (inl (ap (parent forest) (sym e) ∙ above)));
        free = λ way. good.acyclic k (then_step k p k way (inl above));
      });
}

pub unwraps : (old middle new : List TreeNode) (x p : ℕ) → wrapper (forest_of old) x ≡ Some p → MovedList old middle (before_node p) (children_of (forest_of old) p) → Removed middle new p → Unwrapped old new x
unwraps old middle new x p some moved removed = record {
  made = removed.made ∙ ap (detach (p ∷ [])) moved.made ∙ sym (ap (λ o. without_wrapper o (forest_of old)) some);
  linked = removed.linked;
  kept = λ _ good. removed.kept tt (moved.kept (children_before (forest_of old) x p good (wrapper_is (forest_of old) x p some)) good);
}
