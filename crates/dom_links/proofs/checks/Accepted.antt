-- Nodes that pass every check are a sound arena.
use Rattle.std.proofs.Common.{ℕ, ◌≡◌, ◌<◌, ◌≤◌, true, false, List, [], ◌∷◌, Option, Some, None, refl, sym, ap, ◌∙◌, subst, arith, inl, inr, length}
use Rattle.std.specs.Prelude.{◌==◌, ◌||◌, ◌≢◌, slice_get, IfSome, EachIndex, option_and_then}
use Rattle.std.specs.Option.{option_map_or, option_or}
use Rattle.std.proofs.lemmas.Bool.{cases_Bool, cases_lt, eqb-false, true≢false}
use Rattle.std.proofs.lemmas.List.{get_or_past, length-map}
use Rattle.std.proofs.lemmas.Option.{slice_get_past}
use Rattle.dom_nodes.specs.declared.node_data.TreeNode.{TreeNode}
use Rattle.dom_nodes.specs.Kinds.{contents_named, is_fragment, is_top, children_allowed}
use Rattle.dom_links.specs.Lists.{is_member, IsDistinct, first, last, after, before}
use Rattle.dom_links.specs.Forest.{StandsOnce, AreLinks, forest_of, children_of, run_of, parent, siblings, parent_link, prev_link, next_link, first_link, last_link, contents_of, chain, children_in, row_in, run_under}
use Rattle.dom_links.specs.Sound.{IsSoundArena, IsForest, IsHostAncestor, one_step, then_step, IsParentOrHost, contents_at}
use Rattle.dom_links.specs.Validation.{LinkPath, one_link, Ends, LinksHold, LinksKnown, Agrees, IsLinked, ContentsHold, link_at, parent_or_host, contents_link}
use Rattle.dom_links.proofs.forest.Places.{cases_Option, siblings_child, siblings_run}
use Rattle.dom_links.proofs.moves.Owners.{owner_found, owner_none}
use Rattle.dom_links.proofs.forest.Grown.{within}
use Rattle.dom_links.proofs.forest.Climbs.{fragment_is_top}
use Rattle.dom_links.proofs.forest.Chains.{numbered, length-numbered, chain_empty}
use Rattle.dom_links.proofs.checks.Checked.{names_inside}
use Rattle.dom_links.proofs.checks.Cycles.{no_return, way_after}
use Rattle.dom_links.proofs.checks.Rowed.{ToAndFro, IsRow, row_of, row_around, row_chain, head_of, tail_of, shared, lone_row}

-- who has a link is a node
linked_inside : (f : TreeNode → Option ℕ) (nodes : List TreeNode) (n k : ℕ) → option_and_then f (slice_get nodes n) ≡ Some k → n < length nodes
linked_inside f nodes n k e = elim (cases_lt n (length nodes)) [
  | inl here ↦ here
  | inr past ↦ (let none : option_and_then f (slice_get nodes n) ≡ None = ap (option_and_then f) (slice_get_past nodes n past) in cc)
]

at_link : (o : Option ℕ) (P : ℕ → Type 0) (k : ℕ) → IfSome o P → o ≡ Some k → P k
at_link o P k h e = subst (λ p. IfSome p P) e h

-- what the checks of links and the absence of cycles say of all links
record AreTied (nodes : List TreeNode) : Type 0 where
  to_and_fro : ToAndFro (prev_link nodes) (next_link nodes) (length nodes)
  prev_known : (n m : ℕ) → prev_link nodes n ≡ Some m → m < length nodes
  parent_known : (n p : ℕ) → parent_link nodes n ≡ Some p → (n < length nodes) × (p < length nodes)
  same_parent : (n m : ℕ) → prev_link nodes n ≡ Some m → parent_link nodes m ≡ parent_link nodes n
  first_is : (p c : ℕ) → first_link nodes p ≡ Some c → (c < length nodes) × (parent_link nodes c ≡ Some p)
  last_is : (p c : ℕ) → last_link nodes p ≡ Some c → (c < length nodes) × (parent_link nodes c ≡ Some p)
  at_front : (n p : ℕ) → parent_link nodes n ≡ Some p → prev_link nodes n ≡ None → first_link nodes p ≡ Some n
  at_back : (n p : ℕ) → parent_link nodes n ≡ Some p → next_link nodes n ≡ None → last_link nodes p ≡ Some n
  ends : (n : ℕ) → Ends (prev_link nodes) n

tied : (nodes : List TreeNode) → LinksHold nodes → EachIndex nodes (λ n. IsLinked nodes n) → ((n : ℕ) → Ends (prev_link nodes) n) → AreTied nodes
tied nodes links linked ends =
    let prev_here : (n m : ℕ) → prev_link nodes n ≡ Some m → n < length nodes = λ n m e. linked_inside (λ node. node.prev_sibling) nodes n m e in
    let next_here : (n m : ℕ) → next_link nodes n ≡ Some m → n < length nodes = λ n m e. linked_inside (λ node. node.next_sibling) nodes n m e in
    let parent_here : (n m : ℕ) → parent_link nodes n ≡ Some m → n < length nodes = λ n m e. linked_inside (λ node. node.parent) nodes n m e in
    let first_here : (n m : ℕ) → first_link nodes n ≡ Some m → n < length nodes = λ n m e. linked_inside (λ node. node.first_child) nodes n m e in
    let last_here : (n m : ℕ) → last_link nodes n ≡ Some m → n < length nodes = λ n m e. linked_inside (λ node. node.last_child) nodes n m e in
    record {
      to_and_fro = record {
        prev_next = λ n m e. at_link (prev_link nodes n) (λ k. next_link nodes k ≡ Some n) m (Agrees.with_prev (links.agree n (prev_here n m e))) e;
        next_prev = λ n m e. at_link (next_link nodes n) (λ k. prev_link nodes k ≡ Some n) m (Agrees.with_next (links.agree n (next_here n m e))) e;
        next_known = λ n m e. at_link (next_link nodes n) (λ k. k < length nodes) m (LinksKnown.next_known (links.known n (next_here n m e))) e;
      };
      prev_known = λ n m e. at_link (prev_link nodes n) (λ k. k < length nodes) m (LinksKnown.prev_known (links.known n (prev_here n m e))) e;
      parent_known = λ n p e. (parent_here n p e, at_link (parent_link nodes n) (λ k. k < length nodes) p (LinksKnown.parent_known (links.known n (parent_here n p e))) e);
      same_parent = λ n m e. at_link (prev_link nodes n) (λ k. parent_link nodes k ≡ parent_link nodes n) m (IsLinked.beside (linked n (prev_here n m e))) e;
      first_is = λ p c e. (
        at_link (first_link nodes p) (λ k. k < length nodes) c (LinksKnown.first_known (links.known p (first_here p c e))) e,
        at_link (first_link nodes p) (λ k. parent_link nodes k ≡ Some p) c (IsLinked.first_here (linked p (first_here p c e))) e,
      );
      last_is = λ p c e. (
        at_link (last_link nodes p) (λ k. k < length nodes) c (LinksKnown.last_known (links.known p (last_here p c e))) e,
        at_link (last_link nodes p) (λ k. parent_link nodes k ≡ Some p) c (IsLinked.last_here (linked p (last_here p c e))) e,
      );
      at_front = λ n p e none. at_link (parent_link nodes n) (λ k. prev_link nodes n ≡ None → first_link nodes k ≡ Some n) p (IsLinked.at_front (linked n (parent_here n p e))) e none;
      at_back = λ n p e none. at_link (parent_link nodes n) (λ k. next_link nodes n ≡ None → last_link nodes k ≡ Some n) p (IsLinked.at_back (linked n (parent_here n p e))) e none;
      ends = ends;
    }

-- Rows

row_is : (nodes : List TreeNode) (n : ℕ) (ns : List ℕ) → IsRow (prev_link nodes) (next_link nodes) (length nodes) ns → is_member n ns ≡ true → row_in nodes n ≡ ns
row_is nodes n ns row s = row_around (prev_link nodes) (next_link nodes) (length nodes) n ns row s

own_row : (nodes : List TreeNode) (n : ℕ) → AreTied nodes → n < length nodes → IsRow (prev_link nodes) (next_link nodes) (length nodes) (row_in nodes n) × (is_member n (row_in nodes n) ≡ true)
own_row nodes n ties h =
    let row = row_of (prev_link nodes) (next_link nodes) (length nodes) n ties.to_and_fro h ties.prev_known (ties.ends n) in
    let is = row_is nodes n row.0 row.1 row.2 in
    (subst (IsRow (prev_link nodes) (next_link nodes) (length nodes)) (sym is) row.1, ap (is_member n) is ∙ row.2)

-- who stands in the row of n has its parent, and its row
record StandsBy (nodes : List TreeNode) (n m : ℕ) : Type 0 where
  here : m < length nodes
  parent_same : parent_link nodes m ≡ parent_link nodes n
  row_same : row_in nodes m ≡ row_in nodes n

stands_by : (nodes : List TreeNode) (n m : ℕ) → AreTied nodes → n < length nodes → is_member m (row_in nodes n) ≡ true → StandsBy nodes n m
stands_by nodes n m ties h s =
    let its = own_row nodes n ties h in
    let head = head_of (prev_link nodes) (next_link nodes) (length nodes) n (row_in nodes n) its.0 its.1 in
    let up : (k : ℕ) → is_member k (row_in nodes n) ≡ true → parent_link nodes k ≡ parent_link nodes head.0 =
    λ k t. shared (prev_link nodes) (next_link nodes) (parent_link nodes) (length nodes) k head.0 (row_in nodes n) its.0 ties.same_parent (ties.ends k) t head.1 in
    record {
      here = IsRow.below its.0 m s;
      parent_same = up m s ∙ sym (up n its.1);
      row_same = row_is nodes m (row_in nodes n) its.0 s;
    }

-- the children of a parent are the row of each
children_are : (nodes : List TreeNode) (n p : ℕ) → AreTied nodes → parent_link nodes n ≡ Some p → (first_link nodes p ≡ first (row_in nodes n)) × (last_link nodes p ≡ last (row_in nodes n)) × (children_in nodes p ≡ row_in nodes n)
children_are nodes n p ties e =
    let h = (ties.parent_known n p e).0 in
    let its = own_row nodes n ties h in
    let head = head_of (prev_link nodes) (next_link nodes) (length nodes) n (row_in nodes n) its.0 its.1 in
    let tail = tail_of (prev_link nodes) (next_link nodes) (length nodes) n (row_in nodes n) its.0 its.1 in
    let begins : first_link nodes p ≡ first (row_in nodes n) = ties.at_front head.0 p (StandsBy.parent_same (stands_by nodes n head.0 ties h head.2) ∙ e) head.3 ∙ sym head.1 in
    let closes : last_link nodes p ≡ last (row_in nodes n) = ties.at_back tail.0 p (StandsBy.parent_same (stands_by nodes n tail.0 ties h tail.2) ∙ e) tail.3 ∙ sym tail.1 in
    (begins, closes, ap (chain (next_link nodes) (length nodes)) begins ∙ row_chain (prev_link nodes) (next_link nodes) (length nodes) (row_in nodes n) its.0)

children_none : (nodes : List TreeNode) (p : ℕ) → first_link nodes p ≡ None → children_in nodes p ≡ []
children_none nodes p e = ap (chain (next_link nodes) (length nodes)) e ∙ chain_empty (next_link nodes) (length nodes)

-- What the forest that the links determine has

contents_are : (nodes : List TreeNode) → (forest_of nodes).content ≡ contents_of nodes
unfolding forest_of
contents_are nodes = refl

long : (nodes : List TreeNode) → length (forest_of nodes).content ≡ length nodes
long nodes = ap length (contents_are nodes) ∙ length-map nodes (λ node. node.content)

children_long : (nodes : List TreeNode) → length (forest_of nodes).children ≡ length nodes
unfolding forest_of
children_long nodes = length-numbered 0 (λ n node. children_in nodes n) nodes

runs_long : (nodes : List TreeNode) → length (forest_of nodes).runs ≡ length nodes
unfolding forest_of
runs_long nodes = length-numbered 0 (λ n node. run_under (parent_link nodes n) (row_in nodes n)) nodes

children_at : (nodes : List TreeNode) (p : ℕ) → p < length nodes → children_of (forest_of nodes) p ≡ children_in nodes p
unfolding forest_of
children_at nodes p h = numbered 0 (λ n node. children_in nodes n) nodes p h (children_in nodes) (λ k node. refl) ∙ ap (children_in nodes) (omega arith)

run_at : (nodes : List TreeNode) (n : ℕ) → n < length nodes → run_of (forest_of nodes) n ≡ run_under (parent_link nodes n) (row_in nodes n)
unfolding forest_of
run_at nodes n h =
    numbered 0 (λ k node. run_under (parent_link nodes k) (row_in nodes k)) nodes n h (λ k. run_under (parent_link nodes k) (row_in nodes k)) (λ k node. refl)
    ∙ ap (λ (k : ℕ). run_under (parent_link nodes k) (row_in nodes k)) (omega arith)

children_past : (nodes : List TreeNode) (p : ℕ) → length nodes ≤ p → children_of (forest_of nodes) p ≡ []
children_past nodes p past = get_or_past (forest_of nodes).children p [] (omega (arith, children_long nodes))

run_past : (nodes : List TreeNode) (n : ℕ) → length nodes ≤ n → run_of (forest_of nodes) n ≡ []
run_past nodes n past = get_or_past (forest_of nodes).runs n [] (omega (arith, runs_long nodes))

-- the children of p, where there are any
child_facts : (nodes : List TreeNode) (p m : ℕ) → AreTied nodes → is_member m (children_of (forest_of nodes) p) ≡ true → (m < length nodes) × (parent_link nodes m ≡ Some p)
child_facts nodes p m ties s = elim (cases_lt p (length nodes)) [
  | inr past ↦ absurd (true≢false (sym s ∙ ap (is_member m) (children_past nodes p past)))
  | inl h ↦ (elim (cases_Option (first_link nodes p)) [
    | inl none ↦ absurd (true≢false (sym s ∙ ap (is_member m) (children_at nodes p h ∙ children_none nodes p none)))
    | inr (c, some) ↦ (let it = ties.first_is p c some in
        let children = children_are nodes c p ties it.1 in
        let by = stands_by nodes c m ties it.0 (ap (is_member m) (sym children.2 ∙ sym (children_at nodes p h)) ∙ s) in
        (StandsBy.here by, StandsBy.parent_same by ∙ it.1))
  ])
]

stands_child : (nodes : List TreeNode) (n p : ℕ) → AreTied nodes → parent_link nodes n ≡ Some p → children_of (forest_of nodes) p ≡ row_in nodes n
stands_child nodes n p ties e = children_at nodes p (ties.parent_known n p e).1 ∙ (children_are nodes n p ties e).2

parent_is : (nodes : List TreeNode) (n : ℕ) → AreTied nodes → parent (forest_of nodes) n ≡ parent_link nodes n
parent_is nodes n ties = elim (cases_Option (parent_link nodes n)) [
  | inl none ↦ owner_none 0 (forest_of nodes).children n (λ q. elim (cases_Bool (is_member n (children_of (forest_of nodes) q))) [
    | inr f ↦ f
    | inl t ↦ absurd (let two = sym none ∙ (child_facts nodes q n ties t).1 in (cc))
  ]) ∙ sym none
  | inr (p, some) ↦ (let its = own_row nodes n ties (ties.parent_known n p some).0 in
      owner_found 0 (forest_of nodes).children p n (ap (is_member n) (stands_child nodes n p ties some) ∙ its.1) (λ q ne. elim (cases_Bool (is_member n (children_of (forest_of nodes) q))) [
        | inr f ↦ f
        | inl t ↦ absurd (let two = sym (child_facts nodes q n ties t).1 ∙ some in ne (cc))
      ]) ∙ ap Some (omega arith) ∙ sym some)
]

siblings_are : (nodes : List TreeNode) (n : ℕ) → AreTied nodes → n < length nodes → siblings (forest_of nodes) n ≡ row_in nodes n
siblings_are nodes n ties h = elim (cases_Option (parent_link nodes n)) [
  | inl none ↦ siblings_run (forest_of nodes) n (parent_is nodes n ties ∙ none) ∙ run_at nodes n h ∙ ap (λ o. run_under o (row_in nodes n)) none
  | inr (p, some) ↦ siblings_child (forest_of nodes) n p (parent_is nodes n ties ∙ some) ∙ stands_child nodes n p ties some
]

-- a run that isn't empty
run_facts : (nodes : List TreeNode) (m n : ℕ) → AreTied nodes → is_member n (run_of (forest_of nodes) m) ≡ true → (m < length nodes) × (parent_link nodes m ≡ None) × (run_of (forest_of nodes) m ≡ row_in nodes m)
run_facts nodes m n ties s = elim (cases_lt m (length nodes)) [
  | inr past ↦ absurd (true≢false (sym s ∙ ap (is_member n) (run_past nodes m past)))
  | inl h ↦ (elim (cases_Option (parent_link nodes m)) [
    | inl none ↦ (h, none, run_at nodes m h ∙ ap (λ o. run_under o (row_in nodes m)) none)
    | inr (p, some) ↦ absurd (true≢false (sym s ∙ ap (is_member n) (run_at nodes m h ∙ ap (λ o. run_under o (row_in nodes m)) some)))
  ])
]

once : (nodes : List TreeNode) → AreTied nodes → StandsOnce (forest_of nodes)
once nodes ties = record {
  children_each = children_long nodes ∙ sym (long nodes);
  runs_each = runs_long nodes ∙ sym (long nodes);
  placed = λ n h. (let here : n < length nodes = omega (arith, long nodes) in ap (is_member n) (siblings_are nodes n ties here) ∙ (own_row nodes n ties here).1);
  in_children = λ p n s. (let child = child_facts nodes p n ties s in (omega (arith, long nodes, child.0), parent_is nodes n ties ∙ child.1));
  in_run = λ m n s. (let run = run_facts nodes m n ties s in
      let by = stands_by nodes m n ties run.0 (ap (is_member n) (sym run.2) ∙ s) in
      let none : parent_link nodes n ≡ None = StandsBy.parent_same by ∙ run.1 in (
        omega (arith, long nodes, StandsBy.here by),
        parent_is nodes n ties ∙ none,
        run_at nodes n (StandsBy.here by) ∙ ap (λ o. run_under o (row_in nodes n)) none ∙ StandsBy.row_same by ∙ sym run.2,
      ));
  children_once = λ p. elim (cases_lt p (length nodes)) [
    | inr past ↦ subst IsDistinct (sym (children_past nodes p past)) tt
    | inl h ↦ (elim (cases_Option (first_link nodes p)) [
      | inl none ↦ subst IsDistinct (sym (children_at nodes p h ∙ children_none nodes p none)) tt
      | inr (c, some) ↦ (let it = ties.first_is p c some in
          subst IsDistinct (sym (stands_child nodes c p ties it.1)) (IsRow.once (own_row nodes c ties it.0).0))
    ])
  ];
  run_once = λ n. elim (cases_lt n (length nodes)) [
    | inr past ↦ subst IsDistinct (sym (run_past nodes n past)) tt
    | inl h ↦ (elim (cases_Option (parent_link nodes n)) [
      | inl none ↦ subst IsDistinct (sym (run_at nodes n h ∙ ap (λ o. run_under o (row_in nodes n)) none)) (IsRow.once (own_row nodes n ties h).0)
      | inr (p, some) ↦ subst IsDistinct (sym (run_at nodes n h ∙ ap (λ o. run_under o (row_in nodes n)) some)) tt
    ])
  ];
  no_run = λ p n e. (let some : parent_link nodes n ≡ Some p = sym (parent_is nodes n ties) ∙ e in
      run_at nodes n (ties.parent_known n p some).0 ∙ ap (λ o. run_under o (row_in nodes n)) some);
}

are_links : (nodes : List TreeNode) → LinksHold nodes → AreTied nodes → AreLinks (forest_of nodes) nodes
are_links nodes links ties = record {
  contents = sym (contents_are nodes);
  ids = links.ids;
  parents = λ n h. sym (parent_is nodes n ties);
  prevs = λ n h. (let its = own_row nodes n ties h in IsRow.prevs its.0 n its.1 ∙ ap (λ ks. before ks n) (sym (siblings_are nodes n ties h)));
  nexts = λ n h. (let its = own_row nodes n ties h in IsRow.nexts its.0 n its.1 ∙ ap (λ ks. after ks n) (sym (siblings_are nodes n ties h)));
  firsts = λ n h. elim (cases_Option (first_link nodes n)) [
    | inl none ↦ none ∙ ap first (sym (children_at nodes n h ∙ children_none nodes n none))
    | inr (c, some) ↦ (let it = ties.first_is n c some in (children_are nodes c n ties it.1).0 ∙ ap first (sym (stands_child nodes c n ties it.1)))
  ];
  lasts = λ n h. elim (cases_Option (last_link nodes n)) [
    | inr (c, some) ↦ (let it = ties.last_is n c some in (children_are nodes c n ties it.1).1 ∙ ap last (sym (stands_child nodes c n ties it.1)))
    | inl none ↦ (elim (cases_Option (first_link nodes n)) [
      | inl no_first ↦ none ∙ ap last (sym (children_at nodes n h ∙ children_none nodes n no_first))
      | inr (c, some) ↦ (let it = ties.first_is n c some in (children_are nodes c n ties it.1).1 ∙ ap last (sym (stands_child nodes c n ties it.1)))
    ])
  ];
}

-- What the nodes' kinds establish

record HaveContents (nodes : List TreeNode) (hosts : List (Option ℕ)) : Type 0 where
  known : (n c : ℕ) → contents_link nodes n ≡ Some c → (c ≢ 0) × (option_map_or is_fragment (slice_get (contents_of nodes) c) false ≡ true) × (link_at hosts c ≡ Some n)

have_contents : (nodes : List TreeNode) (hosts : List (Option ℕ)) → ContentsHold nodes hosts → HaveContents nodes hosts
have_contents nodes hosts hold = record {
  known = λ n c e. at_link (contents_link nodes n) (λ k. (k ≢ 0) × (option_map_or is_fragment (slice_get (contents_of nodes) k) false ≡ true) × (link_at hosts k ≡ Some n)) c (hold.held n (names_inside nodes n c e)) e;
}

contents_same : (nodes : List TreeNode) (n c : ℕ) → contents_at (forest_of nodes) n ≡ Some c → contents_link nodes n ≡ Some c
contents_same nodes n c e = ap (λ contents. option_and_then contents_named (slice_get contents n)) (sym (contents_are nodes)) ∙ e

step_back : (nodes : List TreeNode) (hosts : List (Option ℕ)) (m n : ℕ) → AreTied nodes → ContentsHold nodes hosts → IsParentOrHost (forest_of nodes) m n → parent_or_host nodes hosts n ≡ Some m
step_back nodes hosts m n ties hold (inl up) = ap (λ o. option_or o (link_at hosts n)) (sym (parent_is nodes n ties) ∙ up)
step_back nodes hosts m n ties hold (inr down) =
    let its = HaveContents.known (have_contents nodes hosts hold) m n (contents_same nodes m n down) in
    let inside : n < length nodes = omega (arith, within is_fragment (contents_of nodes) n its.1, length-map nodes (λ node. node.content)) in
    let top : ((n == 0) || option_map_or is_top (slice_get (contents_of nodes) n) false) ≡ true = (let is = fragment_is_top (slice_get (contents_of nodes) n) its.1 in
    elim (n == 0) as (λ t. (t || option_map_or is_top (slice_get (contents_of nodes) n) false) ≡ true) [ true ↦ refl | false ↦ is ]) in
    ap (λ o. option_or o (link_at hosts n)) (hold.alone n inside top).0 ∙ its.2

way_back : (nodes : List TreeNode) (hosts : List (Option ℕ)) (m n : ℕ) → AreTied nodes → ContentsHold nodes hosts → IsHostAncestor (forest_of nodes) m n → LinkPath (parent_or_host nodes hosts) n m
way_back nodes hosts _ _ ties hold (one_step m n step) = one_link n m (step_back nodes hosts m n ties hold step)
way_back nodes hosts _ _ ties hold (then_step m k n way step) =
    way_after (parent_or_host nodes hosts) n k m (step_back nodes hosts k n ties hold step) (way_back nodes hosts m k ties hold way)

alone_run : (nodes : List TreeNode) (n : ℕ) → AreTied nodes → n < length nodes → (parent_link nodes n ≡ None) × (prev_link nodes n ≡ None) × (next_link nodes n ≡ None) → run_of (forest_of nodes) n ≡ n ∷ []
alone_run nodes n ties h alone =
    run_at nodes n h ∙ ap (λ o. run_under o (row_in nodes n)) alone.0
    ∙ row_is nodes n (n ∷ []) (lone_row (prev_link nodes) (next_link nodes) (length nodes) n h alone.1 alone.2)
    (elim (cases_Bool (n == n)) [ inl t ↦ rw t refl | inr f ↦ absurd (eqb-false n n f refl) ])

is_forest : (nodes : List TreeNode) (hosts : List (Option ℕ)) → LinksHold nodes → AreTied nodes → ContentsHold nodes hosts → ((n : ℕ) → Ends (parent_or_host nodes hosts) n) → IsForest (forest_of nodes)
is_forest nodes hosts links ties hold ends = record {
  once = once nodes ties;
  rooted = (let some = links.rooted in omega (arith, long nodes));
  alone = λ n h stay. (let here : n < length nodes = omega (arith, long nodes) in
      let alone = hold.alone n here (subst (λ contents. (n == 0 || option_map_or is_top (slice_get contents n) false) ≡ true) (contents_are nodes) stay) in
      (parent_is nodes n ties ∙ alone.0, alone_run nodes n ties here alone));
  parents_allow = λ p n e. (let some : parent_link nodes n ≡ Some p = sym (parent_is nodes n ties) ∙ e in
      ap (λ contents. option_map_or children_allowed (slice_get contents p) false) (contents_are nodes)
      ∙ at_link (parent_link nodes n) (λ k. option_map_or children_allowed (slice_get (contents_of nodes) k) false ≡ true) p (hold.allowed_by_parents n (ties.parent_known n p some).0) some);
  contents_known = λ n c e. (let its = HaveContents.known (have_contents nodes hosts hold) n c (contents_same nodes n c e) in
      (its.0, ap (λ contents. option_map_or is_fragment (slice_get contents c) false) (contents_are nodes) ∙ its.1));
  contents_once = λ m n c e f. (let two : Some m ≡ Some n = sym (HaveContents.known (have_contents nodes hosts hold) m c (contents_same nodes m c e)).2
      ∙ (HaveContents.known (have_contents nodes hosts hold) n c (contents_same nodes n c f)).2 in cc);
  acyclic = λ n round. no_return (parent_or_host nodes hosts) n (ends n) (way_back nodes hosts n n ties hold round);
}

pub accepted : (nodes : List TreeNode) (hosts : List (Option ℕ)) → LinksHold nodes → EachIndex nodes (λ n. IsLinked nodes n) → ((n : ℕ) → Ends (prev_link nodes) n) → ((n : ℕ) → Ends (parent_or_host nodes hosts) n) →
    ContentsHold nodes hosts → IsSoundArena nodes
accepted nodes hosts links linked rows steps hold =
    let ties = tied nodes links linked rows in
    record {
      arena = record { once = once nodes ties; links = are_links nodes links ties };
      forest = is_forest nodes hosts links ties hold steps;
      numbered = hold.numbered;
    }
