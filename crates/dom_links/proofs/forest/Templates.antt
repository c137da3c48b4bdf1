-- A node is made as the last child of another, and then a fragment, for its contents.
use Rattle.std.proofs.Common.{ℕ, zero, suc, ◌≡◌, ◌≢◌, ◌<◌, ◌≤◌, ◌+◌, Bool, true, false, List, [], ◌∷◌, ◌++◌, Some, refl, sym, ap, ◌∙◌, subst, arith, cond, inl, inr, ◌⊎◌, length, get_or, append_assoc}
use Rattle.std.specs.Prelude.{◌==◌, ◌||◌, slice_get, option_and_then}
use Rattle.std.specs.Option.{option_map_or}
use Rattle.std.proofs.lemmas.Bool.{cases_lt, ne_eqb, true≢false}
use Rattle.std.proofs.lemmas.List.{same_lists, get_or_default, length_push}
use Rattle.dom_nodes.specs.declared.node_data.NodeData.{NodeData}
use Rattle.dom_nodes.specs.declared.node_data.NodeData.TheVariants.{Fragment, Text}
use Rattle.dom_nodes.specs.declared.node_data.TreeNode.{TreeNode}
use Rattle.dom_nodes.specs.Kinds.{contents_named, is_fragment, is_top, children_allowed}
use Rattle.dom_links.specs.Lists.{is_member, map_from}
use Rattle.dom_links.specs.Forest.{Forest, StandsOnce, IsArenaOf, forest_of}
use Rattle.dom_links.specs.Moves.{end_of, children_with, run_with, put, moved_to}
use Rattle.dom_links.specs.Sound.{IsParentOrHost, IsHostAncestor, one_step, then_step, contents_at, stays, IsForest, Moved}
use Rattle.dom_links.specs.Growth.{with_node, with_child, with_lone_template, with_template, Created, CreatedTemplate, MayAppend, MayAppendTemplate, AppendedTemplate}
use Rattle.dom_links.proofs.forest.Places.{get_or-map_all, length-map_from}
use Rattle.dom_links.proofs.moves.Cuts.{length-contents, one-stands}
use Rattle.dom_links.proofs.moves.Owners.{Alone}
use Rattle.dom_links.proofs.forest.Climbs.{contents_at-known}
use Rattle.dom_links.proofs.moves.Kept.{forest-moved}
use Rattle.dom_links.proofs.forest.Depth.{parent_inside}
use Rattle.dom_links.proofs.forest.Grown.{within, get_or-before, get_or-there, run-more, slice_get-there, test-more, once-more, parent-more, contents-more, forest-more}
use Rattle.dom_links.proofs.forest.Appends.{detach-alone, new_alone, may_place_new}

-- ---- a node more does not matter to what is put elsewhere

put-more : (new : NodeData) (forest : Forest) (t n : ℕ) → StandsOnce forest → t < length forest.content → n < length forest.content →
    put (end_of t) (n ∷ []) (with_node new forest) ≡ with_node new (put (end_of t) (n ∷ []) forest)
put-more new forest t n once ht hn =
    let f : ℕ → List ℕ → List ℕ = children_with (end_of t) (n ∷ []) in
    let g : ℕ → List ℕ → List ℕ = λ m run. run_with (end_of t) (n ∷ []) (with_node new forest) m in
    let h : ℕ → List ℕ → List ℕ = λ m run. run_with (end_of t) (n ∷ []) forest m in
    let own : List ℕ = length forest.content ∷ [] in
    let children : map_from 0 f (forest.children ++ [] ∷ []) ≡ map_from 0 f forest.children ++ [] ∷ [] =
    same_lists _ _ (length-map_from 0 f (forest.children ++ [] ∷ []) ∙ length_push forest.children [] ∙ sym (length_push (map_from 0 f forest.children) [] ∙ ap (λ (k : ℕ). k + 1) (length-map_from 0 f forest.children)))
    (λ k d l. let within : k < length (forest.children ++ [] ∷ []) = omega (arith, l, length-map_from 0 f (forest.children ++ [] ∷ [])) in
    let more = length_push forest.children [] in
    get_or_default (map_from 0 f (forest.children ++ [] ∷ [])) k d [] l ∙ get_or-map_all f (forest.children ++ [] ∷ []) k within ∙ child k (omega arith)
    ∙ get_or_default (map_from 0 f forest.children ++ [] ∷ []) k [] d (omega (arith, length_push (map_from 0 f forest.children) [], length-map_from 0 f forest.children))) in
    let runs : map_from 0 g (forest.runs ++ own ∷ []) ≡ map_from 0 h forest.runs ++ own ∷ [] =
    same_lists _ _ (length-map_from 0 g (forest.runs ++ own ∷ []) ∙ length_push forest.runs own ∙ sym (length_push (map_from 0 h forest.runs) own ∙ ap (λ (k : ℕ). k + 1) (length-map_from 0 h forest.runs)))
    (λ k d l. let within : k < length (forest.runs ++ own ∷ []) = omega (arith, l, length-map_from 0 g (forest.runs ++ own ∷ [])) in
    let more = length_push forest.runs own in
    get_or_default (map_from 0 g (forest.runs ++ own ∷ [])) k d [] l ∙ get_or-map_all g (forest.runs ++ own ∷ []) k within ∙ run k (omega arith)
    ∙ get_or_default (map_from 0 h forest.runs ++ own ∷ []) k [] d (omega (arith, length_push (map_from 0 h forest.runs) own, length-map_from 0 h forest.runs))) in
    rw (children, runs) refl
  where
    child : (k : ℕ) → k ≤ length forest.children → children_with (end_of t) (n ∷ []) k (get_or (forest.children ++ [] ∷ []) k []) ≡ get_or (map_from 0 (children_with (end_of t) (n ∷ [])) forest.children ++ [] ∷ []) k []
    child k l =
        let f : ℕ → List ℕ → List ℕ = children_with (end_of t) (n ∷ []) in
        let long = length-map_from 0 f forest.children in
        elim (cases_lt k (length forest.children)) [
          | inl here ↦ ap (f k) (get_or-before forest.children [] k here) ∙ sym (get_or-before (map_from 0 f forest.children) [] k (omega (arith, long)) ∙ get_or-map_all f forest.children k here)
          | inr past ↦
              (let other : (k == t) ≡ false = ne_eqb k t (λ e. omega (arith, e, once.children_each)) in
              ap (f k) (get_or-there forest.children [] k (omega arith)) ∙ ap (λ (b : Bool). cond b ([] ++ n ∷ []) []) other ∙ sym (get_or-there (map_from 0 f forest.children) [] k (omega (arith, long))))
        ]

    run : (k : ℕ) → k ≤ length forest.runs → run_with (end_of t) (n ∷ []) (with_node new forest) k ≡ get_or (map_from 0 (λ m run. run_with (end_of t) (n ∷ []) forest m) forest.runs ++ (length forest.content ∷ []) ∷ []) k []
    run k l =
        let h : ℕ → List ℕ → List ℕ = λ m run. run_with (end_of t) (n ∷ []) forest m in
        let own : List ℕ = length forest.content ∷ [] in
        let long = length-map_from 0 h forest.runs in
        elim (cases_lt k (length forest.runs)) [
          | inl here ↦ ap (λ (ns : List ℕ). cond (is_member k (n ∷ [])) [] ns) (get_or-before forest.runs own k here) ∙ sym (get_or-before (map_from 0 h forest.runs) own k (omega (arith, long)) ∙ get_or-map_all h forest.runs k here)
          | inr past ↦
              (let other : is_member k (n ∷ []) ≡ false = one-stands n k ∙ ne_eqb n k (λ e. omega (arith, e, once.runs_each)) in
              ap (λ (b : Bool). cond b [] (get_or (forest.runs ++ own ∷ []) k [])) other ∙ get_or-there forest.runs own k (omega arith) ∙ sym (get_or-there (map_from 0 h forest.runs) own k (omega (arith, long))))
        ]

-- ---- a forest keeps being one where a node names contents that nobody else does

-- one of the list's elements is another
pub swapped : {X : Type 0} (xs ys : List X) (a b : X) (m : ℕ) → (slice_get (xs ++ a ∷ ys) m ≡ slice_get (xs ++ b ∷ ys) m) ⊎ ((m ≡ length xs) × (slice_get (xs ++ a ∷ ys) m ≡ Some a) × (slice_get (xs ++ b ∷ ys) m ≡ Some b))
swapped [] ys a b zero = inr (refl, refl, refl)
swapped [] ys a b (suc m) = inl refl
swapped (x ∷ xs) ys a b zero = inl refl
swapped (x ∷ xs) ys a b (suc m) = elim (swapped xs ys a b m) [ inl e ↦ inl e | inr p ↦ inr (ap suc p.0, p.1, p.2) ]

-- the data at n was that of a text, and names contents c, which nobody names and from where no step leads on
pub record Held (content : List NodeData) (forest : Forest) (data' : NodeData) (n c : ℕ) : Type 0 where
  pub long : length content ≡ length forest.content
  pub same : (m : ℕ) → (slice_get content m ≡ slice_get forest.content m) ⊎ ((m ≡ n) × (slice_get content m ≡ Some data') × (slice_get forest.content m ≡ Some (Text [])))
  pub no_top : is_top data' ≡ false
  pub named : contents_named data' ≡ Some c
  pub not_root : c ≢ 0
  pub fragment : option_map_or is_fragment (slice_get forest.content c) false ≡ true
  pub unnamed : (m : ℕ) → contents_at forest m ≡ Some c → ⊥
  pub ends : (k : ℕ) → IsParentOrHost forest c k → ⊥
  pub apart : n ≢ c

abbrev changed : List NodeData → Forest → Forest
changed content forest = record { content = content; children = forest.children; runs = forest.runs }

held_contents : (content : List NodeData) (forest : Forest) (a : NodeData) (n c : ℕ) → Held content forest a n c → (m d : ℕ) → contents_at (changed content forest) m ≡ Some d → (contents_at forest m ≡ Some d) ⊎ ((m ≡ n) × (d ≡ c))
held_contents content forest a n c h m d e = elim (h.same m) [
  | inl same ↦ inl (ap (option_and_then contents_named) (sym same) ∙ e)
  | inr other ↦ (let both : Some d ≡ Some c = sym e ∙ ap (option_and_then contents_named) other.1 ∙ h.named in inr (other.0, cc))
]

held_step : (content : List NodeData) (forest : Forest) (a : NodeData) (n c : ℕ) → Held content forest a n c → (m k : ℕ) → IsParentOrHost (changed content forest) m k → IsParentOrHost forest m k ⊎ ((m ≡ n) × (k ≡ c))
held_step content forest a n c h m k (inl p) = inl (inl p)
held_step content forest a n c h m k (inr e) = elim (held_contents content forest a n c h m k e) [ inl old ↦ inl (inr old) | inr new ↦ inr new ]

held_ends : (content : List NodeData) (forest : Forest) (a : NodeData) (n c : ℕ) → Held content forest a n c → (m k : ℕ) → IsHostAncestor (changed content forest) m k → m ≡ c → ⊥
held_ends content forest a n c h _ _ (one_step m k s) e = elim (held_step content forest a n c h m k s) [
  | inl old ↦ h.ends k (subst (λ (x : ℕ). IsParentOrHost forest x k) e old)
  | inr new ↦ h.apart (sym new.0 ∙ e)
]
held_ends content forest a n c h _ _ (then_step m j k way s) e = held_ends content forest a n c h m j way e

held_way : (content : List NodeData) (forest : Forest) (a : NodeData) (n c : ℕ) → Held content forest a n c → (m k : ℕ) → IsHostAncestor (changed content forest) m k → IsHostAncestor forest m k ⊎ (k ≡ c)
held_way content forest a n c h _ _ (one_step m k s) = elim (held_step content forest a n c h m k s) [ inl old ↦ inl (one_step m k old) | inr new ↦ inr new.1 ]
held_way content forest a n c h _ _ (then_step m j k way s) = elim (held_step content forest a n c h j k s) [
  | inr new ↦ inr new.1
  | inl old ↦ elim (held_way content forest a n c h m j way) [
    | inl before ↦ inl (then_step m j k before old)
    | inr end ↦ absurd (h.ends k (subst (λ (x : ℕ). IsParentOrHost forest x k) end old))
  ]
]

held_fragment : (content : List NodeData) (forest : Forest) (a : NodeData) (n c : ℕ) → Held content forest a n c → (d : ℕ) → option_map_or is_fragment (slice_get forest.content d) false ≡ true → option_map_or is_fragment (slice_get content d) false ≡ true
held_fragment content forest a n c h d e = elim (h.same d) [
  | inl same ↦ ap (λ o. option_map_or is_fragment o false) same ∙ e
  | inr other ↦ absurd (true≢false (sym e ∙ ap (λ o. option_map_or is_fragment o false) other.2))
]

held_stays : (content : List NodeData) (forest : Forest) (a : NodeData) (n c : ℕ) → Held content forest a n c → (m : ℕ) → stays (changed content forest) m ≡ true → stays forest m ≡ true
held_stays content forest a n c h m s = elim (h.same m) [
  | inl same ↦ ap (λ o. (m == 0) || option_map_or is_top o false) (sym same) ∙ s
  | inr other ↦ ap (λ o. (m == 0) || option_map_or is_top o false) other.2 ∙ sym (ap (λ o. (m == 0) || option_map_or is_top o false) other.1 ∙ ap (λ (b : Bool). (m == 0) || b) h.no_top) ∙ s
]

once-changed : (content : List NodeData) (forest : Forest) → StandsOnce forest → length content ≡ length forest.content → StandsOnce (changed content forest)
once-changed content forest once long = record {
  children_each = once.children_each ∙ sym long;
  runs_each = once.runs_each ∙ sym long;
  placed = λ n h. once.placed n (omega (arith, h, long));
  in_children = λ p n s. (let facts = once.in_children p n s in (omega (arith, facts.0, long), facts.1));
  in_run = λ m n s. (let facts = once.in_run m n s in (omega (arith, facts.0, long), facts.1, facts.2));
  children_once = once.children_once;
  run_once = once.run_once;
  no_run = once.no_run;
}

pub held_forest : (content : List NodeData) (forest : Forest) (a : NodeData) (n c : ℕ) → IsForest forest → Held content forest a n c → IsForest (changed content forest)
held_forest content forest a n c good h = record {
  once = once-changed content forest good.once h.long;
  rooted = omega (arith, good.rooted, h.long);
  alone = λ m l s. good.alone m (omega (arith, l, h.long)) (held_stays content forest a n c h m s);
  parents_allow = λ p m some. elim (h.same p) [
    | inl same ↦ ap (λ o. option_map_or children_allowed o false) same ∙ good.parents_allow p m some
    | inr other ↦ absurd (true≢false (sym (good.parents_allow p m some) ∙ ap (λ o. option_map_or children_allowed o false) other.2))
  ];
  contents_known = λ m d e. elim (held_contents content forest a n c h m d e) [
    | inl old ↦ (let facts = good.contents_known m d old in (facts.0, held_fragment content forest a n c h d facts.1))
    | inr new ↦ ((λ zero_is. h.not_root (sym new.1 ∙ zero_is)), subst (λ (x : ℕ). option_map_or is_fragment (slice_get content x) false ≡ true) (sym new.1) (held_fragment content forest a n c h c h.fragment))
  ];
  contents_once = λ m k d e f. elim (held_contents content forest a n c h m d e) [
    | inl old ↦ elim (held_contents content forest a n c h k d f) [
      | inl also ↦ good.contents_once m k d old also
      | inr new ↦ absurd (h.unnamed m (old ∙ ap Some new.1))
    ]
    | inr new ↦ elim (held_contents content forest a n c h k d f) [
      | inl old ↦ absurd (h.unnamed k (old ∙ ap Some new.1))
      | inr also ↦ new.0 ∙ sym also.0
    ]
  ];
  acyclic = λ m way. elim (held_way content forest a n c h m m way) [
    | inl old ↦ good.acyclic m old
    | inr end ↦ held_ends content forest a n c h m m way end
  ];
}

-- ---- the node and the fragment

pub child_kept : (forest : Forest) (t : ℕ) (content : NodeData) → IsForest forest → MayAppend forest t content → IsForest (with_child t content forest)
child_kept forest t content good may =
    let n = length forest.content in
    let more = length_push forest.content content in
    let known = may.target_known in
    let whole : moved_to (n ∷ []) (end_of t) (with_node content forest) ≡ with_child t content forest =
    ap (put (end_of t) (n ∷ [])) (detach-alone (with_node content forest) n (once-more content forest good.once) (new_alone content forest good.once)) in
    subst IsForest whole
    (forest-moved (with_node content forest) (end_of t) n (forest-more content forest good may.free) (omega arith) (omega arith)
    (test-more children_allowed forest.content content t may.open_here) (may_place_new content forest t good may))

pub no_contents : (forest : Forest) (m c : ℕ) → length forest.content ≤ m → contents_at (with_node Fragment forest) m ≡ Some c → ⊥
no_contents forest m c past e = elim (contents-more Fragment forest m c e) [
  | inl old ↦ (let known = contents_at-known forest m c old in absurd (omega arith))
  | inr new ↦ (let is = new.1 in cc)
]

-- a text at the end gives way to a node with contents, and the fragment that these are comes behind it
filled : (xs : List NodeData) (children runs : List (List ℕ)) (content : NodeData) → IsForest (record { content = xs ++ Text [] ∷ []; children = children; runs = runs }) →
    is_top content ≡ false → contents_named content ≡ Some (length xs + 1) →
    IsForest (with_node Fragment (record { content = xs ++ content ∷ []; children = children; runs = runs }))
filled xs children runs content good no_top named =
    let n = length xs in
    let plain : NodeData = Text [] in
    let inner : Forest = record { content = xs ++ plain ∷ []; children = children; runs = runs } in
    let outer : Forest = with_node Fragment inner in
    let whole : IsForest outer = forest-more Fragment inner good (λ c e. cc) in
    let more = length_push xs plain in
    let other = length_push xs content in
    let all : List NodeData = (xs ++ content ∷ []) ++ Fragment ∷ [] in
    let one : all ≡ xs ++ content ∷ (Fragment ∷ []) = append_assoc xs (content ∷ []) (Fragment ∷ []) in
    let two : outer.content ≡ xs ++ plain ∷ (Fragment ∷ []) = append_assoc xs (plain ∷ []) (Fragment ∷ []) in
    let held : Held all outer content n (n + 1) = record {
      long = length_push (xs ++ content ∷ []) Fragment ∙ (omega (arith, more, other, length_push (xs ++ plain ∷ []) Fragment));
      same = λ m. rw (one, two) (swapped xs (Fragment ∷ []) content plain m);
      no_top = no_top;
      named = named;
      not_root = λ e. absurd (omega (arith, e));
      fragment = ap (λ o. option_map_or is_fragment o false) (slice_get-there (xs ++ plain ∷ []) Fragment (n + 1) (omega (arith, more)));
      unnamed = λ m e. elim (contents-more Fragment inner m (n + 1) e) [
        | inl old ↦ (let known = within is_fragment inner.content (n + 1) (good.contents_known m (n + 1) old).1 in absurd (omega (arith, more)))
        | inr new ↦ (let is = new.1 in cc)
      ];
      ends = λ k s. elim s [
        | inl up ↦ (let known = parent_inside inner k (n + 1) good (sym (parent-more Fragment inner k) ∙ up) in absurd (omega (arith, more)))
        | inr has ↦ no_contents inner (n + 1) k (omega (arith, more)) has
      ];
      apart = λ e. absurd (omega (arith, e));
    } in
    let same : length (xs ++ plain ∷ []) ≡ length (xs ++ content ∷ []) = more ∙ sym other in
    let build : ℕ → Forest = λ k. record { content = all; children = outer.children; runs = runs ++ (k ∷ []) ∷ [] } in
    subst IsForest (ap build same) (held_forest all outer content n (n + 1) whole held)

pub template_kept : (forest : Forest) (t : ℕ) (content : NodeData) → IsForest forest → MayAppendTemplate forest t content → IsForest (with_template t content forest)
template_kept forest t content good may =
    let inner : Forest = with_child t (Text []) forest in
    let fine : MayAppend forest t (Text []) = record { target_known = may.target_known; open_here = may.open_here; no_top = refl; free = λ c e. cc; apart = λ c e. cc } in
    filled forest.content inner.children inner.runs content (child_kept forest t (Text []) good fine) may.no_top may.named

-- the same where both stand alone
pub lone_template_kept : (forest : Forest) (content : NodeData) → IsForest forest → is_top content ≡ false → contents_named content ≡ Some (length forest.content + 1) → IsForest (with_node Fragment (with_node content forest))
lone_template_kept forest content good no_top named =
    let inner : Forest = with_node (Text []) forest in
    filled forest.content inner.children inner.runs content (forest-more (Text []) forest good (λ c e. cc)) no_top named

pub appended_template : (old mid one new : List TreeNode) (t x : ℕ) (content : NodeData) → IsArenaOf (forest_of old) old → x ≡ length old → t < length old → Created old mid content → Created mid one Fragment → Moved one new (end_of t) x →
    AppendedTemplate old new t content
appended_template old mid one new t x content arena number target created' second moved =
    let forest = forest_of old in
    let n = length forest.content in
    let made : Forest = with_node content forest in
    let long = length-contents forest old arena.links in
    let more = length_push forest.content content in
    let once : StandsOnce made = once-more content forest arena.once in
    let is_new : x ≡ n = omega arith in
    let lone = new_alone content forest arena.once in
    let still : Alone (with_node Fragment made) n = record {
      known = omega (arith, more, length_push made.content Fragment);
      no_parent = parent-more Fragment made n ∙ lone.no_parent;
      alone = run-more Fragment made n once (omega (arith, more)) ∙ lone.alone;
    } in
    let two : forest_of one ≡ with_node Fragment made = second.made ∙ ap (with_node Fragment) created'.made in
    let whole : moved_to (n ∷ []) (end_of t) (with_node Fragment made) ≡ with_template t content forest =
    ap (put (end_of t) (n ∷ [])) (detach-alone (with_node Fragment made) n (once-more Fragment made once) still) ∙ put-more Fragment made t n once (omega (arith, more)) (omega (arith, more)) in
    let is : forest_of new ≡ with_template t content forest = moved.made ∙ ap (λ (k : ℕ). moved_to (k ∷ []) (end_of t) (forest_of one)) is_new ∙ ap (moved_to (n ∷ []) (end_of t)) two ∙ whole in
    record {
      made = is;
      linked = moved.linked;
      kept = λ may good. subst IsForest (sym is) (template_kept forest t content good may);
    }

pub created_template : (old mid new : List TreeNode) (content : NodeData) → Created old mid content → Created mid new Fragment → CreatedTemplate old new content
created_template old mid new content first second =
    let is : forest_of new ≡ with_lone_template content (forest_of old) = second.made ∙ ap (with_node Fragment) first.made in
    record {
      made = is;
      linked = second.linked;
      kept = λ may good. subst IsForest (sym is) (lone_template_kept (forest_of old) content good may.0 may.1);
    }
