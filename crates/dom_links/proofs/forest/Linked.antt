-- A new node is pushed with the links of a last child, and then its neighbours name it.
use Rattle.std.proofs.Common.{ℕ, zero, suc, ◌≡◌, ◌<◌, ◌≤◌, ◌+◌, false, List, [], ◌∷◌, ◌++◌, Option, Some, None, refl, sym, ap, ◌∙◌, subst, arith, inl, inr, length, get_or}
use Rattle.std.specs.Prelude.{◌==◌, ◌&&◌, slice_get, option_and_then, if◌then◌else◌}
use Rattle.std.specs.Option.{IfSome, is_none}
use Rattle.std.proofs.lemmas.Bool.{cases_Bool, cases_lt, eqb-true, eqb-false, ne_eqb}
use Rattle.std.proofs.lemmas.List.{map-append, length_push}
use Rattle.std.proofs.lemmas.Option.{slice_get_past}
use Rattle.dom_nodes.specs.declared.node_data.NodeData.{NodeData}
use Rattle.dom_nodes.specs.declared.node_data.TreeNode.{TreeNode}
use Rattle.dom_nodes.specs.Kinds.{children_allowed}
use Rattle.dom_links.specs.Lists.{is_member, first, last, names}
use Rattle.dom_links.specs.Forest.{Forest, IsArenaOf, children_of, run_of, parent, forest_of, next_link, chain}
use Rattle.dom_links.specs.Moves.{end_of, put, moved_to}
use Rattle.dom_links.specs.Sound.{IsForest}
use Rattle.dom_links.specs.Growth.{new_node, with_node, with_child, Appended}
use Rattle.dom_links.specs.Writes.{Joined, LeftSet, LinkedLast, RightSet}
use Rattle.dom_links.specs.ListWrites.{ParentsSet, RunAttached, next_chain}
use Rattle.dom_links.proofs.moves.Cuts.{length-contents, one-stands}
use Rattle.dom_links.proofs.moves.Owners.{Alone}
use Rattle.dom_links.proofs.forest.Chains.{forest_of-arena}
use Rattle.dom_links.proofs.moves.Kept.{forest-moved}
use Rattle.dom_links.proofs.moves.BlockMoves.{run_put}
use Rattle.dom_links.proofs.moves.Attach.{last_known, read_last}
use Rattle.dom_links.proofs.forest.Grown.{children-more, link-more, link-new, test-more, once-more, forest-more, IsBare, created}
use Rattle.dom_links.proofs.forest.Appends.{detach-alone, new_alone, may_place_new}

-- ---- links of an arena with one node more

link-past : (field : TreeNode → Option ℕ) (nodes : List TreeNode) (n : ℕ) → length nodes ≤ n → option_and_then field (slice_get nodes n) ≡ None
link-past field nodes n h = ap (option_and_then field) (slice_get_past nodes n h)

-- a link that the new node has alike is the same for each number
alike : (field : TreeNode → Option ℕ) (nodes : List TreeNode) (a b : TreeNode) → field a ≡ field b → (n : ℕ) → option_and_then field (slice_get (nodes ++ a ∷ []) n) ≡ option_and_then field (slice_get (nodes ++ b ∷ []) n)
alike field [] a b e zero = e
alike field [] a b e (suc n) = refl
alike field (x ∷ nodes) a b e zero = refl
alike field (x ∷ nodes) a b e (suc n) = alike field nodes a b e n

-- any other is set at the new number alone
unlike : (field : TreeNode → Option ℕ) (nodes : List TreeNode) (a b : TreeNode) (link : Option ℕ) → field a ≡ link → (n : ℕ) →
    option_and_then field (slice_get (nodes ++ a ∷ []) n) ≡ (if length nodes == n then link else option_and_then field (slice_get (nodes ++ b ∷ []) n))
unlike field nodes a b link e n = elim (cases_Bool (length nodes == n)) [
  | inl t ↦ rw t (link-new field nodes a n (sym (eqb-true (length nodes) n t)) ∙ e)
  | inr f ↦ rw f (elim (cases_lt n (length nodes)) [
    | inl here ↦ link-more field nodes a n here ∙ sym (link-more field nodes b n here)
    | inr past ↦
        (let other = eqb-false (length nodes) n f in
        let long = length_push nodes a in
        let long' = length_push nodes b in
        let far : length nodes < n = omega (arith, other) in
        link-past field (nodes ++ a ∷ []) n (omega arith) ∙ sym (link-past field (nodes ++ b ∷ []) n (omega arith)))
  ])
]

-- ---- the node that is pushed, beside one that stands alone and one that names its parent

abbrev with_new : List TreeNode → Option ℕ → Option ℕ → NodeData → List TreeNode
with_new old parent prev content = old ++ new_node (length old) parent prev content ∷ []

long_same : (old : List TreeNode) (p q r s : Option ℕ) (content : NodeData) → length (with_new old p q content) ≡ length (with_new old r s content)
long_same old p q r s content = length_push old _ ∙ sym (length_push old _)

-- what follows the new node by next links is it alone
following_new : (old : List TreeNode) (p q : Option ℕ) (content : NodeData) → next_chain (with_new old p q content) (length old) ≡ length old ∷ []
following_new old p q content =
    rw (length_push old (new_node (length old) p q content), go (length old)) (ap (λ (o : Option ℕ). length old ∷ chain (next_link (with_new old p q content)) (length old) o) none ∙ ends (length old))
  where
    none : next_link (with_new old p q content) (length old) ≡ None
    none = link-new (λ node. node.next_sibling) old (new_node (length old) p q content) (length old) refl

    go : (n : ℕ) → n + 1 ≡ suc n
    go n = omega arith

    ends : (most : ℕ) → length old ∷ chain (next_link (with_new old p q content)) most None ≡ length old ∷ []
    ends zero = refl
    ends (suc most) = refl

parent_set : (old : List TreeNode) (t : ℕ) (content : NodeData) → ParentsSet (with_new old None None content) (with_new old (Some t) None content) (next_chain (with_new old None None content) (length old)) (Some t)
parent_set old t content = rw (following_new old None None content) record {
  same_length = long_same old _ _ _ _ content;
  contents = map-append (λ node. node.content) old _ ∙ sym (map-append (λ node. node.content) old _);
  ids = map-append (λ node. node.id) old _ ∙ sym (map-append (λ node. node.id) old _);
  parents = λ n. rw (one-stands (length old) n) (unlike (λ node. node.parent) old _ _ (Some t) refl n);
  prevs = alike (λ node. node.prev_sibling) old _ _ refl;
  nexts = alike (λ node. node.next_sibling) old _ _ refl;
  firsts = alike (λ node. node.first_child) old _ _ refl;
  lasts = alike (λ node. node.last_child) old _ _ refl;
}

joined_left : (old between : List TreeNode) (t : ℕ) (left : Option ℕ) (content : NodeData) → RightSet (with_new old (Some t) left content) between (Some t) left (Some (length old)) →
    Joined (with_new old (Some t) None content) between (Some t) left (Some (length old))
joined_left old between t left content set = record {
  same_length = set.same_length ∙ long_same old _ _ _ _ content;
  contents = set.contents ∙ map-append (λ node. node.content) old _ ∙ sym (map-append (λ node. node.content) old _);
  ids = set.ids ∙ map-append (λ node. node.id) old _ ∙ sym (map-append (λ node. node.id) old _);
  parents = λ n. set.parents n ∙ alike (λ node. node.parent) old _ _ refl n;
  nexts = λ n. set.nexts n ∙ ap (λ o. if names left n then Some (length old) else o) (alike (λ node. node.next_sibling) old _ _ refl n);
  prevs = λ n. set.prevs n ∙ unlike (λ node. node.prev_sibling) old _ _ left refl n;
  firsts = λ n. set.firsts n ∙ ap (λ o. if is_none left && names (Some t) n then Some (length old) else o) (alike (λ node. node.first_child) old _ _ refl n);
  lasts = λ n. set.lasts n ∙ alike (λ node. node.last_child) old _ _ refl n;
}

-- the sibling before the new node is another one
not_new : (left : Option ℕ) (x : ℕ) → IfSome left (λ m. m < x) → names left x ≡ false
not_new None x h = refl
not_new (Some m) x h = ne_eqb m x (λ e. omega (arith, e, h))

joined_right : (old between new : List TreeNode) (t : ℕ) (left : Option ℕ) (content : NodeData) → IfSome left (λ m. m < length old) →
    RightSet (with_new old (Some t) left content) between (Some t) left (Some (length old)) → LeftSet between new (Some t) None (Some (length old)) → Joined between new (Some t) (Some (length old)) None
joined_right old between new t left content known right set = record {
  same_length = set.same_length;
  contents = set.contents;
  ids = set.ids;
  parents = set.parents;
  nexts = λ n. set.nexts n ∙ elim (cases_Bool (length old == n)) [
    | inl is ↦ rw is (subst (λ (k : ℕ). next_link between k ≡ None) (eqb-true (length old) n is) none)
    | inr other ↦ rw other refl
  ];
  prevs = set.prevs;
  firsts = set.firsts;
  lasts = set.lasts;
}
  where
    none : next_link between (length old) ≡ None
    none = right.nexts (length old) ∙ rw (not_new left (length old) known) (link-new (λ node. node.next_sibling) old _ (length old) refl)

attached : (old new : List TreeNode) (t : ℕ) (left : Option ℕ) (content : NodeData) → IfSome left (λ m. m < length old) → LinkedLast (with_new old (Some t) left content) new t left (length old) →
    RunAttached (with_new old None None content) new (length old) (Some t) left None
attached old new t left content known links = record {
  end = length old;
  set = with_new old (Some t) None content;
  left_joined = links.0;
  parents_set = parent_set old t content;
  ends = ap last (following_new old None None content);
  on_left = joined_left old links.0 t left content links.1;
  on_right = joined_right old links.0 new t left content known links.1 links.2;
}

-- ---- the last child before it

pub last_was : (old : List TreeNode) (t at : ℕ) (node : TreeNode) → IsArenaOf (forest_of old) old → t < length old → at ≡ t → node ≡ get_or old at node → node.last_child ≡ last (children_of (forest_of old) t)
last_was old t at node arena known is read = ap (λ (x : TreeNode). x.last_child) read ∙ read_last (forest_of old) old at t node arena known is

pub last_there : (old : List TreeNode) (t more : ℕ) (left : Option ℕ) → IsArenaOf (forest_of old) old → left ≡ last (children_of (forest_of old) t) → length old ≤ more → IfSome left (λ m. m < more)
last_there old t more left arena is wide = wider left (last_known (forest_of old) old t left arena is)
  where
    wider : (o : Option ℕ) → IfSome o (λ m. m < length old) → IfSome o (λ m. m < more)
    wider None h = tt
    wider (Some m) h = omega arith

-- so it is the forest with one child more
linked_last : (old new : List TreeNode) (t : ℕ) (left : Option ℕ) (content : NodeData) → IsArenaOf (forest_of old) old → t < length old → left ≡ last (children_of (forest_of old) t) →
    LinkedLast (with_new old (Some t) left content) new t left (length old) → Appended old new t content
linked_last old new t left content arena known is links =
    let left_known = last_there old t (length old) left arena is (omega arith) in
    let forest = forest_of old in
    let long = length-contents forest old arena.links in
    let x = length old in
    let is_new : length forest.content ≡ x = sym long in
    let more = with_node content forest in
    let lone = with_new old None None content in
    let bare : IsBare (new_node x None None content) x content = record { id_is = refl; no_parent = refl; no_prev = refl; no_next = refl; no_first = refl; no_last = refl; content_is = refl } in
    let made = created old lone _ content arena bare refl in
    let alone = subst (Alone more) is_new (new_alone content forest arena.once) in
    let stands : IsArenaOf more lone = subst (λ (f : Forest). IsArenaOf f lone) made.made made.linked in
    let within : t < length lone = omega (arith, length_push old (new_node x None None content)) in
    let apart : is_member t (run_of more x) ≡ false = ap (is_member t) alone.alone ∙ one-stands x t ∙ ne_eqb x t (λ e. omega (arith, e)) in
    let ends : left ≡ last (children_of more t) = is ∙ ap last (sym (children-more content forest t)) in
    let put_there = run_put more lone new (end_of t) x (Some t) left None stands (record { no_parent = alone.no_parent; starts = ap first alone.alone }) within apart refl ends refl (attached old new t left content left_known links) in
    let there : IsArenaOf (with_child t content forest) new =
    subst (λ (ns : List ℕ). IsArenaOf (put (end_of t) ns more) new) (alone.alone ∙ ap (λ (k : ℕ). k ∷ []) (sym is_new)) put_there in
    let whole : moved_to (length forest.content ∷ []) (end_of t) more ≡ with_child t content forest =
    ap (put (end_of t) (length forest.content ∷ [])) (detach-alone more (length forest.content) (once-more content forest arena.once) (new_alone content forest arena.once)) in
    let is_so : forest_of new ≡ with_child t content forest = forest_of-arena (with_child t content forest) new there in
    record {
      made = is_so;
      linked = subst (λ (f : Forest). IsArenaOf f new) (sym is_so) there;
      kept = λ may good. (let grown = length_push forest.content content in
          let target = may.target_known in
          subst IsForest (whole ∙ sym is_so)
          (forest-moved more (end_of t) (length forest.content) (forest-more content forest good may.free) (omega arith) (omega arith)
          (test-more children_allowed forest.content content t may.open_here) (may_place_new content forest t good may)));
    }

pub linked_there : (old mid new : List TreeNode) (t x : ℕ) (left : Option ℕ) (content : NodeData) → IsArenaOf (forest_of old) old → t < length old → left ≡ last (children_of (forest_of old) t) →
    x ≡ length old → mid ≡ with_new old (Some t) left content → LinkedLast mid new t left x → Appended old new t content
linked_there old mid new t x left content arena known is number pushed links =
    linked_last old new t left content arena known is (subst (λ (k : ℕ). LinkedLast (with_new old (Some t) left content) new t left k) number (subst (λ (nodes : List TreeNode). LinkedLast nodes new t left x) pushed links))
