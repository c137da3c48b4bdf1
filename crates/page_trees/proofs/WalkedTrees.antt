-- Walking a forest whose nodes are those of the definition gives the trees of the definition.
use Rattle.std.proofs.Common.{◌≡◌, ℕ, suc, zero, ◌+◌, ◌<◌, ◌≤◌, ◌==◌, ◌||◌, ◌⊎◌, Bool, true, false, List, [], ◌∷◌, refl, sym, ap, subst, ◌∙◌, length, Option, Some, None, arith, inl, inr, true≢false}
use Rattle.std.specs.Prelude.{slice_get}
use Rattle.std.specs.Option.{option_map_or}
use Rattle.std.proofs.lemmas.Bool.{cases_Bool, cases_lt, eq-eqb, eqb-true, or_cases}
use Rattle.std.proofs.lemmas.Option.{none-some}
use Rattle.dom_nodes.specs.Kinds.{is_top}
use Rattle.dom_nodes.specs.declared.node_data.NodeData.{NodeData}
use Rattle.dom_links.specs.Forest.{Forest, children_of, parent}
use Rattle.dom_links.specs.Lists.{IsDistinct, is_member}
use Rattle.dom_links.specs.Sound.{IsForest, IsHostAncestor, contents_at, one_step, stays, then_step}
use Rattle.dom_links.proofs.forest.Chains.{length_below}
use Rattle.standard_trees.specs.TreeStore.{CommentNode, ContentsNode, DoctypeNode, DocumentNode, ElementNode, Kind, Node, TextNode, Trees, contents_in, contents_tree}
use Rattle.standard_trees.specs.TreeStore.{node_at, tree_of_node, trees_from, trees_of}
use Rattle.page_trees.specs.DocumentTrees.{AreTrees, held_in}
use Rattle.page_trees.specs.SameNodes.{AreNodes, IsKind}
use Rattle.page_trees.proofs.StandingNodes.{children_is, contents_is, kind_is, same_length}

-- ---- what is below the nodes of a path

-- a node with a parent, below each node of the path
record IsPlaced (f : Forest) (path : List ℕ) (n : ℕ) : Type 0 where
  known : n < length f.content
  up : ℕ
  held : parent f n ≡ Some up
  under : (m : ℕ) → is_member m path ≡ true → IsHostAncestor f m n

-- the nodes of a path, which are distinct
record IsPath (f : Forest) (path : List ℕ) : Type 0 where
  once : IsDistinct path
  known : (m : ℕ) → is_member m path ≡ true → m < length f.content

abbrev ArePlaced : Forest → List ℕ → List ℕ → Type 0
ArePlaced f path ns = (n : ℕ) → is_member n ns ≡ true → IsPlaced f path n

-- a node is not below itself
apart : (f : Forest) (path : List ℕ) (n : ℕ) → IsForest f → IsPlaced f path n → is_member n path ≡ false
apart f path n good placed = elim (cases_Bool (is_member n path)) [
  | inl t ↦ absurd (good.acyclic n (placed.under n t))
  | inr none ↦ none
]

path_longer : (f : Forest) (path : List ℕ) (n : ℕ) → IsForest f → IsPath f path → IsPlaced f path n → IsPath f (n ∷ path)
path_longer f path n good is placed = record {
  once = (apart f path n good placed, is.once);
  known = λ m stands. elim (or_cases (n == m) (is_member m path) stands) [
    | inl here ↦ subst (λ (k : ℕ). k < length f.content) (eqb-true n m here) placed.known
    | inr later ↦ is.known m later
  ];
}

-- the children of a node, or of its template contents, are below it
below : (f : Forest) (path : List ℕ) (n q : ℕ) → IsForest f → IsPlaced f path n → ((n ≡ q) ⊎ (contents_at f n ≡ Some q)) → ArePlaced f (n ∷ path) (children_of f q)
below f path n q good placed from k stands =
    let facts = good.once.in_children q k stands in
    record {
      known = facts.0;
      up = q;
      held = facts.1;
      under = λ m at. elim (or_cases (n == m) (is_member m path) at) [
        | inl here ↦ subst (λ (a : ℕ). IsHostAncestor f a k) (eqb-true n m here) (down from facts.1)
        | inr later ↦ after m (placed.under m later) from facts.1
      ];
    }
  where
    down : ((n ≡ q) ⊎ (contents_at f n ≡ Some q)) → parent f k ≡ Some q → IsHostAncestor f n k
    down (inl same) up = subst (λ (a : ℕ). IsHostAncestor f a k) (sym same) (one_step q k (inl up))
    down (inr held) up = then_step n q k (one_step n q (inr held)) (inl up)

    after : (m : ℕ) → IsHostAncestor f m n → ((n ≡ q) ⊎ (contents_at f n ≡ Some q)) → parent f k ≡ Some q → IsHostAncestor f m k
    after m way (inl same) up = then_step m n k way (inl (up ∙ ap (λ (a : ℕ). Some a) (sym same)))
    after m way (inr held) up = then_step m q k (then_step m n q way (inr held)) (inl up)

stays_top : (f : Forest) (n : ℕ) (c : NodeData) → slice_get f.content n ≡ Some c → is_top c ≡ true → stays f n ≡ true
stays_top f n c got top = by (n == 0) (ap (λ o. option_map_or is_top o false) got ∙ top)
  where
    by : (b : Bool) → option_map_or is_top (slice_get f.content n) false ≡ true → (b || option_map_or is_top (slice_get f.content n) false) ≡ true
    by true h = refl
    by false h = h

-- no node with a parent is a document or a fragment
no_top : (f : Forest) (path : List ℕ) (n : ℕ) (c : NodeData) → IsForest f → IsPlaced f path n → slice_get f.content n ≡ Some c → is_top c ≡ true → ⊥
no_top f path n c good placed got top =
    none-some placed.up (sym (good.alone n placed.known (stays_top f n c got top)).0 ∙ placed.held)

-- ---- one node

-- what the node holds is walked
record IsWalkedBelow (f : Forest) (nodes : List Node) (under : List ℕ → Trees) (n : ℕ) (kind : Kind) (children : List ℕ) : Type 0 where
  children_walked : AreTrees f (children_of f n) (under children)
  contents_walked : (c : ℕ) → contents_in kind ≡ Some c → AreTrees f (children_of f c) (under (node_at nodes c).children)

held_walked : (f : Forest) (nodes : List Node) (under : List ℕ → Trees) (contents : Option ℕ) →
    ((c : ℕ) → contents ≡ Some c → AreTrees f (children_of f c) (under (node_at nodes c).children)) → AreTrees f (held_in f contents) (contents_tree under nodes contents)
held_walked f nodes under None walked = refl
held_walked f nodes under (Some c) walked = walked c refl

node_walked : (f : Forest) (path : List ℕ) (nodes : List Node) (under : List ℕ → Trees) (n : ℕ) (ns : List ℕ) (kind : Kind) (children : List ℕ) (c : NodeData) (later : Trees) → IsForest f →
    IsPlaced f path n → slice_get f.content n ≡ Some c → IsKind kind c → IsWalkedBelow f nodes under n kind children → AreTrees f ns later →
    AreTrees f (n ∷ ns) (tree_of_node under nodes (record { kind = kind; children = children }) later)
node_walked f path nodes under n ns (ElementNode space name attrs contents) children c later good placed got is walked rest =
    (n, ns, contents, record { first = refl; content = c; got = got; is = is }, held_walked f nodes under contents walked.contents_walked, walked.children_walked, rest)
node_walked f path nodes under n ns (TextNode text) children c later good placed got is walked rest = (n, ns, record { first = refl; content = c; got = got; is = is }, rest)
node_walked f path nodes under n ns (CommentNode text) children c later good placed got is walked rest = (n, ns, record { first = refl; content = c; got = got; is = is }, rest)
node_walked f path nodes under n ns (DoctypeNode d) children c later good placed got is walked rest = (n, ns, record { first = refl; content = c; got = got; is = is }, rest)
node_walked f path nodes under n ns DocumentNode children c later good placed got is walked rest = absurd (no_top f path n c good placed got is)
node_walked f path nodes under n ns ContentsNode children c later good placed got is walked rest = absurd (no_top f path n c good placed got (ap is_top is))

-- ---- the nodes below a path

first_member : (n : ℕ) (ns : List ℕ) → is_member n (n ∷ ns) ≡ true
first_member n ns = ap (λ b. b || is_member n ns) (eq-eqb n n refl)

later_member : (n m : ℕ) (ns : List ℕ) → is_member m ns ≡ true → is_member m (n ∷ ns) ≡ true
later_member n m ns stands = by (n == m)
  where
    by : (b : Bool) → (b || is_member m ns) ≡ true
    by true = refl
    by false = stands

-- no path is as long as that, unless nothing is below it
no_room : (f : Forest) (path ns : List ℕ) → IsForest f → IsPath f path → ArePlaced f path ns → length f.content < length path + 1 → ns ≡ []
no_room f path [] good is placed long = refl
no_room f path (n ∷ ns) good is placed long =
    let more = path_longer f path n good is (placed n (first_member n ns)) in
    let few : length (n ∷ path) ≤ length f.content = length_below (n ∷ path) (length f.content) more.once more.known in
    absurd (omega (arith, few, long))

walked_to : (depth : ℕ) (nodes : List Node) (f : Forest) (path ns : List ℕ) → IsForest f → AreNodes nodes f → IsPath f path → ArePlaced f path ns → length f.content < depth + length path →
    AreTrees f ns (trees_of depth nodes ns)
walked_to zero nodes f path ns good are is placed deep = no_room f path ns good is placed (omega (arith, deep))
walked_to (suc depth) nodes f path [] good are is placed deep = refl
walked_to (suc depth) nodes f path (n ∷ ns) good are is placed deep =
    let here : IsPlaced f path n = placed n (first_member n ns) in
    let more : IsPath f (n ∷ path) = path_longer f path n good is here in
    let found = kind_is nodes f n are here.known in
    let deeper : length f.content < depth + length (n ∷ path) = omega (arith, deep) in
    let under : List ℕ → Trees = trees_of depth nodes in
    let walk : (q : ℕ) → ((n ≡ q) ⊎ (contents_at f n ≡ Some q)) → AreTrees f (children_of f q) (under (node_at nodes q).children) = λ q from.
    subst (λ (ks : List ℕ). AreTrees f (children_of f q) (under ks)) (sym (children_is nodes f are q))
    (walked_to depth nodes f (n ∷ path) (children_of f q) good are more (below f path n q good here from) deeper) in
    node_walked f path nodes under n ns (node_at nodes n).kind (node_at nodes n).children found.0 (trees_from under nodes ns) good here found.1 found.2
    (record { children_walked = walk n (inl refl); contents_walked = λ c held. walk c (inr (sym (contents_is nodes f are n) ∙ held)) })
    (walked_to (suc depth) nodes f path ns good are is (λ m stands. placed m (later_member n m ns stands)) deep)

-- ---- below one node

top_path : (f : Forest) (q : ℕ) → q < length f.content → IsPath f (q ∷ [])
top_path f q known = record {
  once = (refl, tt);
  known = λ m stands. elim (or_cases (q == m) false stands) [
    | inl here ↦ subst (λ (k : ℕ). k < length f.content) (eqb-true q m here) known
    | inr later ↦ absurd (true≢false (sym later))
  ];
}

top_placed : (f : Forest) (q : ℕ) → IsForest f → ArePlaced f (q ∷ []) (children_of f q)
top_placed f q good k stands =
    let facts = good.once.in_children q k stands in
    record {
      known = facts.0;
      up = q;
      held = facts.1;
      under = λ m at. elim (or_cases (q == m) false at) [
        | inl here ↦ subst (λ (a : ℕ). IsHostAncestor f a k) (eqb-true q m here) (one_step q k (inl facts.1))
        | inr later ↦ absurd (true≢false (sym later))
      ];
    }

past_children : (nodes : List Node) (q : ℕ) → length nodes ≤ q → (node_at nodes q).children ≡ []
past_children [] q past = refl
past_children (node ∷ nodes) zero past = absurd (omega (arith, past))
past_children (node ∷ nodes) (suc q) past = past_children nodes q (omega (arith, past))

none_walked : (f : Forest) (nodes : List Node) (depth : ℕ) → AreTrees f [] (trees_of depth nodes [])
none_walked f nodes zero = refl
none_walked f nodes (suc depth) = refl

walked_past : (nodes : List Node) (f : Forest) (q depth : ℕ) → AreNodes nodes f → length nodes ≤ q → AreTrees f (children_of f q) (trees_of depth nodes (node_at nodes q).children)
walked_past nodes f q depth are past =
    let none : (node_at nodes q).children ≡ [] = past_children nodes q past in
    subst (λ (ns : List ℕ). AreTrees f ns (trees_of depth nodes (node_at nodes q).children)) (sym none ∙ children_is nodes f are q)
    (subst (λ (ks : List ℕ). AreTrees f [] (trees_of depth nodes ks)) (sym none) (none_walked f nodes depth))

pub walked : (nodes : List Node) (f : Forest) (q : ℕ) → IsForest f → AreNodes nodes f → AreTrees f (children_of f q) (trees_of (length nodes) nodes (node_at nodes q).children)
walked nodes f q good are = elim (cases_lt q (length f.content)) [
  | inl known ↦ subst (λ (ks : List ℕ). AreTrees f (children_of f q) (trees_of (length nodes) nodes ks)) (sym (children_is nodes f are q))
      (walked_to (length nodes) nodes f (q ∷ []) (children_of f q) good are (top_path f q known) (top_placed f q good) (omega (arith, same_length nodes f are)))
  | inr past ↦ walked_past nodes f q (length nodes) are (omega (arith, past, same_length nodes f are))
]
