-- What the edges of a tree add to its formatted text.
use Rattle.std.proofs.Common.{◌≡◌, ℕ, ◌+◌, ◌<◌, ◌≤◌, Bool, true, false, List, [], ◌∷◌, ◌++◌, length, Some, refl, sym, ◌∙◌, ap, subst, arith, append_assoc, append-nil, slice_get, zero, suc, inl, inr}
use Rattle.std.specs.Prelude.{codes, ◌==◌}
use Rattle.std.specs.Str.{bytes_eq}
use Rattle.std.proofs.lemmas.Bool.{cases_Bool, eqb-true, eq-eqb, or_left, or_right}
use Rattle.std.proofs.lemmas.Grind.{flat_map-append}
use Rattle.std.proofs.lemmas.Option.{slice_get_cases, slice_get_past, slice_get_within}
use Rattle.std.specs.Option.{option_map_or}
use Rattle.dom_nodes.specs.Kinds.{children_allowed, is_top}
use Rattle.dom_nodes.specs.declared.node_data.NodeData.{NodeData}
use Rattle.dom_nodes.specs.declared.node_data.NodeData.TheVariants.{Document, Fragment, Doctype, Text, Comment, Element as AnElement, ProcessingInstruction}
use Rattle.dom_nodes.specs.declared.node_data.TreeNode.{TreeNode}
use Rattle.dom_nodes.specs.Elements.{Element}
use Rattle.dom_links.specs.Forest.{Forest, children_of}
use Rattle.dom_links.specs.Lists.{is_member}
use Rattle.dom_links.specs.Sound.{IsForest, children_allowed_at}
use Rattle.dom_links.specs.Texts.{text_of}
use Rattle.dom_links.specs.Trees.{contents_list, trees, trees_to}
use Rattle.dom_links.specs.Walk.{IsNodeOf}
use Rattle.dom_links.specs.Weights.{trees_weight}
use Rattle.dom_links.proofs.forest.Depth.{trees-none, trees-some}
use Rattle.dom_links.proofs.forest.Nodes.{children_past}
use Rattle.dom_trees.specs.Views.{node_is}
use Rattle.dom_links.specs.Edges.{child_edges, edges, edges_inside, mark_below, mark_of, node_edges}
use Rattle.dom_links.specs.declared.edges.Edge.{Edge}
use Rattle.dom_links.specs.declared.edges.Edge.TheVariants.{Close}
use Rattle.dom_md.specs.Formatted.{Event, events, events_below, folded, formatted_node, joined_texts, node_events, step}
use Rattle.dom_md.specs.Formatted.Event.{opens, closes, has_text, keeps_text}
use Rattle.dom_md.specs.EdgeEvents.{AreUtf8, IsFolded, IsPartFolded, close_events, edge_events, edges_events, open_events, outside_pre}

folded-append : (old : List ℕ) (xs ys : List Event) → folded old (xs ++ ys) ≡ folded (folded old xs) ys
folded-append old [] ys = refl
folded-append old (x ∷ xs) ys = folded-append (step old x) xs ys

utf8-append : (xs ys : List Event) → AreUtf8 xs → AreUtf8 ys → AreUtf8 (xs ++ ys)
utf8-append [] ys x y = y
utf8-append (has_text t ∷ xs) ys x y = (x.0, utf8-append xs ys x.1 y)
utf8-append (keeps_text t ∷ xs) ys x y = (x.0, utf8-append xs ys x.1 y)
utf8-append (opens t ∷ xs) ys x y = utf8-append xs ys x y
utf8-append (closes t ∷ xs) ys x y = utf8-append xs ys x y

-- ---- edge by edge

pub begun : (forest : Forest) (es : List Edge) (text : List ℕ) → text ≡ [] → IsPartFolded [] text (edges_events forest es) (edges_events forest es)
begun forest es text empty = record { is = ap (λ t. folded t (edges_events forest es)) empty; utf8 = λ valid. valid }

pub stepped : (forest : Forest) (before after : List Edge) (edge : Edge) (at next : List ℕ) (whole : List Event) → before ≡ edge ∷ after →
    IsFolded at next (edge_events forest edge) → IsPartFolded [] at whole (edges_events forest before) → IsPartFolded [] next whole (edges_events forest after)
stepped forest before after edge at next whole same done part =
    let mine = edge_events forest edge in
    let others = edges_events forest after in
    let split : edges_events forest before ≡ mine ++ others = ap (edges_events forest) same in
    record {
      is = ap (λ t. folded t others) done.is ∙ (sym (folded-append at mine others) ∙ (ap (folded at) (sym split) ∙ part.is));
      utf8 = λ valid. part.utf8 (subst AreUtf8 (sym split) (utf8-append mine others done.utf8 valid));
    }

pub ended : (forest : Forest) (es : List Edge) (now : List ℕ) (whole : List Event) → es ≡ [] → IsPartFolded [] now whole (edges_events forest es) → IsFolded [] now whole
ended forest es now whole none part = record {
  is = sym (ap (λ o. folded now (edges_events forest o)) none) ∙ part.is;
  utf8 = part.utf8 (subst (λ o. AreUtf8 (edges_events forest o)) (sym none) tt);
}

-- ---- the edges of trees have their events

abbrev KnownNodes : Forest → List ℕ → Type 0
KnownNodes forest ns = (m : ℕ) → is_member m ns ≡ true → m < length forest.content

-- only documents, fragments and elements have something below them
childless : (forest : Forest) (n : ℕ) → IsForest forest → children_allowed_at forest n ≡ false → events_below forest n ≡ []
childless forest n good shut = ap (λ ns. events forest (trees forest ns)) (none (children_of forest n) refl) ∙ ap (events forest) (trees-none forest)
  where
    none : (ns : List ℕ) → children_of forest n ≡ ns → ns ≡ []
    none [] is = refl
    none (k ∷ ks) is =
        let child : is_member k (children_of forest n) ≡ true = ap (is_member k) is ∙ or_left (k == k) (is_member k ks) (eq-eqb k k refl) in
        let open_here = good.parents_allow n k (good.once.in_children n k child).1 in
        absurd (cc)

-- the text of an element is that of what is below it
below-text : (forest : Forest) (n : ℕ) (e : Element) → slice_get forest.content n ≡ Some (AnElement e) → text_of forest n ≡ joined_texts forest (trees forest (children_of forest n))
below-text forest n e read = rw read refl

node-parts : (forest : Forest) → IsForest forest → (n : ℕ) (content : NodeData) (contents below : List Edge) → slice_get forest.content n ≡ Some content → edges_events forest below ≡ events_below forest n →
    open_events forest n content ++ edges_events forest (edges_inside n (outside_pre.inside content) contents below) ≡ node_events content (joined_texts forest (trees forest (children_of forest n))) (events_below forest n)
node-parts forest good n content contents below read same = one content refl
  where
    inner : (c : NodeData) → content ≡ c → edges_events forest (below ++ Close n ∷ []) ≡ events_below forest n ++ close_events c
    inner c is = flat_map-append (edge_events forest) below (Close n ∷ []) ∙ (ap (λ es. es ++ edges_events forest (Close n ∷ [])) same ∙ rw (read, is) (ap (λ es. events_below forest n ++ es) (append-nil (close_events c))))

    shut : (c : NodeData) → content ≡ c → children_allowed c ≡ false → [] ≡ events_below forest n
    shut c is none = sym (childless forest n good (ap (λ o. option_map_or children_allowed o false) (read ∙ ap Some is) ∙ none))

    one : (c : NodeData) → content ≡ c → open_events forest n c ++ edges_events forest (edges_inside n (outside_pre.inside c) contents below) ≡ node_events c (joined_texts forest (trees forest (children_of forest n))) (events_below forest n)
    one Document is = inner Document is ∙ append-nil (events_below forest n)
    one Fragment is = inner Fragment is ∙ append-nil (events_below forest n)
    one (Doctype a b c) is = shut (Doctype a b c) is refl
    one (Text a) is = ap (λ es. has_text a ∷ es) (shut (Text a) is refl)
    one (Comment a) is = shut (Comment a) is refl
    one (ProcessingInstruction a b) is = shut (ProcessingInstruction a b) is refl
    one (AnElement e) is =
        elim (cases_Bool (bytes_eq e.name.local (codes "pre"))) as (λ t. open_events forest n (AnElement e) ++ edges_events forest (edges_inside n (outside_pre.inside (AnElement e)) contents below) ≡ node_events (AnElement e) (joined_texts forest (trees forest (children_of forest n))) (events_below forest n)) [
          | inl t ↦ rw t (ap (λ text. opens e.name.local ∷ keeps_text text ∷ closes e.name.local ∷ []) (below-text forest n e (read ∙ ap Some is)))
          | inr f ↦ rw f (ap (λ es. opens e.name.local ∷ es) (inner (AnElement e) is))
        ]

pub trees-events : (forest : Forest) → IsForest forest → (ns : List ℕ) → KnownNodes forest ns → (marked : Bool) → edges_events forest (edges outside_pre forest marked (trees forest ns)) ≡ events forest (trees forest ns)
trees-events forest good ns known marked = go (trees_weight (trees forest ns)) ns known marked (omega arith)
  where
    go : (most : ℕ) (ns : List ℕ) → KnownNodes forest ns → (marked : Bool) → trees_weight (trees forest ns) ≤ most → edges_events forest (edges outside_pre forest marked (trees forest ns)) ≡ events forest (trees forest ns)
    go most [] known marked few = rw (trees-none forest) refl
    go zero (n ∷ ns) known marked few = absurd (omega (arith, few, ap trees_weight (trees-some forest n ns good known)))
    go (suc most) (n ∷ ns) known marked few =
        let tree = trees-some forest n ns good known in
        let weight = ap trees_weight tree in
        let here = known n (or_left (n == n) (is_member n ns) (eq-eqb n n refl)) in
        elim ((slice_get_cases forest.content n).1) [
          | inl found ↦ (
              let content = found.0 in
              let read = found.2 in
              let contents = edges outside_pre forest false (trees forest (contents_list forest n)) in
              let children = edges outside_pre forest false (trees forest (children_of forest n)) in
              let mine = edges_inside n (outside_pre.inside content) contents children in
              let others = edges outside_pre forest marked (trees forest ns) in
              let first = open_events forest n content in
              let below = go most (children_of forest n) (λ m s. (good.once.in_children n m s).0) false (omega (arith, few, weight)) in
              let later = go most ns (λ m s. known m (or_right (n == m) (is_member m ns) s)) marked (omega (arith, few, weight)) in
              let node = node-parts forest good n content contents children read below in
              ap (λ ts. edges_events forest (edges outside_pre forest marked ts)) tree
              ∙ rw read (ap (λ es. first ++ es) (flat_map-append (edge_events forest) mine others) ∙ (sym (append_assoc first (edges_events forest mine) (edges_events forest others))
              ∙ (ap (λ es. es ++ edges_events forest others) node ∙ ap (λ es. node_events content (joined_texts forest (trees forest (children_of forest n))) (events_below forest n) ++ es) later)))
              ∙ sym (ap (events forest) tree)
              )
          | inr none ↦ absurd (omega (arith, here, none.0))
        ]

-- ---- the whole

pub children-all : (forest tree : Forest) → IsForest forest → forest ≡ tree → (n : ℕ) (es : List Edge) (text : List ℕ) → es ≡ child_edges outside_pre forest n → IsFolded [] text (edges_events forest es) → IsFolded [] text (events_below tree n)
children-all forest tree good same n es text is done =
    let whole : edges_events forest es ≡ events_below tree n =
    ap (edges_events forest) is ∙ (trees-events forest good (children_of forest n) (λ m s. (good.once.in_children n m s).0) (mark_below outside_pre forest n) ∙ ap (λ f. events_below f n) same) in
    record { is = done.is ∙ ap (folded []) whole; utf8 = subst AreUtf8 whole done.utf8 }

pub node-all : (forest tree : Forest) → IsForest forest → forest ≡ tree → (n : ℕ) (node : TreeNode) → IsNodeOf forest n node → is_top node.content ≡ false → (es : List Edge) (text : List ℕ) → es ≡ node_edges outside_pre forest n →
    IsFolded [] text (edges_events forest es) → text ≡ formatted_node tree n
unfolding formatted_node
node-all forest tree good same n node is other es text all done =
    let known = slice_get_within forest.content n node.content is.content_is in
    let whole = trees-events forest good (n ∷ []) (λ m s. elim (cases_Bool (n == m)) [
      | inl t ↦ subst (λ (k : ℕ). k < length forest.content) (eqb-true n m t) known
      | inr f ↦ (let missing = rw f at s in absurd (cc))
    ]) (mark_of outside_pre forest n) in
    let plain : node_is is_top forest n ≡ false = rw (is.content_is) other in
    let shown : formatted_node forest n ≡ folded [] (events forest (trees forest (n ∷ []))) = rw plain refl in
    done.is ∙ (ap (λ e. folded [] (edges_events forest e)) all ∙ (ap (folded []) whole ∙ (sym shown ∙ ap (λ f. formatted_node f n) same)))

pub node-top : (forest tree : Forest) → forest ≡ tree → (n : ℕ) (node : TreeNode) → IsNodeOf forest n node → is_top node.content ≡ true → formatted_node tree n ≡ []
unfolding formatted_node
node-top forest tree same n node is top =
    let whole : node_is is_top forest n ≡ true = rw (is.content_is) top in
    ap (λ f. formatted_node f n) (sym same) ∙ rw whole refl

pub node-unknown : (forest tree : Forest) (n : ℕ) → IsForest forest → forest ≡ tree → length forest.content ≤ n → formatted_node tree n ≡ []
unfolding formatted_node trees
node-unknown forest tree n good same past = ap (λ f. formatted_node f n) (sym same) ∙ rw (slice_get_past forest.content n past) (nothing (length forest.content))
  where
    nothing : (most : ℕ) → folded [] (events forest (trees_to forest most (n ∷ []))) ≡ []
    nothing zero = refl
    nothing (suc zero) = rw (slice_get_past forest.content n past, children_past forest n good.once past) refl
    nothing (suc (suc most)) = rw (slice_get_past forest.content n past, children_past forest n good.once past) refl
