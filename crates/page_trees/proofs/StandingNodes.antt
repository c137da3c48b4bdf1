-- The nodes of a forest stay those of the definition where both are changed alike.
use Rattle.std.proofs.Common.{◌≡◌, ℕ, suc, zero, ◌<◌, ◌+◌, Bool, true, false, List, [], ◌∷◌, ◌++◌, map, refl, sym, ap, ◌∙◌, length, Option, Some, None, arith, inl, subst}
use Rattle.std.specs.Prelude.{encode_utf8_all, get_or, option_and_then, if◌then◌else◌, slice_get}
use Rattle.std.specs.Option.{option_map_or}
use Rattle.std.proofs.lemmas.Bool.{cond-false, true≢false}
use Rattle.std.proofs.lemmas.List.{length_push}
use Rattle.std.proofs.lemmas.Str.{encodes-append}
use Rattle.dom_nodes.specs.Kinds.{contents_named, is_text, is_top}
use Rattle.dom_nodes.specs.declared.node_data.NodeData.{NodeData}
use Rattle.dom_nodes.specs.declared.node_data.NodeData.TheVariants.{Comment, Doctype, Document, Element, Fragment, ProcessingInstruction, Text}
use Rattle.dom_links.specs.AddedTexts.{lengthened, with_more, with_node_at, with_text_at as text_at}
use Rattle.dom_links.specs.Contents.{changed_at as changed, with_content}
use Rattle.dom_links.specs.Forest.{Forest, children_of, parent}
use Rattle.dom_links.specs.Growth.{with_lone_template, with_node}
use Rattle.dom_links.specs.Lists.{before, is_member, without}
use Rattle.dom_links.specs.Moves.{before_gap, detach, moved_to}
use Rattle.dom_links.specs.SetTexts.{is_text_at}
use Rattle.dom_links.specs.Sound.{IsForest, IsOpenGap, contents_at, target}
use Rattle.dom_links.specs.declared.gap.InsertionPoint.{InsertionPoint}
use Rattle.dom_links.specs.declared.gap.InsertionPoint.TheVariants.{Before as TheBefore}
use Rattle.dom_links.proofs.forest.Depth.{step_inside}
use Rattle.dom_links.proofs.forest.Neighbours.{before-stands, last-stands}
use Rattle.dom_links.proofs.forest.Places.{siblings_child}
use Rattle.dom_links.proofs.moves.BlockCuts.{once-detach}
use Rattle.dom_links.proofs.moves.Cuts.{no_other, parent-detach}
use Rattle.standard_trees.specs.TreeStore.{Before, CommentNode, ContentsNode, DoctypeNode, DocumentNode, ElementNode, EndOf, Kind, Node, Place, TextNode}
use Rattle.standard_trees.specs.TreeStore.{changed_at, contents_in, is_member as has_number, last_of, leaf, node_at, node_before, parent_from, parent_of}
use Rattle.standard_trees.specs.TreeStore.{before_of, placed_before, put_at, removed, text_in, without as drop_one}
use Rattle.page_trees.specs.SameNodes.{AreHosts, AreKinds, AreNodes, IsChildless, IsKind, IsPointOf, text_after, with_kind, with_kind_at, with_text_at}
use Rattle.page_trees.proofs.ListsMoved.{StandsIn, before_is, last_is, put_beside, put_last}
use Rattle.page_trees.proofs.StoreLemmas.{children_at, kind_at, kind_from, kinds, kinds_changed, kinds_more, kinds_put, kinds_removed, length_nodes}
use Rattle.page_trees.proofs.StoreLemmas.{lists_changed, lists_kept, lists_more, lists_removed, old_node, with_children, with_kind_of}
use Rattle.page_trees.proofs.StandingParents.{parent_is}

-- ---- data

kinds_push : (ks : List Kind) (cs : List NodeData) (kind : Kind) (content : NodeData) → AreKinds ks cs → IsKind kind content →
    AreKinds (ks ++ kind ∷ []) (cs ++ content ∷ [])
kinds_push [] [] kind content all one = (one, tt)
kinds_push [] (c ∷ cs) kind content all one = absurd all
kinds_push (k ∷ ks) [] kind content all one = absurd all
kinds_push (k ∷ ks) (c ∷ cs) kind content all one = (all.0, kinds_push ks cs kind content all.1 one)

kinds_long : (ks : List Kind) (cs : List NodeData) → AreKinds ks cs → length ks ≡ length cs
kinds_long [] [] all = refl
kinds_long [] (c ∷ cs) all = absurd all
kinds_long (k ∷ ks) [] all = absurd all
kinds_long (k ∷ ks) (c ∷ cs) all = ap suc (kinds_long ks cs all.1)

kinds_set : (ks : List Kind) (cs : List NodeData) (n : ℕ) (kind : Kind) (change : NodeData → NodeData) → AreKinds ks cs →
    ((c : NodeData) → slice_get cs n ≡ Some c → IsKind kind (change c)) → AreKinds (changed n (λ _. kind) ks) (changed n change cs)
kinds_set [] [] n kind change all one = tt
kinds_set [] (c ∷ cs) n kind change all one = absurd all
kinds_set (k ∷ ks) [] n kind change all one = absurd all
kinds_set (k ∷ ks) (c ∷ cs) zero kind change all one = (one c refl, all.1)
kinds_set (k ∷ ks) (c ∷ cs) (suc n) kind change all one = (all.0, kinds_set ks cs n kind change all.1 one)

-- the data of a node
pub record HasData (ks : List Kind) (cs : List NodeData) (n : ℕ) : Type 0 where
  pub content : NodeData
  pub got : slice_get cs n ≡ Some content
  pub is : IsKind (get_or ks n ContentsNode) content

data_there : (ks : List Kind) (cs : List NodeData) (n : ℕ) → AreKinds ks cs → n < length cs → HasData ks cs n
data_there [] [] n all h = absurd (omega (arith, h))
data_there [] (c ∷ cs) n all h = absurd all
data_there (k ∷ ks) [] n all h = absurd all
data_there (k ∷ ks) (c ∷ cs) zero all h = record { content = c; got = refl; is = all.0 }
data_there (k ∷ ks) (c ∷ cs) (suc n) all h =
    let more = data_there ks cs n all.1 (omega (arith, h)) in
    record { content = more.content; got = more.got; is = more.is }

top_plain : (content : NodeData) → is_top content ≡ true → contents_named content ≡ None
top_plain Document e = refl
top_plain Fragment e = refl
top_plain (Doctype name public_id system_id) e = cc
top_plain (Text text) e = cc
top_plain (Comment text) e = cc
top_plain (Element element) e = cc
top_plain (ProcessingInstruction name text) e = cc

pub kind_contents : (kind : Kind) (content : NodeData) → IsKind kind content → contents_in kind ≡ contents_named content
kind_contents DocumentNode content is = sym (top_plain content is)
kind_contents ContentsNode content is = sym (ap contents_named is)
kind_contents (DoctypeNode d) content is = sym (ap contents_named is)
kind_contents (TextNode text) content is = sym (ap contents_named is)
kind_contents (CommentNode text) content is = sym (ap contents_named is)
kind_contents (ElementNode space name attrs contents) content is = sym (ap contents_named is.1)

contents_kinds : (ks : List Kind) (cs : List NodeData) (n : ℕ) → AreKinds ks cs → contents_in (get_or ks n ContentsNode) ≡ option_and_then contents_named (slice_get cs n)
contents_kinds [] [] n all = refl
contents_kinds [] (c ∷ cs) n all = absurd all
contents_kinds (k ∷ ks) [] n all = absurd all
contents_kinds (k ∷ ks) (c ∷ cs) zero all = kind_contents k c all.0
contents_kinds (k ∷ ks) (c ∷ cs) (suc n) all = contents_kinds ks cs n all.1

pub contents_is : (nodes : List Node) (f : Forest) → AreNodes nodes f → (n : ℕ) → contents_in (node_at nodes n).kind ≡ contents_at f n
contents_is nodes f are n = ap contents_in (kind_at nodes n) ∙ contents_kinds (kinds nodes) f.content n are.kinds

length_kinds : (nodes : List Node) → length (kinds nodes) ≡ length nodes
length_kinds [] = refl
length_kinds (node ∷ nodes) = ap suc (length_kinds nodes)

pub same_length : (nodes : List Node) (f : Forest) → AreNodes nodes f → length nodes ≡ length f.content
same_length nodes f are = sym (length_kinds nodes) ∙ kinds_long (kinds nodes) f.content are.kinds

pub children_is : (nodes : List Node) (f : Forest) → AreNodes nodes f → (n : ℕ) → (node_at nodes n).children ≡ children_of f n
children_is nodes f are n = children_at nodes n ∙ ap (λ (ls : List (List ℕ)). get_or ls n []) are.children

-- the data of a node of the forest
pub kind_is : (nodes : List Node) (f : Forest) (n : ℕ) → AreNodes nodes f → n < length f.content → (c : NodeData) × (slice_get f.content n ≡ Some c) × IsKind (node_at nodes n).kind c
kind_is nodes f n are known =
    let found = data_there (kinds nodes) f.content n are.kinds known in
    (found.content, found.got, subst (λ (kind : Kind). IsKind kind found.content) (sym (kind_at nodes n)) found.is)

-- ---- templates

childless_less : (o : Option ℕ) (ns : List ℕ) (x : ℕ) → IsChildless o ns → IsChildless o (drop_one x ns)
childless_less None ns x h = tt
childless_less (Some c) ns x h = ap (drop_one x) h

childless_leaf : (o : Option ℕ) → IsChildless o []
childless_leaf None = tt
childless_leaf (Some c) = refl

childless_free : (o : Option ℕ) (ns : List ℕ) (n : ℕ) → IsChildless o ns → has_number n ns ≡ true → o ≡ None
childless_free None ns n h at = refl
childless_free (Some c) ns n h at = absurd (true≢false (sym at ∙ ap (has_number n) h))

hosts_removed : (x : ℕ) (nodes : List Node) → AreHosts nodes → AreHosts (removed x nodes)
hosts_removed x [] h = tt
hosts_removed x (node ∷ nodes) h = (childless_less (contents_in node.kind) node.children x h.0, hosts_removed x nodes h.1)

pub hosts_changed : (g : List ℕ → List ℕ) (nodes : List Node) (p : ℕ) → AreHosts nodes → contents_in (node_at nodes p).kind ≡ None → AreHosts (changed_at (with_children g) nodes p)
hosts_changed g [] p h plain = tt
hosts_changed g (node ∷ nodes) zero h plain = (subst (λ (o : Option ℕ). IsChildless o (g node.children)) (sym plain) tt, h.1)
hosts_changed g (node ∷ nodes) (suc p) h plain = (h.0, hosts_changed g nodes p h.1 plain)

hosts_kept : (kind : Kind) (nodes : List Node) (p : ℕ) → AreHosts nodes → contents_in kind ≡ None → AreHosts (changed_at (with_kind_of kind) nodes p)
hosts_kept kind [] p h plain = tt
hosts_kept kind (node ∷ nodes) zero h plain = (subst (λ (o : Option ℕ). IsChildless o node.children) (sym plain) tt, h.1)
hosts_kept kind (node ∷ nodes) (suc p) h plain = (h.0, hosts_kept kind nodes p h.1 plain)

hosts_more : (nodes : List Node) (kind : Kind) → AreHosts nodes → AreHosts (nodes ++ leaf kind ∷ [])
hosts_more [] kind h = (childless_leaf (contents_in kind), tt)
hosts_more (node ∷ nodes) kind h = (h.0, hosts_more nodes kind h.1)

host_at : (nodes : List Node) (p : ℕ) → AreHosts nodes → IsChildless (contents_in (node_at nodes p).kind) (node_at nodes p).children
host_at [] p h = tt
host_at (node ∷ nodes) zero h = h.0
host_at (node ∷ nodes) (suc p) h = host_at nodes p h.1

-- a parent stands before its child
pub record IsParentAt (n i q : ℕ) (nodes : List Node) : Type 0 where
  pub place : ℕ
  pub is : q ≡ i + place
  pub at : has_number n (node_at nodes place).children ≡ true

pub parent_at : (n i q : ℕ) (nodes : List Node) → parent_from i n nodes ≡ Some q → IsParentAt n i q nodes
parent_at n i q [] e = cc
parent_at n i q (node ∷ nodes) e = by (parent_at n (suc i) q nodes) (has_number n node.children) refl e
  where
    by : (parent_from (suc i) n nodes ≡ Some q → IsParentAt n (suc i) q nodes) → (b : Bool) → has_number n node.children ≡ b →
        (elim b [ true ↦ Some i | false ↦ parent_from (suc i) n nodes ]) ≡ Some q → IsParentAt n i q (node ∷ nodes)
    by later true at is = (let same : i ≡ q = cc in record { place = 0; is = omega (arith, same); at = at })
    by later false at is = (let more = later is in record { place = suc more.place; is = (let e = more.is in omega (arith, e)); at = more.at })

pub parent_free : (nodes : List Node) (n p : ℕ) → AreHosts nodes → parent_of nodes n ≡ Some p → contents_in (node_at nodes p).kind ≡ None
parent_free nodes n p h e =
    let found = parent_at n 0 p nodes e in
    let at : p ≡ found.place = (let is = found.is in omega (arith, is)) in
    ap (λ (k : ℕ). contents_in (node_at nodes k).kind) at ∙ childless_free (contents_in (node_at nodes found.place).kind) (node_at nodes found.place).children n (host_at nodes found.place h) found.at

-- ---- a node is moved

rooted : (nodes : List Node) → (node_at nodes 0).kind ≡ DocumentNode → 0 < length nodes
rooted [] e = cc
rooted (node ∷ nodes) e = omega arith

-- a child of p, once another node is cut out
stands_in : (f : Forest) (x m p : ℕ) → IsForest f → x < length f.content → (x ≡ m → ⊥) → parent f m ≡ Some p → StandsIn m p (map (without (x ∷ [])) f.children)
stands_in f x m p good known apart is =
    let cut = once-detach f x good.once known in
    let up : parent (detach (x ∷ []) f) m ≡ Some p = parent-detach (x ∷ []) f m ∙ cond-false (is_member m (x ∷ [])) None (parent f m) (no_other m x apart) ∙ is in
    let inside = step_inside f p m good (inl is) in
    record {
      here = subst (λ (ns : List ℕ). is_member m ns ≡ true) (siblings_child (detach (x ∷ []) f) m p up) (cut.placed m inside);
      alone = λ q h. (let other = (cut.in_children q m h).1 in cc);
    }

pub nodes_moved : (nodes : List Node) (f : Forest) (x : ℕ) (gap : InsertionPoint) (spot : Place) → IsForest f → AreNodes nodes f → IsPointOf nodes gap spot →
    x < length f.content → (x ≡ target gap → ⊥) → AreNodes (put_at x spot nodes) (moved_to (x ∷ []) gap f)
nodes_moved nodes f x gap (EndOf p) good are at known apart =
    let cut : List Node = removed x nodes in
    let plain = ap contents_in (kind_from cut nodes p (kinds_removed x nodes)) ∙ at.1 in
    subst (λ (g : InsertionPoint). AreNodes (put_at x (EndOf p) nodes) (moved_to (x ∷ []) g f)) (sym at.0) (record {
      root = kind_from (put_at x (EndOf p) nodes) nodes 0 (kinds_put x (EndOf p) nodes) ∙ are.root;
      kinds = subst (λ (ks : List Kind). AreKinds ks f.content) (sym (kinds_put x (EndOf p) nodes)) are.kinds;
      children = lists_changed (λ ns. ns ++ x ∷ []) cut p
          ∙ ap (changed p (λ ns. ns ++ x ∷ [])) (lists_removed x nodes ∙ ap (map (without (x ∷ []))) are.children)
          ∙ sym (put_last x p (map (without (x ∷ [])) f.children));
      hosts = hosts_changed (λ ns. ns ++ x ∷ []) cut p (hosts_removed x nodes are.hosts) plain;
    })
nodes_moved nodes f x gap (Before p m) good are at known apart =
    let cut : List Node = removed x nodes in
    let plain = ap contents_in (kind_from cut nodes p (kinds_removed x nodes)) ∙ parent_free nodes m p are.hosts at.1 in
    let other : x ≡ m → ⊥ = λ e. apart (e ∙ ap target (sym at.0)) in
    let stands = stands_in f x m p good known other (parent_is nodes f are m ∙ at.1) in
    subst (λ (g : InsertionPoint). AreNodes (put_at x (Before p m) nodes) (moved_to (x ∷ []) g f)) (sym at.0) (record {
      root = kind_from (put_at x (Before p m) nodes) nodes 0 (kinds_put x (Before p m) nodes) ∙ are.root;
      kinds = subst (λ (ks : List Kind). AreKinds ks f.content) (sym (kinds_put x (Before p m) nodes)) are.kinds;
      children = lists_changed (placed_before x m) cut p
          ∙ ap (changed p (placed_before x m)) (lists_removed x nodes ∙ ap (map (without (x ∷ []))) are.children)
          ∙ sym (put_beside x m p (map (without (x ∷ [])) f.children) stands);
      hosts = hosts_changed (placed_before x m) cut p (hosts_removed x nodes are.hosts) plain;
    })

pub nodes_cut : (nodes : List Node) (f : Forest) (x : ℕ) → AreNodes nodes f → AreNodes (removed x nodes) (detach (x ∷ []) f)
nodes_cut nodes f x are = record {
  root = kind_from (removed x nodes) nodes 0 (kinds_removed x nodes) ∙ are.root;
  kinds = subst (λ (ks : List Kind). AreKinds ks f.content) (sym (kinds_removed x nodes)) are.kinds;
  children = lists_removed x nodes ∙ ap (map (without (x ∷ []))) are.children;
  hosts = hosts_removed x nodes are.hosts;
}

-- ---- a node is made

pub nodes_more : (nodes : List Node) (f : Forest) (kind : Kind) (content : NodeData) → AreNodes nodes f → IsKind kind content →
    AreNodes (nodes ++ leaf kind ∷ []) (with_node content f)
nodes_more nodes f kind content are is = record {
  root = ap (λ (node : Node). node.kind) (old_node nodes (leaf kind) 0 (rooted nodes are.root)) ∙ are.root;
  kinds = subst (λ (ks : List Kind). AreKinds ks (f.content ++ content ∷ [])) (sym (kinds_more nodes kind)) (kinds_push (kinds nodes) f.content kind content are.kinds is);
  children = lists_more nodes kind ∙ ap (λ (ls : List (List ℕ)). ls ++ [] ∷ []) are.children;
  hosts = hosts_more nodes kind are.hosts;
}

one_more : (kind : Kind) (nodes : List Node) → contents_in kind ≡ None → with_kind kind nodes ≡ nodes ++ leaf kind ∷ []
one_more kind nodes plain = ap (λ (o : Option ℕ). elim o [ None ↦ nodes ++ leaf kind ∷ [] | Some contents ↦ (nodes ++ leaf kind ∷ []) ++ leaf ContentsNode ∷ [] ]) plain

two_more : (kind : Kind) (nodes : List Node) (c : ℕ) → contents_in kind ≡ Some c → with_kind kind nodes ≡ (nodes ++ leaf kind ∷ []) ++ leaf ContentsNode ∷ []
two_more kind nodes c holds = ap (λ (o : Option ℕ). elim o [ None ↦ nodes ++ leaf kind ∷ [] | Some contents ↦ (nodes ++ leaf kind ∷ []) ++ leaf ContentsNode ∷ [] ]) holds

pub plain_made : (nodes : List Node) (f : Forest) (kind : Kind) (content : NodeData) → AreNodes nodes f → IsKind kind content → contents_named content ≡ None →
    AreNodes (with_kind kind nodes) (with_node content f)
plain_made nodes f kind content are is plain =
    subst (λ (ns : List Node). AreNodes ns (with_node content f)) (sym (one_more kind nodes (kind_contents kind content is ∙ plain))) (nodes_more nodes f kind content are is)

pub template_made : (nodes : List Node) (f : Forest) (kind : Kind) (content : NodeData) (c : ℕ) → AreNodes nodes f → IsKind kind content → contents_named content ≡ Some c →
    AreNodes (with_kind kind nodes) (with_lone_template content f)
template_made nodes f kind content c are is holds =
    subst (λ (ns : List Node). AreNodes ns (with_lone_template content f)) (sym (two_more kind nodes c (kind_contents kind content is ∙ holds)))
    (nodes_more (nodes ++ leaf kind ∷ []) (with_node content f) ContentsNode Fragment (nodes_more nodes f kind content are is) refl)

-- a place stays one
same_parent : (m i : ℕ) (nodes : List Node) (kind : Kind) → parent_from i m (nodes ++ leaf kind ∷ []) ≡ parent_from i m nodes
same_parent m i [] kind = refl
same_parent m i (node ∷ nodes) kind = ap (λ (o : Option ℕ). (let found : Option ℕ = elim (has_number m node.children) [ true ↦ Some i | false ↦ o ] in found)) (same_parent m (suc i) nodes kind)

point_more : (nodes : List Node) (kind : Kind) (gap : InsertionPoint) (spot : Place) → target gap < length nodes → IsPointOf nodes gap spot → IsPointOf (nodes ++ leaf kind ∷ []) gap spot
point_more nodes kind gap (EndOf p) known at =
    let inside : p < length nodes = subst (λ (k : ℕ). k < length nodes) (ap target at.0) known in
    (at.0, ap (λ (node : Node). contents_in node.kind) (old_node nodes (leaf kind) p inside) ∙ at.1)
point_more nodes kind gap (Before p m) known at = (at.0, same_parent m 0 nodes kind ∙ at.1)

pub point_made : (nodes : List Node) (kind : Kind) (gap : InsertionPoint) (spot : Place) → target gap < length nodes → IsPointOf nodes gap spot → IsPointOf (with_kind kind nodes) gap spot
point_made nodes kind gap spot known at = by (contents_in kind) refl
  where
    one : IsPointOf (nodes ++ leaf kind ∷ []) gap spot
    one = point_more nodes kind gap spot known at

    by : (o : Option ℕ) → contents_in kind ≡ o → IsPointOf (with_kind kind nodes) gap spot
    by None e = subst (λ (ns : List Node). IsPointOf ns gap spot) (sym (one_more kind nodes e)) one
    by (Some c) e =
        let long = length_nodes nodes (leaf kind) in
        subst (λ (ns : List Node). IsPointOf ns gap spot) (sym (two_more kind nodes c e))
        (point_more (nodes ++ leaf kind ∷ []) ContentsNode gap spot (omega (arith, known, long)) one)

-- ---- a text

-- the node just before a place
before_point : (nodes : List Node) (f : Forest) (gap : InsertionPoint) (spot : Place) → IsForest f → AreNodes nodes f → IsPointOf nodes gap spot → before_gap gap f ≡ node_before nodes spot
before_point nodes f gap (EndOf p) good are at =
    ap (λ (g : InsertionPoint). before_gap g f) at.0 ∙ sym (last_is (children_of f p)) ∙ ap last_of (sym (children_is nodes f are p))
before_point nodes f gap (Before p m) good are at =
    let up : parent f m ≡ Some p = parent_is nodes f are m ∙ at.1 in
    let inside = step_inside f p m good (inl up) in
    let there = subst (λ (ns : List ℕ). is_member m ns ≡ true) (siblings_child f m p up) (good.once.placed m inside) in
    ap (λ (g : InsertionPoint). before_gap g f) at.0 ∙ ap (λ (ns : List ℕ). before ns m) (siblings_child f m p up)
    ∙ sym (before_is m (children_of f p) (good.once.children_once p) there) ∙ ap (before_of m None) (sym (children_is nodes f are p))

before_known : (f : Forest) (gap : InsertionPoint) (n p m : ℕ) → IsForest f → parent f m ≡ Some p → before_gap (TheBefore m) f ≡ Some n → n < length f.content
before_known f gap n p m good up e =
    (good.once.in_children p n (before-stands (children_of f p) m n (sym (ap (λ (ns : List ℕ). before ns m) (siblings_child f m p up)) ∙ e))).0

point_known : (nodes : List Node) (f : Forest) (gap : InsertionPoint) (spot : Place) (n : ℕ) → IsForest f → AreNodes nodes f → IsPointOf nodes gap spot → before_gap gap f ≡ Some n → n < length f.content
point_known nodes f gap (EndOf p) n good are at e =
    (good.once.in_children p n (last-stands (children_of f p) n (ap (λ (g : InsertionPoint). before_gap g f) (sym at.0) ∙ e))).0
point_known nodes f gap (Before p m) n good are at e =
    before_known f gap n p m good (parent_is nodes f are m ∙ at.1) (ap (λ (g : InsertionPoint). before_gap g f) (sym at.0) ∙ e)

top_no_text : (content : NodeData) → is_top content ≡ true → is_text content ≡ false
top_no_text Document e = refl
top_no_text Fragment e = refl
top_no_text (Doctype name public_id system_id) e = refl
top_no_text (Text text) e = cc
top_no_text (Comment text) e = refl
top_no_text (Element element) e = refl
top_no_text (ProcessingInstruction name text) e = refl

-- a node that is no text
no_text : (kind : Kind) (content : NodeData) → IsKind kind content → text_in kind ≡ None → is_text content ≡ false
no_text DocumentNode content is e = top_no_text content is
no_text ContentsNode content is e = ap is_text is
no_text (DoctypeNode d) content is e = ap is_text is
no_text (TextNode text) content is e = cc
no_text (CommentNode text) content is e = ap is_text is
no_text (ElementNode space name attrs contents) content is e = ap is_text is.1

a_text : (kind : Kind) (content : NodeData) (text : List ℕ) → IsKind kind content → text_in kind ≡ Some text → content ≡ Text (encode_utf8_all text)
a_text (TextNode text) content other is e = (let same : text ≡ other = cc in is ∙ ap (λ (cs : List ℕ). Text (encode_utf8_all cs)) same)
a_text DocumentNode content text is e = cc
a_text ContentsNode content text is e = cc
a_text (DoctypeNode d) content text is e = cc
a_text (CommentNode other) content text is e = cc
a_text (ElementNode space name attrs contents) content text is e = cc

-- a text of its own
text_made : (nodes : List Node) (f : Forest) (gap : InsertionPoint) (spot : Place) (text cs : List ℕ) → IsForest f → IsForest (with_node (Text text) f) → AreNodes nodes f → IsPointOf nodes gap spot → IsOpenGap gap f →
    encode_utf8_all cs ≡ text → AreNodes (with_kind_at (TextNode cs) spot nodes) (with_node_at gap (Text text) f)
text_made nodes f gap spot text cs good after are at opens spelt =
    let long = same_length nodes f are in
    let there = opens.0 in
    let kind : Kind = TextNode cs in
    let is : IsKind kind (Text text) = ap Text (sym spelt) in
    let more = length_push f.content (Text text) in
    subst (λ (k : ℕ). AreNodes (put_at k spot (with_kind kind nodes)) (with_node_at gap (Text text) f)) (sym long)
    (nodes_moved (with_kind kind nodes) (with_node (Text text) f) (length f.content) gap spot after (plain_made nodes f kind (Text text) are is refl)
    (point_made nodes kind gap spot (omega (arith, there, long)) at) (omega (arith, more)) (λ e. absurd (omega (arith, there, e))))

-- a text that grows
text_grown : (nodes : List Node) (f : Forest) (n : ℕ) (old text cs : List ℕ) → AreNodes nodes f → n < length f.content → text_in (node_at nodes n).kind ≡ Some old → encode_utf8_all cs ≡ text →
    AreNodes (changed_at (with_kind_of (TextNode (old ++ cs))) nodes n) (with_content n (lengthened text) f)
text_grown nodes f n old text cs are known e spelt =
    let kind : Kind = TextNode (old ++ cs) in
    let found = kind_is nodes f n are known in
    let was = a_text (node_at nodes n).kind found.0 old found.2 e in
    let longer : encode_utf8_all old ++ text ≡ encode_utf8_all (old ++ cs) =
    ap (λ (bs : List ℕ). encode_utf8_all old ++ bs) (sym spelt) ∙ sym (encodes-append old cs) in
    record {
      root = root_kept (changed_at (with_kind_of kind) nodes n) n refl;
      kinds = subst (λ (ks : List Kind). AreKinds ks (changed n (lengthened text) f.content)) (sym (kinds_changed kind nodes n))
          (kinds_set (kinds nodes) f.content n kind (lengthened text) are.kinds (λ c got. (let same : c ≡ found.0 = (let g = found.1 in cc) in ap (lengthened text) (same ∙ was) ∙ ap Text longer)));
      children = lists_kept kind nodes n ∙ are.children;
      hosts = hosts_kept kind nodes n are.hosts refl;
    }
  where
    changed_else : (kind : Kind) (ns : List Node) → (node_at ns 0).kind ≡ DocumentNode → (k : ℕ) → text_in (node_at ns k).kind ≡ Some old → (node_at (changed_at (with_kind_of kind) ns k) 0).kind ≡ DocumentNode
    changed_else kind [] root k is = root
    changed_else kind (node ∷ ns) root zero is = (let none : text_in node.kind ≡ None = ap text_in root in cc)
    changed_else kind (node ∷ ns) root (suc k) is = root

    root_kept : (all : List Node) (k : ℕ) → all ≡ changed_at (with_kind_of (TextNode (old ++ cs))) nodes n → (node_at all 0).kind ≡ DocumentNode
    root_kept all k same = ap (λ (ns : List Node). (node_at ns 0).kind) same ∙ changed_else (TextNode (old ++ cs)) nodes are.root n e

pub text_stands : (nodes : List Node) (f : Forest) (gap : InsertionPoint) (spot : Place) (text cs : List ℕ) → IsForest f → IsForest (with_node (Text text) f) → AreNodes nodes f → IsPointOf nodes gap spot → IsOpenGap gap f →
    encode_utf8_all cs ≡ text → AreNodes (with_text_at cs spot nodes) (text_at gap text f)
text_stands nodes f gap spot text cs good after are at opens spelt = by (before_gap gap f) refl
  where
    fresh : AreNodes (with_kind_at (TextNode cs) spot nodes) (with_node_at gap (Text text) f)
    fresh = text_made nodes f gap spot text cs good after are at opens spelt

    is_before : (o : Option ℕ) → before_gap gap f ≡ o → node_before nodes spot ≡ o
    is_before o e = sym (before_point nodes f gap spot good are at) ∙ e

    at_node : (n : ℕ) (o : Option (List ℕ)) → n < length f.content → text_in (node_at nodes n).kind ≡ o →
        AreNodes (text_after (Some n) cs spot nodes) (with_more (if is_text_at f n then Some n else None) gap text f)
    at_node n None known e =
        let found = kind_is nodes f n are known in
        let no : is_text_at f n ≡ false = ap (λ (c : Option NodeData). option_map_or is_text c false) found.1 ∙ no_text (node_at nodes n).kind found.0 found.2 e in
        subst (λ (ns : List Node). AreNodes ns (with_more (if is_text_at f n then Some n else None) gap text f))
        (sym (ap (λ (p : Option (List ℕ)). elim p [ Some before ↦ changed_at (with_kind_of (TextNode (before ++ cs))) nodes n | None ↦ with_kind_at (TextNode cs) spot nodes ]) e))
        (subst (λ (b : Bool). AreNodes (with_kind_at (TextNode cs) spot nodes) (with_more (if b then Some n else None) gap text f)) (sym no) fresh)
    at_node n (Some old) known e =
        let found = kind_is nodes f n are known in
        let yes : is_text_at f n ≡ true = ap (λ (c : Option NodeData). option_map_or is_text c false) found.1 ∙ ap is_text (a_text (node_at nodes n).kind found.0 old found.2 e) in
        subst (λ (ns : List Node). AreNodes ns (with_more (if is_text_at f n then Some n else None) gap text f))
        (sym (ap (λ (p : Option (List ℕ)). elim p [ Some before ↦ changed_at (with_kind_of (TextNode (before ++ cs))) nodes n | None ↦ with_kind_at (TextNode cs) spot nodes ]) e))
        (subst (λ (b : Bool). AreNodes (changed_at (with_kind_of (TextNode (old ++ cs))) nodes n) (with_more (if b then Some n else None) gap text f)) (sym yes) (text_grown nodes f n old text cs are known e spelt))

    by : (o : Option ℕ) → before_gap gap f ≡ o → AreNodes (with_text_at cs spot nodes) (text_at gap text f)
    by None e =
        subst (λ (p : Option ℕ). AreNodes (text_after p cs spot nodes) (text_at gap text f)) (sym (is_before None e))
        (subst (λ (p : Option ℕ). AreNodes (with_kind_at (TextNode cs) spot nodes) (with_more (option_and_then (λ n. if is_text_at f n then Some n else None) p) gap text f)) (sym e) fresh)
    by (Some n) e =
        subst (λ (p : Option ℕ). AreNodes (text_after p cs spot nodes) (text_at gap text f)) (sym (is_before (Some n) e))
        (subst (λ (p : Option ℕ). AreNodes (text_after (Some n) cs spot nodes) (with_more (option_and_then (λ k. if is_text_at f k then Some k else None) p) gap text f)) (sym e)
        (at_node n (text_in (node_at nodes n).kind) (point_known nodes f gap spot n good are at e) refl))
