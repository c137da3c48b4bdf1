-- A forest stands for one Document at most.
use Rattle.std.proofs.Common.{◌≡◌, ℕ, List, [], ◌∷◌, map, refl, sym, ap, subst, ◌∙◌, false, Option, Some, None}
use Rattle.std.specs.Prelude.{encode_utf8_all, slice_get}
use Rattle.std.specs.Option.{option_map_or}
use Rattle.dom_nodes.specs.declared.name.Attr.{Attr}
use Rattle.dom_nodes.specs.declared.name.Namespace.{Namespace}
use Rattle.dom_nodes.specs.declared.node_data.NodeData.{NodeData}
use Rattle.dom_nodes.specs.declared.node_data.NodeData.TheVariants.{Comment, Doctype, Element, Text}
use Rattle.dom_links.specs.Forest.{Forest, children_of}
use Rattle.standard_tokens.specs.Tokens.{Doctype as DoctypeToken}
use Rattle.standard_trees.specs.Building.{FullQuirks, LimitedQuirks, NoQuirks, QuirksMode as Quirks}
use Rattle.standard_trees.specs.TreeStore.{AttrSpace, CommentNode, ContentsNode, DoctypeNode, DocumentNode, ElementNode, Html, Kind, MathMl, NoSpace, NodeAttr, Space, Svg}
use Rattle.standard_trees.specs.TreeStore.{TextNode, Trees, XLink, Xml, XmlNs, attrs_in, comment_tree, contents_in, doctype_tree, element_tree, local_in, no_trees, space_in, text_tree}
use Rattle.page_trees.specs.DocumentTrees.{AreTrees, Begins, StandsForOneDocument, attr_in_utf8, doctype_in_utf8, held_in, in_utf8}
use Rattle.page_trees.specs.Quirks.{mode_of}
use Rattle.page_trees.specs.SameNodes.{IsKind, attr_for}

-- ---- the data of a node, read back

space_from : Namespace → Space
space_from Namespace.Svg = Svg
space_from Namespace.MathMl = MathMl
space_from _ = Html

attr_space_from : Namespace → AttrSpace
attr_space_from Namespace.XLink = XLink
attr_space_from Namespace.Xml = Xml
attr_space_from Namespace.XmlNs = XmlNs
attr_space_from _ = NoSpace

attr_from : Attr → NodeAttr
attr_from attr = record { space = attr_space_from attr.name.ns; name = attr.name.local; value = attr.value }

kind_from : NodeData → Kind
kind_from (Doctype name public_id system_id) = DoctypeNode (record { name = Some name; public_id = Some public_id; system_id = Some system_id; force_quirks = false })
kind_from (Text text) = TextNode text
kind_from (Comment text) = CommentNode text
kind_from (Element element) = ElementNode (space_from element.name.ns) element.name.local (map attr_from element.attrs) element.template_contents
kind_from _ = ContentsNode

attr_back : (a : NodeAttr) → attr_from (attr_for a) ≡ attr_in_utf8 a
unfolding attr_from attr_space_from
attr_back a = by a.space
  where
    by : (space : AttrSpace) → attr_from (attr_for (record a { space = space })) ≡ attr_in_utf8 (record a { space = space })
    by NoSpace = refl
    by XLink = refl
    by Xml = refl
    by XmlNs = refl

attrs_back : (attrs : List NodeAttr) → map attr_from (map attr_for attrs) ≡ map attr_in_utf8 attrs
attrs_back [] = refl
attrs_back (a ∷ attrs) = ap (λ b. b ∷ map attr_from (map attr_for attrs)) (attr_back a) ∙ ap (λ bs. attr_in_utf8 a ∷ bs) (attrs_back attrs)

element_back : (space : Space) (name : List ℕ) (attrs : List NodeAttr) (contents : Option ℕ) (c : NodeData) → IsKind (ElementNode space name attrs contents) c →
    kind_from c ≡ ElementNode space (encode_utf8_all name) (map attr_in_utf8 attrs) contents
unfolding kind_from space_from
element_back Html name attrs contents c is = ap kind_from is.1 ∙ ap (λ own. ElementNode Html (encode_utf8_all name) own contents) (attrs_back attrs)
element_back Svg name attrs contents c is = ap kind_from is.1 ∙ ap (λ own. ElementNode Svg (encode_utf8_all name) own contents) (attrs_back attrs)
element_back MathMl name attrs contents c is = ap kind_from is.1 ∙ ap (λ own. ElementNode MathMl (encode_utf8_all name) own contents) (attrs_back attrs)

-- the first node of a list says the kind
first_kind : Forest → List ℕ → Kind
first_kind forest [] = DocumentNode
first_kind forest (n ∷ ns) = option_map_or kind_from (slice_get forest.content n) ContentsNode

first_is : (forest : Forest) (ns : List ℕ) (n : ℕ) (others : List ℕ) (kind : Kind) (begins : Begins forest ns n others kind) → first_kind forest ns ≡ kind_from begins.content
unfolding first_kind
first_is forest ns n others kind begins =
    ap (first_kind forest) begins.first ∙ ap (λ o. option_map_or kind_from o ContentsNode) begins.got

-- the kind of the first tree's root, which has these template contents if it is an element
abbrev root : Option ℕ → Trees → Kind
root contents no_trees = DocumentNode
root contents (doctype_tree d later) = DoctypeNode (doctype_in_utf8 d)
root contents (text_tree text later) = TextNode (encode_utf8_all text)
root contents (comment_tree text later) = CommentNode (encode_utf8_all text)
root contents (element_tree space name attrs held children later) = ElementNode space (encode_utf8_all name) (map attr_in_utf8 attrs) contents

root_held : (forest : Forest) (ns : List ℕ) (trees : Trees) → AreTrees forest ns trees → Option ℕ
root_held forest ns no_trees are = None
root_held forest ns (doctype_tree d later) are = None
root_held forest ns (text_tree text later) are = None
root_held forest ns (comment_tree text later) are = None
root_held forest ns (element_tree space name attrs held children later) are = are.2

root_is : (forest : Forest) (ns : List ℕ) (trees : Trees) (are : AreTrees forest ns trees) → first_kind forest ns ≡ root (root_held forest ns trees are) trees
unfolding first_kind kind_from root_held
root_is forest ns no_trees are = ap (first_kind forest) are
root_is forest ns (doctype_tree d later) are = first_is forest ns are.0 are.1 _ are.2 ∙ ap kind_from are.2.is
root_is forest ns (text_tree text later) are = first_is forest ns are.0 are.1 _ are.2 ∙ ap kind_from are.2.is
root_is forest ns (comment_tree text later) are = first_is forest ns are.0 are.1 _ are.2 ∙ ap kind_from are.2.is
root_is forest ns (element_tree space name attrs held children later) are =
    first_is forest ns are.0 are.1 _ are.3 ∙ element_back space name attrs are.2 are.3.content are.3.is

rest_same : (forest : Forest) (ns : List ℕ) (n m : ℕ) (xs ys : List ℕ) (k l : Kind) → Begins forest ns n xs k → Begins forest ns m ys l → (n ≡ m) × (xs ≡ ys)
rest_same forest ns n m xs ys k l one two =
    let same : n ∷ xs ≡ m ∷ ys = sym one.first ∙ two.first in
    let head : n ≡ m = cc in
    let tail : xs ≡ ys = cc in
    (head, tail)

doctype_of : Kind → DoctypeToken → DoctypeToken
doctype_of (DoctypeNode d) e = d
doctype_of _ e = e

text_of_kind : Kind → List ℕ
text_of_kind (TextNode text) = text
text_of_kind (CommentNode text) = text
text_of_kind _ = []

trees_once : (forest : Forest) (ns : List ℕ) (a b : Trees) → AreTrees forest ns a → AreTrees forest ns b → in_utf8 a ≡ in_utf8 b
unfolding doctype_of text_of_kind root_held
trees_once forest ns no_trees no_trees x y = refl
trees_once forest ns (doctype_tree d later) (doctype_tree e other) x y =
    let kinds = sym (root_is forest ns (doctype_tree d later) x) ∙ root_is forest ns (doctype_tree e other) y in
    let same = rest_same forest ns x.0 y.0 x.1 y.1 _ _ x.2 y.2 in
    ap (λ t. doctype_tree t (in_utf8 later)) (ap (λ k. doctype_of k (doctype_in_utf8 d)) kinds)
    ∙ ap (doctype_tree (doctype_in_utf8 e)) (trees_once forest x.1 later other x.3 (subst (λ (ms : List ℕ). AreTrees forest ms other) (sym same.1) y.3))
trees_once forest ns (text_tree text later) (text_tree word other) x y =
    let kinds = sym (root_is forest ns (text_tree text later) x) ∙ root_is forest ns (text_tree word other) y in
    let same = rest_same forest ns x.0 y.0 x.1 y.1 _ _ x.2 y.2 in
    ap (λ t. text_tree t (in_utf8 later)) (ap text_of_kind kinds)
    ∙ ap (text_tree (encode_utf8_all word)) (trees_once forest x.1 later other x.3 (subst (λ (ms : List ℕ). AreTrees forest ms other) (sym same.1) y.3))
trees_once forest ns (comment_tree text later) (comment_tree word other) x y =
    let kinds = sym (root_is forest ns (comment_tree text later) x) ∙ root_is forest ns (comment_tree word other) y in
    let same = rest_same forest ns x.0 y.0 x.1 y.1 _ _ x.2 y.2 in
    ap (λ t. comment_tree t (in_utf8 later)) (ap text_of_kind kinds)
    ∙ ap (comment_tree (encode_utf8_all word)) (trees_once forest x.1 later other x.3 (subst (λ (ms : List ℕ). AreTrees forest ms other) (sym same.1) y.3))
trees_once forest ns (element_tree space name attrs held children later) (element_tree area word given kept inner other) x y =
    let kinds : ElementNode space (encode_utf8_all name) (map attr_in_utf8 attrs) x.2 ≡ ElementNode area (encode_utf8_all word) (map attr_in_utf8 given) y.2 =
    sym (root_is forest ns (element_tree space name attrs held children later) x) ∙ root_is forest ns (element_tree area word given kept inner other) y in
    let same = rest_same forest ns x.0 y.0 x.1 y.1 _ _ x.3 y.3 in
    let below = trees_once forest (children_of forest x.0) children inner x.5 (subst (λ (n : ℕ). AreTrees forest (children_of forest n) inner) (sym same.0) y.5) in
    let template = trees_once forest (held_in forest x.2) held kept x.4 (subst (λ (o : Option ℕ). AreTrees forest (held_in forest o) kept) (sym (ap contents_in kinds)) y.4) in
    let behind = trees_once forest x.1 later other x.6 (subst (λ (ms : List ℕ). AreTrees forest ms other) (sym same.1) y.6) in
    ap (λ k. element_tree (space_in k) (local_in k) (attrs_in k) (in_utf8 held) (in_utf8 children) (in_utf8 later)) kinds
    ∙ ap (λ t. element_tree area (encode_utf8_all word) (map attr_in_utf8 given) t (in_utf8 children) (in_utf8 later)) template
    ∙ ap (λ t. element_tree area (encode_utf8_all word) (map attr_in_utf8 given) (in_utf8 kept) t (in_utf8 later)) below
    ∙ ap (element_tree area (encode_utf8_all word) (map attr_in_utf8 given) (in_utf8 kept) (in_utf8 inner)) behind
trees_once forest ns a b x y =
    let kinds : root (root_held forest ns a x) a ≡ root (root_held forest ns b y) b = sym (root_is forest ns a x) ∙ root_is forest ns b y in
    absurd cc

modes_once : (one two : Quirks) → mode_of one ≡ mode_of two → one ≡ two
modes_once NoQuirks NoQuirks e = refl
modes_once LimitedQuirks LimitedQuirks e = refl
modes_once FullQuirks FullQuirks e = refl
modes_once _ _ e = absurd cc

pub one_document : StandsForOneDocument
one_document forest quirks d e one two =
    (modes_once d.quirks e.quirks (one.mode ∙ sym two.mode), trees_once forest (children_of forest 0) d.children e.children one.trees two.trees)
