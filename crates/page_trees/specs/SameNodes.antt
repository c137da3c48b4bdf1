-- When the nodes of a forest are those of standard_trees' store: the same numbers, with the same data and children. A name and a text are
-- characters there, and UTF-8 in the forest.
use Rattle.std.specs.Prelude.{◌≡◌, Bool, List, None, Option, Some, [], codes, length, map, unwrap_or, ℕ, ◌++◌, ◌∷◌, true}
use Rattle.std.specs.Prelude.{encode_utf8_all, if◌then◌else◌}
use Rattle.std.specs.Str.{bytes_eq}
use Rattle.standard_trees.specs.TreeStore.{AttrSpace, Before, CommentNode, ContentsNode, DoctypeNode, DocumentNode, ElementNode, EndOf}
use Rattle.standard_trees.specs.TreeStore.{Html as HtmlSpace, Kind, MathMl as MathMlSpace, NoSpace, Node, NodeAttr, Place, Space}
use Rattle.standard_trees.specs.TreeStore.{Svg as SvgSpace, TextNode, XLink as XLinkSpace, Xml as XmlSpace, XmlNs as XmlNsSpace, attrs_in}
use Rattle.standard_trees.specs.TreeStore.{changed_at, contents_in, leaf, local_in, node_at, node_before, parent_of, put_at, space_in}
use Rattle.standard_trees.specs.TreeStore.{text_in}
use Rattle.dom_nodes.specs.Kinds.{is_top}
use Rattle.dom_nodes.specs.declared.name.Attr.{Attr}
use Rattle.dom_nodes.specs.declared.name.NameParts.{NameParts}
use Rattle.dom_nodes.specs.declared.name.Namespace.{Namespace}
use Rattle.dom_nodes.specs.declared.node_data.NodeData.{NodeData}
use Rattle.dom_nodes.specs.declared.node_data.NodeData.TheVariants.{Comment, Doctype, Element, Fragment, Text}
use Rattle.dom_links.specs.Forest.{Forest}
use Rattle.dom_links.specs.declared.gap.InsertionPoint.{InsertionPoint}
use Rattle.dom_links.specs.declared.gap.InsertionPoint.TheVariants.{Before as TheBefore, EndOf as TheEndOf}

-- ---- the data of a node

abbrev pub namespace_for : Space → Namespace
namespace_for HtmlSpace = Namespace.Html
namespace_for SvgSpace = Namespace.Svg
namespace_for MathMlSpace = Namespace.MathMl

abbrev pub name_for : Space → List ℕ → NameParts
name_for space name = record { prefix = None; ns = namespace_for space; local = encode_utf8_all name }

abbrev pub attr_namespace : AttrSpace → Namespace
attr_namespace NoSpace = Namespace.None
attr_namespace XLinkSpace = Namespace.XLink
attr_namespace XmlSpace = Namespace.Xml
attr_namespace XmlNsSpace = Namespace.XmlNs

-- the prefix of an attribute's name; `xmlns` itself has none
abbrev pub attr_prefix : AttrSpace → List ℕ → Option (List ℕ)
attr_prefix NoSpace name = None
attr_prefix XLinkSpace name = Some (codes "xlink")
attr_prefix XmlSpace name = Some (codes "xml")
attr_prefix XmlNsSpace name = if bytes_eq name (codes "xmlns") then None else Some (codes "xmlns")

abbrev pub attr_for : NodeAttr → Attr
attr_for a = record {
  name = record { prefix = attr_prefix a.space a.name; ns = attr_namespace a.space; local = encode_utf8_all a.name };
  value = encode_utf8_all a.value;
}

-- a part of a doctype; one that is missing is empty
abbrev pub part_for : Option (List ℕ) → List ℕ
part_for part = encode_utf8_all (unwrap_or part [])

-- an element; the flag says that it is an `annotation-xml` whose content is HTML
abbrev pub element_for : Bool → Space → List ℕ → List NodeAttr → Option ℕ → NodeData
element_for flag space name attrs contents = Element (record {
  name = name_for space name;
  attrs = map attr_for attrs;
  template_contents = contents;
  mathml_annotation_xml_integration_point = flag;
})

-- The data are those of a node of this kind. The root of a fragment stands for the Document of the definition.
abbrev pub IsKind : Kind → NodeData → Type 0
IsKind DocumentNode content = is_top content ≡ true
IsKind ContentsNode content = content ≡ Fragment
IsKind (DoctypeNode d) content = content ≡ Doctype (part_for d.name) (part_for d.public_id) (part_for d.system_id)
IsKind (TextNode text) content = content ≡ Text (encode_utf8_all text)
IsKind (CommentNode text) content = content ≡ Comment (encode_utf8_all text)
IsKind (ElementNode space name attrs contents) content = (flag : Bool) × (content ≡ element_for flag space name attrs contents)

abbrev pub AreKinds : List Kind → List NodeData → Type 0
AreKinds [] [] = Unit {0}
AreKinds [] (content ∷ others) = ⊥
AreKinds (kind ∷ kinds) [] = ⊥
AreKinds (kind ∷ kinds) (content ∷ others) = IsKind kind content × AreKinds kinds others

-- ---- the nodes

abbrev pub IsChildless : Option ℕ → List ℕ → Type 0
IsChildless None children = Unit {0}
IsChildless (Some contents) children = children ≡ []

-- a template has no children of its own: they are those of its contents
abbrev pub AreHosts : List Node → Type 0
AreHosts [] = Unit {0}
AreHosts (node ∷ nodes) = IsChildless (contents_in node.kind) node.children × AreHosts nodes

-- the nodes of a forest are those of the definition
pub record AreNodes (nodes : List Node) (forest : Forest) : Type 0 where
  pub root : (node_at nodes 0).kind ≡ DocumentNode
  pub kinds : AreKinds (map {A = Node} (λ node. node.kind) nodes) forest.content
  pub children : map {A = Node} (λ node. node.children) nodes ≡ forest.children
  pub hosts : AreHosts nodes

-- the insertion point is this place of the definition, which is in no template but in its contents
abbrev pub IsPointOf : List Node → InsertionPoint → Place → Type 0
IsPointOf nodes gap (EndOf p) = (gap ≡ TheEndOf p) × (contents_in (node_at nodes p).kind ≡ None)
IsPointOf nodes gap (Before p m) = (gap ≡ TheBefore m) × (parent_of nodes m ≡ Some p)

-- ---- changes of the nodes

-- whatever nodes the forest before has, the one after has what the change makes of them
abbrev pub Changes : Forest → Forest → (List Node → List Node) → Type 0
Changes old new change = (nodes : List Node) → AreNodes nodes old → AreNodes (change nodes) new

-- the same of a change at the place of an insertion point
abbrev pub ChangesAt : InsertionPoint → Forest → Forest → (Place → List Node → List Node) → Type 0
ChangesAt gap old new change =
    (nodes : List Node) (spot : Place) → AreNodes nodes old → IsPointOf nodes gap spot → AreNodes (change spot nodes) new

-- a node more, and after a template the node of its contents
abbrev pub with_kind : Kind → List Node → List Node
with_kind kind nodes = elim (contents_in kind) [
  | None ↦ nodes ++ leaf kind ∷ []
  | Some contents ↦ (nodes ++ leaf kind ∷ []) ++ leaf ContentsNode ∷ []
]

-- a node more, at a place
abbrev pub with_kind_at : Kind → Place → List Node → List Node
with_kind_at kind spot nodes = put_at (length nodes) spot (with_kind kind nodes)

-- a text after the node just before a place: in that node if it is a text, and else in a node of its own
abbrev pub text_after : Option ℕ → List ℕ → Place → List Node → List Node
text_after None text spot nodes = with_kind_at (TextNode text) spot nodes
text_after (Some n) text spot nodes = elim (text_in (node_at nodes n).kind) [
  | Some before ↦ changed_at (λ node. record node { kind = TextNode (before ++ text) }) nodes n
  | None ↦ with_kind_at (TextNode text) spot nodes
]

abbrev pub with_text_at : List ℕ → Place → List Node → List Node
with_text_at text spot nodes = text_after (node_before nodes spot) text spot nodes

-- an element for the tag for which node n was made; it has no template contents
abbrev pub copy_of : Kind → Kind
copy_of kind = ElementNode (space_in kind) (local_in kind) (attrs_in kind) None

abbrev pub with_copy : ℕ → List Node → List Node
with_copy n nodes = with_kind (copy_of (node_at nodes n).kind) nodes

abbrev pub with_copy_at : ℕ → Place → List Node → List Node
with_copy_at n spot nodes = put_at (length nodes) spot (with_copy n nodes)

-- a copy of node n, into which x was moved
abbrev pub with_copy_around : ℕ → ℕ → List Node → List Node
with_copy_around n x nodes = put_at x (EndOf (length nodes)) (with_copy n nodes)

-- node y takes all children of node x, and is its only child then
abbrev pub wrapped_by : ℕ → ℕ → List Node → List Node
wrapped_by x y nodes =
    let children : List ℕ = (node_at nodes x).children in
    let taken : List Node = changed_at (λ node. record node { children = children }) nodes y in
    changed_at (λ node. record node { children = y ∷ [] }) taken x

-- a copy of node n as the only child of p, with the children that p had
abbrev pub with_copy_inside : ℕ → ℕ → List Node → List Node
with_copy_inside n p nodes = wrapped_by p (length nodes) (with_copy n nodes)
