-- HTML serialization: the text of a node, by cases on its kind.
use Rattle.std.specs.Prelude.{ℕ, ◌&&◌, Bool, true, false, if◌then◌else◌, List, [], ◌∷◌, ◌++◌, slice_get, codes}
use Rattle.std.specs.List.{flat_map}
use Rattle.std.specs.Option.{option_map_or}
use Rattle.std.specs.Str.{bytes_eq}
use Rattle.dom_nodes.specs.declared.name.Attr.{Attr}
use Rattle.dom_nodes.specs.declared.name.NameParts.{NameParts}
use Rattle.dom_nodes.specs.declared.name.Namespace.{Namespace}
use Rattle.dom_nodes.specs.declared.name.Namespace.TheVariants.{None as NoNamespace, Html, XLink, Xml, XmlNs}
use Rattle.dom_nodes.specs.Elements.{Element}
use Rattle.dom_nodes.specs.declared.node_data.NodeData.{NodeData}
use Rattle.dom_nodes.specs.declared.node_data.NodeData.TheVariants.{Document, Fragment, Doctype, Text, Comment, Element as AnElement, ProcessingInstruction}
use Rattle.dom_links.specs.Forest.{Forest, children_of, parent}
use Rattle.dom_links.specs.Trees.{Trees, NoTrees, Tree, trees}
use Rattle.dom_nodes.specs.Words.{is_among}
use Rattle.dom_markup.specs.Names.{void_names, raw_names}
use Rattle.dom_nodes.specs.Escaping.{escaped_value}
use Rattle.dom_markup.specs.Escaping.{escaped_text}

-- ---- names

abbrev pub is_html : Namespace → Bool
is_html Html = true
is_html _ = false

-- a void element, which is written as a start tag alone
abbrev pub is_void : Element → Bool
is_void element = is_html element.name.ns && is_among element.name.local void_names

-- an element whose text children are written without escaping, such as `script`
abbrev pub is_raw : Element → Bool
is_raw element = is_html element.name.ns && is_among element.name.local raw_names

-- the prefix that is written before an attribute's local name, which depends on its namespace
abbrev pub prefix_text : NameParts → List ℕ
prefix_text name = prefix_in name.ns name.local
  where
    prefix_in : Namespace → List ℕ → List ℕ
    prefix_in NoNamespace local = []
    prefix_in Xml local = codes "xml:"
    prefix_in XLink local = codes "xlink:"
    prefix_in XmlNs local = if bytes_eq local (codes "xmlns") then [] else codes "xmlns:"
    prefix_in _ local = codes "unknown_namespace:"

abbrev pub attr_text : Attr → List ℕ
attr_text attr = codes " " ++ (prefix_text attr.name ++ (attr.name.local ++ (codes "=\"" ++ (escaped_value attr.value ++ codes "\""))))

abbrev pub start_tag : Element → List ℕ
start_tag element = codes "<" ++ (element.name.local ++ (flat_map attr_text element.attrs ++ codes ">"))

abbrev pub end_tag : List ℕ → List ℕ
end_tag name = codes "</" ++ (name ++ codes ">")

-- ---- nodes

-- text children of the node are written without escaping
abbrev pub keeps_texts : NodeData → Bool
keeps_texts (AnElement element) = is_raw element
keeps_texts _ = false

-- the node is a void element, so nothing is written inside it
abbrev pub is_void_node : NodeData → Bool
is_void_node (AnElement element) = is_void element
is_void_node _ = false

-- What is written first for a node: a start tag, a text, a comment and so on. `raw` says that a text is not escaped.
abbrev pub opening : NodeData → Bool → List ℕ
opening Document raw = []
opening Fragment raw = []
opening (Doctype name public_id system_id) raw = codes "<!DOCTYPE " ++ (name ++ codes ">")
opening (Text contents) raw = if raw then contents else escaped_text contents
opening (Comment contents) raw = codes "<!--" ++ (contents ++ codes "-->")
opening (ProcessingInstruction target contents) raw = codes "<?" ++ (target ++ (codes " " ++ (contents ++ codes ">")))
opening (AnElement element) raw = start_tag element

-- the end tag of an element, and nothing for other nodes
abbrev pub closing : NodeData → List ℕ
closing (AnElement element) = end_tag element.name.local
closing _ = []

-- What is written after that: the template contents, the children, and the end tag. A void element has none of the three.
abbrev pub following : NodeData → List ℕ → List ℕ → List ℕ
following Document inner below = below
following Fragment inner below = below
following (AnElement element) inner below = if is_void element then [] else inner ++ (below ++ end_tag element.name.local)
following _ inner below = []

abbrev pub node_text : NodeData → Bool → List ℕ → List ℕ → List ℕ
node_text content raw inner below = opening content raw ++ following content inner below

-- The text of a list of trees. `raw` says that texts at the top level are not escaped.
abbrev pub trees_text : Forest → Bool → Trees → List ℕ
trees_text forest raw NoTrees = []
trees_text forest raw (Tree n contents children later) =
    option_map_or (λ content. node_text content raw (trees_text forest false contents) (trees_text forest (keeps_texts content) children)) (slice_get forest.content n) []
    ++ trees_text forest raw later

-- text children of node `n` are written without escaping
abbrev pub keeps_below : Forest → ℕ → Bool
keeps_below forest n = option_map_or keeps_texts (slice_get forest.content n) false

-- A text with such a parent is not escaped either if writing starts at the text itself.
abbrev pub is_kept : Forest → ℕ → Bool
is_kept forest n = option_map_or (keeps_below forest) (parent forest n) false

-- the outer HTML of a node; empty if the forest has no such node
unfoldable pub html_of : Forest → ℕ → List ℕ
html_of forest n = trees_text forest (is_kept forest n) (trees forest (n ∷ []))

-- whether the node is a void element, so nothing is written inside it
abbrev pub is_bare : Forest → ℕ → Bool
is_bare forest n = option_map_or is_void_node (slice_get forest.content n) false

-- the inner HTML of a node: the HTML of its children
unfoldable pub inner_html_of : Forest → ℕ → List ℕ
inner_html_of forest n = if is_bare forest n then [] else trees_text forest (keeps_below forest n) (trees forest (children_of forest n))
