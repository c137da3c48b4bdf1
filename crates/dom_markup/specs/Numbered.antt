-- The document that value trees describe: its nodes with their ids, in the order in which they start in the text.
use Rattle.std.specs.Prelude.{ℕ, ◌+◌, List, [], ◌∷◌, ◌++◌, map, Option, None, Some, false, if◌then◌else◌}
use Rattle.dom_nodes.specs.declared.name.Attr.{Attr}
use Rattle.dom_nodes.specs.declared.name.Namespace.TheVariants.{None as NoNamespace}
use Rattle.dom_trees.specs.NewNodes.{html_name}
use Rattle.dom_nodes.specs.declared.node_data.NodeData.{NodeData}
use Rattle.dom_nodes.specs.declared.node_data.NodeData.TheVariants.{Document, Fragment, Doctype, Comment, Text, Element}
use Rattle.dom_links.specs.Forest.{Forest}
use Rattle.dom_links.specs.Lists.{map_from, names}
use Rattle.dom_markup.specs.Names.{is_template}
use Rattle.dom_markup.specs.ValueTrees.{Attribute, ValueTrees}
use Rattle.dom_markup.specs.ValueTrees.ValueTrees.{no_trees, text_node, comment_node, doctype_node, element_node}

-- a node: the id of its parent, and its data
pub record Row : Type 0 where
  pub parent : Option ℕ
  pub content : NodeData

-- a parsed attribute, which has no namespace
abbrev pub read_attr : Attribute → Attr
read_attr attribute = record { name = record { prefix = None; ns = NoNamespace; local = attribute.name }; value = attribute.value }

-- a parsed element, which is in the HTML namespace and has no prefix
abbrev pub read_element : List ℕ → List Attribute → Option ℕ → NodeData
read_element name attributes contents = Element (record {
  name = html_name name;
  attrs = map read_attr attributes;
  template_contents = contents;
  mathml_annotation_xml_integration_point = false;
})

-- how many nodes the trees have; a template counts twice, since its contents are a fragment node
abbrev pub size : ValueTrees → ℕ
size no_trees = 0
size (text_node contents later) = 1 + size later
size (comment_node contents later) = 1 + size later
size (doctype_node name public system later) = 1 + size later
size (element_node name attributes children later) = (if is_template name then 2 else 1) + size children + size later

-- The nodes of trees below the parent `p`, in document order, where the first has the id `n`. The contents fragment of a template
-- has the next id after the template.
abbrev pub rows_from : ℕ → ℕ → ValueTrees → List Row
rows_from p n no_trees = []
rows_from p n (text_node contents later) = record { parent = Some p; content = Text contents } ∷ rows_from p (n + 1) later
rows_from p n (comment_node contents later) = record { parent = Some p; content = Comment contents } ∷ rows_from p (n + 1) later
rows_from p n (doctype_node name public system later) = record { parent = Some p; content = Doctype name public system } ∷ rows_from p (n + 1) later
rows_from p n (element_node name attributes children later) =
    if is_template name then
    record { parent = Some p; content = read_element name attributes (Some (n + 1)) } ∷ (record { parent = None; content = Fragment } ∷ (rows_from (n + 1) (n + 2) children ++ rows_from p (n + 2 + size children) later))
    else record { parent = Some p; content = read_element name attributes None } ∷ (rows_from n (n + 1) children ++ rows_from p (n + 1 + size children) later)

-- a document node, and these trees below it
abbrev pub rows_of : ValueTrees → List Row
rows_of trees = record { parent = None; content = Document } ∷ rows_from 0 1 trees

-- the ids, counted from `i`, of the nodes whose parent is `p`
abbrev pub children_among : ℕ → List Row → ℕ → List ℕ
children_among i [] p = []
children_among i (row ∷ rows) p = if names row.parent p then i ∷ children_among (i + 1) rows p else children_among (i + 1) rows p

-- a node without a parent is alone in its list of siblings
abbrev pub run_among : ℕ → Option ℕ → List ℕ
run_among n None = n ∷ []
run_among n (Some p) = []

-- the forest of these nodes, whose ids are their positions; the children of each are in the order of their ids
abbrev pub forest_of_rows : List Row → Forest
forest_of_rows rows = record {
  content = map (λ row. row.content) rows;
  children = map_from 0 (λ p row. children_among 0 rows p) rows;
  runs = map_from 0 (λ n row. run_among n row.parent) rows;
}

-- the document with these trees below its root
unfoldable pub document_of : ValueTrees → Forest
document_of trees = forest_of_rows (rows_of trees)
