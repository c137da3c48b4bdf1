-- The data of new nodes.
use Rattle.std.specs.Prelude.{ℕ, codes, false, List, [], None, Some}
use Rattle.dom_nodes.specs.declared.name.Attr.{Attr}
use Rattle.dom_nodes.specs.declared.name.NameParts.{NameParts}
use Rattle.dom_nodes.specs.declared.name.Namespace.TheVariants.{Html}
use Rattle.dom_nodes.specs.declared.node_data.NodeData.{NodeData}
use Rattle.dom_nodes.specs.declared.node_data.NodeData.TheVariants.{Comment, Doctype, Element, ProcessingInstruction, Text}

-- The name in the HTML namespace with this local name, without prefix.
abbrev pub html_name : List ℕ → NameParts
html_name name = record { prefix = None; ns = Html; local = name }

-- The element with this name, without attributes and template contents.
abbrev pub bare_element : NameParts → NodeData
bare_element name = Element (record {
  name = name;
  attrs = [];
  template_contents = None;
  mathml_annotation_xml_integration_point = false;
})

-- The element with this name, these attributes and these template contents.
abbrev pub element_with : NameParts → List Attr → ℕ → NodeData
element_with name attrs contents = Element (record {
  name = name;
  attrs = attrs;
  template_contents = Some contents;
  mathml_annotation_xml_integration_point = false;
})

-- A text.
abbrev pub text_node : List ℕ → NodeData
text_node text = Text text

-- A comment.
abbrev pub comment_node : List ℕ → NodeData
comment_node text = Comment text

-- A processing instruction.
abbrev pub instruction_node : List ℕ → List ℕ → NodeData
instruction_node target contents = ProcessingInstruction target contents

-- A doctype.
abbrev pub doctype_node : List ℕ → List ℕ → List ℕ → NodeData
doctype_node name public_id system_id = Doctype name public_id system_id

-- The element `html` in a fragment.
abbrev pub html_root_element : NodeData
html_root_element = bare_element (html_name (codes "html"))
