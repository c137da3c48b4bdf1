-- The numbers that the DOM gives kinds of nodes, and the contents of templates.
use Rattle.std.specs.Prelude.{ℕ, ◌≡◌, Some, slice_get}
use Rattle.std.specs.Option.{option_and_then, option_map}
use Rattle.dom_nodes.specs.Kinds.{contents_named}
use Rattle.dom_nodes.specs.declared.node_data.NodeData.{NodeData}
use Rattle.dom_nodes.specs.declared.node_data.NodeData.TheVariants.{Comment, Doctype, Document, Element, Fragment, ProcessingInstruction, Text}
use Rattle.dom_links.specs.Forest.{Forest}

-- The DOM's `nodeType`
abbrev pub kind_number : NodeData → ℕ
kind_number (Element element) = 1
kind_number (Text contents) = 3
kind_number (ProcessingInstruction target contents) = 7
kind_number (Comment contents) = 8
kind_number Document = 9
kind_number (Doctype name public_id system_id) = 10
kind_number Fragment = 11

-- The node has the kind of that number
abbrev pub HasKind : Forest → ℕ → ℕ → Type 0
HasKind forest n kind = option_map kind_number (slice_get forest.content n) ≡ Some kind

-- The node is a template, and the fragment of that number holds its contents
abbrev pub HasContents : Forest → ℕ → ℕ → Type 0
HasContents forest n contents = option_and_then contents_named (slice_get forest.content n) ≡ Some contents
