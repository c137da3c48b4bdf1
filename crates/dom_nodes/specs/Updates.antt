-- Updates of a node by a closure: what they may change.
use Rattle.std.specs.Prelude.{◌≡◌, []}
use Rattle.dom_nodes.specs.declared.node_data.NodeData.{NodeData}
use Rattle.dom_nodes.specs.declared.node_data.NodeData.TheVariants.{Element, Text, Comment}
use Rattle.dom_nodes.specs.declared.node_data.node_edit.NodeEdit.{NodeEdit}
use Rattle.dom_nodes.specs.Changes.{plain_name}

-- The edit without name, attributes and contents.
abbrev pub empty_edit : NodeEdit
empty_edit = record { name = plain_name []; attrs = []; contents = [] }

-- What an update may change of this node: the name and the attributes of an element, the contents
-- of a text or a comment. The parts that the node doesn't have are empty.
abbrev pub edit_of : NodeData → NodeEdit
edit_of (Element element) = record { name = element.name; attrs = element.attrs; contents = [] }
edit_of (Text contents) = record { name = plain_name []; attrs = []; contents = contents }
edit_of (Comment contents) = record { name = plain_name []; attrs = []; contents = contents }
edit_of node = empty_edit

-- The node with these parts. Its kind and all else stay.
abbrev pub with_edit : NodeEdit → NodeData → NodeData
with_edit edit (Element element) = Element (record element { name = edit.name; attrs = edit.attrs })
with_edit edit (Text contents) = Text edit.contents
with_edit edit (Comment contents) = Comment edit.contents
with_edit edit node = node

-- The new node is the old one with some edit that `MayLeave` allows, such as what a closure
-- returns.
pub record IsUpdated (MayLeave : NodeEdit → NodeEdit → Type 0) (old new : NodeData) : Type 0 where
  pub edit : NodeEdit
  pub left : MayLeave (edit_of old) edit
  pub node : new ≡ with_edit edit old
