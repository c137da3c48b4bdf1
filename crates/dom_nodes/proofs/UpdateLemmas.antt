-- Edits of nodes, one after the other.
use Rattle.std.proofs.Common.{◌≡◌, refl}
use Rattle.dom_nodes.specs.declared.node_data.NodeData.{NodeData}
use Rattle.dom_nodes.specs.declared.node_data.NodeData.TheVariants.{Element}
use Rattle.dom_nodes.specs.declared.node_data.node_edit.NodeEdit.{NodeEdit}
use Rattle.dom_nodes.specs.Updates.{with_edit}

pub with_edit-with_edit : (edit other : NodeEdit) (node : NodeData) → with_edit edit (with_edit other node) ≡ with_edit edit node
with_edit-with_edit edit other (Element element) = refl
with_edit-with_edit edit other _ = refl
