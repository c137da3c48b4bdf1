-- Mutable access to the element in a node: what the node is when the borrow ends.
use Rattle.std.specs.Prelude.{Option}
use Rattle.std.specs.Borrow.{LendsIf, MutBor, Fml}
use Rattle.dom_nodes.specs.Elements.{Element}
use Rattle.dom_nodes.specs.declared.node_data.NodeData.{NodeData}
use Rattle.dom_nodes.specs.declared.node_data.NodeData.TheVariants.{Element as AnElement}
use Rattle.dom_nodes.specs.declared.node_data.TreeNode.{TreeNode}
use Rattle.dom_nodes.specs.contracts.node_data.Element.{the_row as element_row}
use Rattle.dom_nodes.specs.contracts.node_data.NodeData.{the_row as data_row}
use Rattle.dom_nodes.specs.contracts.node_data.TreeNode.{the_row as node_row}

-- When the borrow ends, the data is the element as it was left; if nothing was borrowed, it is
-- unchanged.
abbrev pub LendsElement : MutBor NodeData → Option (MutBor Element) → Fml
LendsElement node lent = LendsIf data_row element_row node lent (λ element. AnElement element) node.now

-- When the borrow ends, the node's data is the element as it was left; if nothing was borrowed, it
-- is unchanged.
abbrev pub LendsElementOf : MutBor TreeNode → Option (MutBor Element) → Fml
LendsElementOf node lent =
    LendsIf node_row element_row node lent (λ element. record node.now { content = AnElement element }) node.now
