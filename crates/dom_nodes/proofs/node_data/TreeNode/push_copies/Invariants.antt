use Rattle.std.proofs.Common.{◌≡◌, ◌++◌, take}
use Rattle.dom_nodes.proofs.node_data.TreeNode.push_copies.Given as goal

-- the nodes so far are copied
abbrev pub invariant-loop-node : goal.invariant-loop-node
invariant-loop-node l = l.made.items ≡ l.fn.made.items ++ take l.node-index l.nodes
