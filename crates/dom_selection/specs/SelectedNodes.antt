-- The nodes of a selection.
use Rattle.std.specs.Prelude.{List, [], ◌∷◌}
use Rattle.dom_trees.specs.declared.node_ref.NodeRef.{NodeRef}
use Rattle.dom_selection.specs.declared.selection.Nodes.{Nodes}
use Rattle.dom_selection.specs.declared.selection.Nodes.TheVariants.{One, Several}

-- The list of the nodes.
abbrev pub nodes_in : Nodes → List NodeRef
nodes_in (One node) = node ∷ []
nodes_in (Several nodes) = nodes.items
