-- The roots below which a selector selects.
use Rattle.std.specs.Prelude.{ℕ, List, map}
use Rattle.dom_trees.specs.declared.node_ref.NodeRef.{NodeRef}
use Rattle.dom_select.specs.declared.matcher.roots.Roots.{Roots}
use Rattle.dom_select.specs.declared.matcher.roots.Roots.TheVariants.{Numbers, Nodes}

abbrev pub node_ids : List NodeRef → List ℕ
node_ids nodes = map (λ node. node.id) nodes

-- the ids of the roots
abbrev pub root_ids : Roots → List ℕ
root_ids (Numbers ids) = ids.now
root_ids (Nodes nodes) = node_ids nodes.now
