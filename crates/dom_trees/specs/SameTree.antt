-- When two nodes, of one tree or of two, are the roots of equal subtrees.
use Rattle.std.specs.Prelude.{◌≡◌, ◌<◌, ℕ, false, List, [], ◌∷◌, Option, None, length, map, slice_get}
use Rattle.std.specs.Option.{option_map}
use Rattle.dom_nodes.specs.declared.name.Attr.{Attr}
use Rattle.dom_nodes.specs.declared.node_data.NodeData.{NodeData}
use Rattle.dom_nodes.specs.declared.node_data.NodeData.TheVariants.{Element}
use Rattle.dom_links.specs.Copying.{AreNodesOf}
use Rattle.dom_links.specs.Forest.{Forest}
use Rattle.dom_links.specs.Trees.{Trees, NoTrees, Tree, trees}

-- The attribute without the prefix of its name.
abbrev pub without_prefix : Attr → Attr
without_prefix attr = record { name = record { prefix = None; ns = attr.name.ns; local = attr.name.local }; value = attr.value }

-- What is compared of a node: its kind, its name with namespace and prefix, its texts, and its
-- attributes without their prefixes. Those prefixes and the MathML flag don't show in written HTML.
-- Template contents are compared as trees.
abbrev pub compared : NodeData → NodeData
compared (Element element) = Element (record {
  name = element.name;
  attrs = map without_prefix element.attrs;
  template_contents = None;
  mathml_annotation_xml_integration_point = false;
})
compared content = content

-- The shape of a list of trees, without ids: what is compared of the first root, then the shapes of
-- its template contents, of its children and of the later trees.
pub data TreeShape : Type 0 where
  nothing : TreeShape
  shape_of_tree : (root : Option NodeData) (contents children later : TreeShape) → TreeShape

-- The shape of trees of a forest.
abbrev pub tree_shape : Forest → Trees → TreeShape
tree_shape forest NoTrees = nothing
tree_shape forest (Tree n contents children later) =
    shape_of_tree (option_map compared (slice_get forest.content n)) (tree_shape forest contents) (tree_shape forest children) (tree_shape forest later)

-- Both nodes exist, and their subtrees, template contents included, are equal in everything that
-- `compared` keeps.
pub record SameTree (one : Forest) (n : ℕ) (other : Forest) (m : ℕ) : Type 0 where
  pub known : n < length one.content
  pub other_known : m < length other.content
  pub same : tree_shape one (trees one (n ∷ [])) ≡ tree_shape other (trees other (m ∷ []))

-- Nodes of one forest and nodes of another one are the roots of equal subtrees, one by one.
pub record SameTrees (one : Forest) (ns : List ℕ) (other : Forest) (ms : List ℕ) : Type 0 where
  pub known : AreNodesOf one ns
  pub other_known : AreNodesOf other ms
  pub same : tree_shape one (trees one ns) ≡ tree_shape other (trees other ms)
