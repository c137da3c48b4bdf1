-- Copies of nodes with their subtrees.
use Rattle.std.specs.Prelude.{ℕ, ◌≡◌, ◌<◌, ◌≤◌, ◌+◌, true, List, [], ◌∷◌, Option, Some, None, Result, IfErr, IfOk, OnErr, OnOk, length, false, slice_get, slice_index_or}
use Rattle.std.specs.Option.{option_map, option_map_or}
use Rattle.std.specs.List.{AllByRecursion}
use Rattle.std.specs.Global.{Vec}
use Rattle.dom_nodes.specs.declared.fault.EditFault.{EditFault}
use Rattle.dom_nodes.specs.declared.fault.EditFault.TheVariants.{UnknownNode, RootOrFragment, TooManyNodes, Memory}
use Rattle.dom_nodes.specs.declared.node_data.NodeData.{NodeData}
use Rattle.dom_nodes.specs.declared.node_data.NodeData.TheVariants.{Element, Fragment}
use Rattle.dom_nodes.specs.declared.node_data.TreeNode.{TreeNode}
use Rattle.dom_nodes.specs.Kinds.{contents_named, is_element, is_top}
use Rattle.dom_links.specs.Forest.{Forest, children_of, forest_of, run_of}
use Rattle.dom_links.specs.Growth.{lone, with_child, with_node}
use Rattle.dom_links.specs.ListMoves.{SomeOf}
use Rattle.dom_links.specs.Sound.{IsSoundArena}
use Rattle.dom_links.specs.Trees.{NoTrees, Tree, Trees, trees}

-- The data with the template contents of an element replaced.
abbrev pub with_contents : Option ℕ → NodeData → NodeData
with_contents contents (Element element) = Element (record element { template_contents = contents })
with_contents contents content = content

-- The data of a copy with the id k. If it has template contents, their copy gets the next id.
abbrev pub copied_data : ℕ → NodeData → NodeData
copied_data k content = with_contents (option_map (λ _. k + 1) (contents_named content)) content

-- The forest with a new node, as the last child of p or detached.
abbrev pub with_node_below : Option ℕ → NodeData → Forest → Forest
with_node_below None content forest = with_node content forest
with_node_below (Some p) content forest = with_child p content forest

-- The data of node n in the source.
abbrev pub data_at : Forest → ℕ → NodeData
data_at source n = slice_index_or source.content n Fragment

-- The forest with copies of trees of a source. Each root becomes the last child of p, or is
-- detached. After it come the copies of its template contents, then those of its children, then
-- those of the later trees.
abbrev pub with_copies : Forest → Option ℕ → Trees → Forest → Forest
with_copies source p NoTrees forest = forest
with_copies source p (Tree n contents children later) forest =
    with_copies source p later
    (with_copies source (Some (length forest.content)) children
    (with_copies source None contents
    (with_node_below p (copied_data (length forest.content) (data_at source n)) forest)))

-- The forest with copies of the nodes `ns` of a source with their subtrees, as the last children of
-- p or each detached.
abbrev pub copied_below : Forest → Option ℕ → List ℕ → Forest → Forest
copied_below source p ns forest = with_copies source p (trees source ns) forest

-- The forest with copies of the nodes `ns` of a source with their subtrees, each detached.
abbrev pub copied : Forest → List ℕ → Forest → Forest
copied source ns forest = copied_below source None ns forest

-- The number of nodes in the trees, template contents included.
abbrev pub node_count : Trees → ℕ
node_count NoTrees = 0
node_count (Tree n contents children later) = 1 + node_count contents + node_count children + node_count later

-- The ids of the roots if all nodes of the trees are numbered from k on.
abbrev pub root_numbers : ℕ → Trees → List ℕ
root_numbers k NoTrees = []
root_numbers k (Tree n contents children later) = k ∷ root_numbers (k + node_count (Tree n contents children NoTrees)) later

-- The ids that the copies of the nodes `ns` get.
abbrev pub copy_numbers : Forest → List ℕ → Forest → List ℕ
copy_numbers source ns forest = root_numbers (length forest.content) (trees source ns)

-- The new forest has all nodes of the old one, with the same data, children and runs. It may have
-- more nodes.
pub record Extends (old new : Forest) : Type 0 where
  pub longer : length old.content ≤ length new.content
  pub contents : (n : ℕ) → n < length old.content → slice_get new.content n ≡ slice_get old.content n
  pub children : (n : ℕ) → n < length old.content → children_of new n ≡ children_of old n
  pub runs : (n : ℕ) → n < length old.content → run_of new n ≡ run_of old n

-- The node exists and is no document and no fragment.
pub record MayCopyOne (source : Forest) (n : ℕ) : Type 0 where
  pub known : n < length source.content
  pub no_top : option_map_or is_top (slice_get source.content n) false ≡ false

-- Each of the nodes may be copied.
abbrev pub MayCopy : Forest → List ℕ → Type 0
MayCopy source ns = AllByRecursion (MayCopyOne source) ns

-- When copying a node may fail: `UnknownNode` for an unknown id, `RootOrFragment` for a document or
-- a fragment.
abbrev pub OneCause : Forest → ℕ → EditFault → Type 0
OneCause source n UnknownNode = length source.content ≤ n
OneCause source n RootOrFragment = option_map_or is_top (slice_get source.content n) false ≡ true
OneCause source n _ = ⊥

-- When testing several nodes may fail: one of them has this fault.
abbrev pub CheckCause : Forest → List ℕ → EditFault → Type 0
CheckCause source ns fault = SomeOf ns (λ n. OneCause source n fault)

-- When copying may fail: a node can't be copied, there aren't enough ids for all copies, or memory
-- is refused.
abbrev pub CopyCause : Forest → List ℕ → Forest → EditFault → Type 0
CopyCause source ns forest TooManyNodes = 4294967295 < length (copied source ns forest).content
CopyCause source ns forest Memory = Unit {0}
CopyCause source ns forest fault = CheckCause source ns fault

-- The result of copying nodes into an arena. On success, `named` gives the ids of the copies from
-- the result; on an error the forest is unchanged.
pub record CopiesNodes {A : Type 0} (named : A → List ℕ) (result : Result A EditFault) (source : Forest) (old new : List TreeNode) (ns : List ℕ) : Type 0 where
  pub made : OnOk result (forest_of new ≡ copied source ns (forest_of old))
  pub numbers : IfOk result (λ made. named made ≡ copy_numbers source ns (forest_of old))
  pub allowed : OnOk result (MayCopy source ns)
  pub err : OnErr result (forest_of new ≡ forest_of old)
  pub cause : IfErr result (CopyCause source ns (forest_of old))
  pub sound : IsSoundArena new

-- The result of `merge` and `copy_nodes`: the ids of the copies are returned.
abbrev pub Copied : Result (Vec ℕ) EditFault → Forest → List TreeNode → List TreeNode → List ℕ → Type 0
Copied result source old new ns = CopiesNodes (λ made. made.items) result source old new ns

-- The result of `merge_one`: the id of the one copy is returned.
abbrev pub CopiedOne : Result ℕ EditFault → Forest → List TreeNode → List TreeNode → List ℕ → Type 0
CopiedOne result source old new ns = CopiesNodes (λ made. made ∷ []) result source old new ns

-- A fragment as the root, with the element `html` as its child, and copies of nodes of a source as
-- the children of that.
abbrev pub fragment_of : NodeData → Forest → List ℕ → Forest
fragment_of html source ns = copied_below source (Some 1) ns (with_child 0 html (lone Fragment))

-- When making such a fragment may fail: a node can't be copied, there aren't enough ids, or memory
-- is refused.
abbrev pub FragmentCause : NodeData → Forest → List ℕ → EditFault → Type 0
FragmentCause html source ns TooManyNodes = 4294967295 < length (fragment_of html source ns).content
FragmentCause html source ns Memory = Unit {0}
FragmentCause html source ns fault = CheckCause source ns fault

-- An element without template contents.
pub record IsPlainElement (content : NodeData) : Type 0 where
  pub element : is_element content ≡ true
  pub no_contents : contents_named content ≡ None
