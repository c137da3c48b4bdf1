-- Changes of the data of one node.
use Rattle.std.specs.Prelude.{ℕ, Bool, false, zero, suc, ◌≡◌, ◌≢◌, ◌≤◌, List, [], ◌∷◌, Some, length, slice_get, IfSome}
use Rattle.std.specs.Option.{option_map_or}
use Rattle.dom_nodes.specs.declared.node_data.NodeData.{NodeData}
use Rattle.dom_nodes.specs.declared.node_data.TreeNode.{TreeNode}
use Rattle.dom_nodes.specs.declared.node_data.node_edit.NodeEdit.{NodeEdit}
use Rattle.dom_nodes.specs.Kinds.{contents_named, is_fragment, is_top, children_allowed}
use Rattle.dom_nodes.specs.declared.node_data.changing.Change.{Change}
use Rattle.dom_nodes.specs.Change.{may_allocate_of}
use Rattle.dom_nodes.specs.Updates.{edit_of, with_edit}
use Rattle.dom_links.specs.Forest.{Forest, forest_of}
use Rattle.dom_links.specs.Sound.{IsForest, IsSoundArena}

-- The list with the element at index x changed. An index past the end changes nothing.
abbrev pub changed_at : {X : Type 0} → ℕ → (X → X) → List X → List X
changed_at x change [] = []
changed_at zero change (y ∷ ys) = change y ∷ ys
changed_at (suc x) change (y ∷ ys) = y ∷ changed_at x change ys

-- The forest with the data of node x changed. Children and runs stay.
abbrev pub with_content : ℕ → (NodeData → NodeData) → Forest → Forest
with_content x change forest = record forest { content = changed_at x change forest.content }

-- Two values of a node's data agree in everything that `IsForest` requires: the kind and the
-- template contents.
pub record SameKind (old new : NodeData) : Type 0 where
  pub top : is_top new ≡ is_top old
  pub fragment : is_fragment new ≡ is_fragment old
  pub parents_allow : children_allowed new ≡ children_allowed old
  pub contents : contents_named new ≡ contents_named old

-- The change keeps the kind and the template contents of any node.
abbrev pub KeepsKind : (NodeData → NodeData) → Type 0
KeepsKind change = (content : NodeData) → SameKind content (change content)

-- The data of node x was changed. All ids and links are as before, and the nodes are still a sound
-- arena.
pub record Changed (old new : List TreeNode) (x : ℕ) (change : NodeData → NodeData) : Type 0 where
  pub made : forest_of new ≡ with_content x change (forest_of old)
  pub sound : IsSoundArena new

-- The data of node x was updated by some edit that `MayLeave` allows, such as what a closure
-- returns.
pub record IsUpdatedAt (MayLeave : NodeEdit → NodeEdit → Type 0) (x : ℕ) (old new : Forest) : Type 0 where
  pub edit : NodeEdit
  pub left : IfSome (slice_get old.content x) (λ content. MayLeave (edit_of content) edit)
  pub made : new ≡ with_content x (with_edit edit) old

-- Whether the change of node x may allocate memory.
abbrev pub may_allocate_at : Forest → ℕ → Change → Bool
may_allocate_at forest x change = option_map_or (may_allocate_of change) (slice_get forest.content x) false

-- What a change of one node's data does to a forest: the node is changed, other nodes aren't, an
-- unknown id changes nothing, and a change that keeps kinds keeps a forest.
pub record AreChanges (forest : Forest) : Type 0 where
  pub here : (x : ℕ) (change : NodeData → NodeData) (content : NodeData) → slice_get forest.content x ≡ Some content →
      slice_get (with_content x change forest).content x ≡ Some (change content)
  pub elsewhere : (x n : ℕ) (change : NodeData → NodeData) → x ≢ n → slice_get (with_content x change forest).content n ≡ slice_get forest.content n
  pub past : (x : ℕ) (change : NodeData → NodeData) → length forest.content ≤ x → with_content x change forest ≡ forest
  pub kept : (x : ℕ) (change : NodeData → NodeData) → KeepsKind change → IsForest forest → IsForest (with_content x change forest)
