-- Mutable access to a node of a tree: what the tree is when the borrow ends, and what calls through
-- the borrow promise.
use Rattle.std.specs.Prelude.{◌≡◌, Option, Result}
use Rattle.std.specs.Borrow.{Fml, MutBor, RestsIfNone}
use Rattle.dom_nodes.specs.Change.{changed}
use Rattle.dom_nodes.specs.declared.fault.EditFault.{EditFault}
use Rattle.dom_nodes.specs.declared.node_data.changing.Change.{Change}
use Rattle.dom_links.specs.Contents.{with_content}
use Rattle.dom_links.specs.Forest.{Forest}
use Rattle.dom_trees.specs.Edits.{Edits, TreeEdit}
use Rattle.dom_trees.specs.declared.node_mut.NodeMut.{NodeMut}
use Rattle.dom_trees.specs.contracts.tree.Tree.{the_row}

-- When the borrow ends, the tree is as the borrowed node leaves it; if nothing was borrowed, it is
-- unchanged.
abbrev pub LendsNode : MutBor Forest → Option NodeMut → Fml
LendsNode tree lent = RestsIfNone the_row tree (λ node. node.tree.ghost_name) lent (λ left. left ≡ tree.now)

-- The node has the same id, and the same tree is borrowed.
pub record IsSameLoan (old new : NodeMut) : Type 0 where
  pub same_node : new.id ≡ old.id
  pub same_tree : new.tree.ghost_name ≡ old.tree.ghost_name

-- The borrowed tree was edited, as `Edits` says, and the node and the borrow are the same.
pub record EditsAt (result : Result Unit EditFault) (old new : NodeMut) (edit : TreeEdit) : Type 0 where
  pub edits : Edits result old.tree.now new.tree.now edit
  pub loan : IsSameLoan old new

-- The change was applied to the node in the borrowed tree, and the node and the borrow are the
-- same.
pub record ChangesAt (old new : NodeMut) (change : Change) : Type 0 where
  pub made : new.tree.now ≡ with_content old.id (changed change) old.tree.now
  pub loan : IsSameLoan old new

-- The borrowed tree is now `after` of what it was, and the node and the borrow are the same.
pub record LeavesAt (old new : NodeMut) (after : Forest → Forest) : Type 0 where
  pub made : new.tree.now ≡ after old.tree.now
  pub loan : IsSameLoan old new
