-- Edits of an arena that may fail.
use Rattle.std.specs.Prelude.{ℕ, ◌≡◌, ◌+◌, Result, IfErr, IfOk, OnErr, OnOk, vec_len}
use Rattle.std.specs.Global.{Vec}
use Rattle.dom_nodes.specs.declared.fault.EditFault.{EditFault}
use Rattle.dom_nodes.specs.declared.node_data.NodeData.{NodeData}
use Rattle.dom_nodes.specs.declared.node_data.TreeNode.{TreeNode}
use Rattle.dom_links.specs.Forest.{Forest, forest_of}
use Rattle.dom_links.specs.Growth.{DataCause, HasFreeContents, MayAppend, NodeCause, with_child, with_node}
use Rattle.dom_links.specs.Sound.{IsSoundArena}

-- An edit: the forest that it leaves, the condition under which it is allowed, and what must be
-- true when it fails with a fault.
pub record TreeEdit : Type 1 where
  pub after : Forest → Forest
  pub Allowed : Forest → Type 0
  pub Cause : Forest → EditFault → Type 0

-- Making a detached node.
abbrev pub making : NodeData → TreeEdit
making content = record {
  after = with_node content;
  Allowed = λ forest. HasFreeContents forest content;
  Cause = λ forest fault. NodeCause forest content fault;
}

-- Making a node as the last child of t.
abbrev pub appending : ℕ → NodeData → TreeEdit
appending t content = record {
  after = with_child t content;
  Allowed = λ forest. MayAppend forest t content;
  Cause = λ forest fault. DataCause forest t content fault;
}

-- The result of an edit without a value. On success the arena holds the forest `after`; on an error
-- nothing changes and the fault has its cause.
pub record Becomes (result : Result Unit EditFault) (old new : Vec TreeNode) (after : Forest → Forest) (Cause : Forest → EditFault → Type 0) : Type 0 where
  pub made : OnOk result (forest_of new.items ≡ after (forest_of old.items))
  pub err : OnErr result (new.items ≡ old.items)
  pub cause : IfErr result (Cause (forest_of old.items))
  pub sound : IsSoundArena new.items

-- The result of an edit that makes a node. On success the arena holds the edited forest and the
-- result is the next id; on an error nothing changes and the fault has its cause.
pub record MakesNode (result : Result ℕ EditFault) (old new : Vec TreeNode) (edit : TreeEdit) : Type 0 where
  pub made : OnOk result (forest_of new.items ≡ edit.after (forest_of old.items))
  pub number : IfOk result (λ id. id ≡ vec_len old)
  pub allowed : OnOk result (edit.Allowed (forest_of old.items))
  pub err : OnErr result (new.items ≡ old.items)
  pub cause : IfErr result (edit.Cause (forest_of old.items))
  pub sound : IsSoundArena new.items

-- The result of appending `count` nodes to the arena. On success the result is the id of the first
-- one; on an error nothing changes. The cause of the fault may depend on the number of nodes
-- before.
pub record AddsNodes (result : Result ℕ EditFault) (old new : Vec TreeNode) (count : ℕ) (Cause : ℕ → EditFault → Type 0) : Type 0 where
  pub number : IfOk result (λ id. id ≡ vec_len old)
  pub grown : OnOk result (vec_len new ≡ vec_len old + count)
  pub err : OnErr result (new.items ≡ old.items)
  pub cause : IfErr result (Cause (vec_len old))
