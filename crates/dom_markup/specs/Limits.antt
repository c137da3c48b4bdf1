-- Nodes that can always be made, unless there are too many or memory runs out; and these two limits as faults.
use Rattle.std.specs.Prelude.{ℕ, ◌≡◌, ◌≤◌, false, None}
use Rattle.dom_nodes.specs.Kinds.{contents_named, is_top}
use Rattle.dom_nodes.specs.declared.fault.EditFault.{EditFault}
use Rattle.dom_nodes.specs.declared.fault.EditFault.TheVariants as edit_faults
use Rattle.dom_nodes.specs.declared.fault.MarkupFaultKind.{MarkupFaultKind}
use Rattle.dom_nodes.specs.declared.fault.MarkupFaultKind.TheVariants.{TooManyNodes, Memory}
use Rattle.dom_nodes.specs.declared.node_data.NodeData.{NodeData}

-- the node is neither a document nor a fragment, and not a template with contents
pub record IsPlainData (content : NodeData) : Type 0 where
  pub no_top : is_top content ≡ false
  pub no_contents : contents_named content ≡ None

-- the edit failed because of a limit
abbrev pub IsLimit : EditFault → Type 0
IsLimit edit_faults.TooManyNodes = Unit {0}
IsLimit edit_faults.Memory = Unit {0}
IsLimit _ = ⊥

-- the fault of a parser for this limit
abbrev pub limit_kind : EditFault → MarkupFaultKind
limit_kind edit_faults.TooManyNodes = TooManyNodes
limit_kind _ = Memory

-- Why a node could not be added to `count` nodes: all node ids are used, or memory ran out.
abbrev pub LacksNumbers : ℕ → MarkupFaultKind → Type 0
LacksNumbers count TooManyNodes = 4294967295 ≤ count
LacksNumbers count Memory = Unit {0}
LacksNumbers count _ = ⊥
