-- What the script lines that edit do to the tree.
use Rattle.std.specs.Prelude.{◌≢◌, ℕ, List, [], ◌∷◌, Result, IfErr, OnOk}
use Rattle.dom_nodes.specs.Changes.{on_element, renamed, with_attr, with_attrs, without_name}
use Rattle.dom_nodes.specs.Classes.{with_classes, without_classes}
use Rattle.dom_nodes.specs.declared.fault.EditFault.{EditFault}
use Rattle.dom_nodes.specs.declared.fault.EditFault.TheVariants.{TooManyNodes, Memory}
use Rattle.dom_nodes.specs.declared.node_data.NodeData.{NodeData}
use Rattle.dom_links.specs.Contents.{with_content}
use Rattle.dom_links.specs.Forest.{Forest}
use Rattle.dom_trees.specs.Edits.{IsKnown, TreeEdit, normalizing, removing, setting_text, unwrapping}
use Rattle.dom_trees.specs.Refusals.{JoinCause}
use Rattle.dom_edits.specs.Edits.{Each, Stops, putting_known, stripping}
use Rattle.dom_script.specs.declared.script.edit_line.EditLine.{EditLine}
use Rattle.dom_script.specs.declared.script.edit_line.EditLine.TheVariants.{SetAttr, RemoveAttr, Rename, AddClass, RemoveClass, SetText, Strip, Put, Remove, Unwrap, Normalize}
use Rattle.dom_script.specs.EditLine.{names_in}

-- Changing the data of x. It may fail only if x is unknown or memory is refused.
abbrev pub rewriting : (NodeData → NodeData) → ℕ → TreeEdit
rewriting change x = record { after = with_content x change; Allowed = IsKnown x; Cause = JoinCause x }

-- The edit that a line makes at a node.
abbrev pub line_edit : EditLine → ℕ → TreeEdit
line_edit (SetAttr name value) n = rewriting (with_attrs (with_attr name value)) n
line_edit (RemoveAttr name) n = rewriting (with_attrs (without_name name)) n
line_edit (Rename name) n = rewriting (on_element (renamed name)) n
line_edit (AddClass classes) n = rewriting (with_attrs (with_classes classes)) n
line_edit (RemoveClass classes) n = rewriting (with_attrs (without_classes classes)) n
line_edit (SetText text) n = setting_text n text
line_edit (Strip names) n = stripping (names_in names) n
line_edit (Put place read) n = putting_known place read n
line_edit Remove n = removing n
line_edit Unwrap n = unwrapping n
line_edit Normalize n = normalizing n

-- The nodes at which a line makes its edit: each selected node, or the root (id 0) for `normalize`.
abbrev pub targets : EditLine → List ℕ → List ℕ
targets Normalize selection = 0 ∷ []
targets _ selection = selection

-- The edit fails with this fault at one of the nodes.
abbrev pub FailsAtOne : (ℕ → TreeEdit) → List ℕ → Forest → EditFault → Type 0
FailsAtOne edit nodes forest fault =
    (done : ℕ) × (after : Forest) × Stops edit nodes forest after (record { done = done; fault = fault })

-- The result of an edit line: the edit was made at each of the nodes, or it failed at one of them.
-- When memory is refused, nothing more is said.
pub record EditsOrFails (result : Result Unit EditFault) (old new : Forest) (nodes : List ℕ) (edit : ℕ → TreeEdit) : Type 0 where
  pub ok : OnOk result (Each edit nodes old new)
  pub err : IfErr result (λ fault. fault ≢ Memory → FailsAtOne edit nodes old fault)

-- The fault comes from the edit itself, and not from a lack of ids or memory.
abbrev pub IsRefusal : EditFault → Type 0
IsRefusal TooManyNodes = ⊥
IsRefusal Memory = ⊥
IsRefusal _ = Unit {0}
