-- A change of an element as a value (`Change` of node_data/changing.rt): what it does, and when it
-- may allocate.
use Rattle.std.specs.Prelude.{◌≡◌, Bool, true, false, not, ◌&&◌, List, [], codes, is_some, map, Result, IsOk, OnOk, OnErr}
use Rattle.dom_nodes.specs.declared.fault.OutOfMemory.{OutOfMemory}
use Rattle.dom_nodes.specs.declared.name.Attr.{Attr}
use Rattle.dom_nodes.specs.declared.node_data.NodeData.{NodeData}
use Rattle.dom_nodes.specs.declared.node_data.changing.Change.{Change}
use Rattle.dom_nodes.specs.declared.node_data.changing.Change.TheVariants.{SetAttr, RemoveAttr, RemoveAttrs, RetainAttrs, RemoveAllAttrs, Rename, AddClass, RemoveClass}
use Rattle.dom_nodes.specs.Attrs.{attr_of, attrs_in}
use Rattle.dom_nodes.specs.Kinds.{is_element}
use Rattle.dom_nodes.specs.Changes.{on_element, only_names, renamed, with_attr, with_attrs, without_name, without_names}
use Rattle.dom_nodes.specs.Classes.{is_blank, with_classes, without_classes}

-- The node after the change. A node that is no element is unchanged.
abbrev pub changed : Change → NodeData → NodeData
changed (SetAttr name value) node = with_attrs (with_attr name.now value.now) node
changed (RemoveAttr name) node = with_attrs (without_name name.now) node
changed (RemoveAttrs names) node = with_attrs (without_names (map (λ name. name.now) names.now)) node
changed (RetainAttrs names) node = with_attrs (only_names (map (λ name. name.now) names.now)) node
changed RemoveAllAttrs node = with_attrs (λ _. []) node
changed (Rename name) node = on_element (renamed name.now) node
changed (AddClass classes) node = with_attrs (with_classes classes.now) node
changed (RemoveClass classes) node = with_attrs (without_classes classes.now) node

-- Whether the change may allocate memory. Removals of attributes don't, and neither do blank lists
-- of classes.
abbrev pub may_allocate : Change → Bool
may_allocate (AddClass classes) = not (is_blank classes.now)
may_allocate (RemoveClass classes) = not (is_blank classes.now)
may_allocate (RemoveAttr name) = false
may_allocate (RemoveAttrs names) = false
may_allocate (RetainAttrs names) = false
may_allocate RemoveAllAttrs = false
may_allocate _ = true

-- Whether there is something to change. Classes can be removed only when there is an attribute
-- `class`.
abbrev pub has_target : Change → List Attr → Bool
has_target (RemoveClass classes) attrs = is_some (attr_of attrs (codes "class"))
has_target _ attrs = true

-- Whether the change may allocate memory at this node.
abbrev pub may_allocate_of : Change → NodeData → Bool
may_allocate_of change node = is_element node && has_target change (attrs_in node) && may_allocate change

-- A call that changes a value and may run out of memory. On success the new value is `after`; on
-- `OutOfMemory` it is the old value. If `asking` is false, the call succeeds.
pub record Tried {A : Type 0} (result : Result Unit OutOfMemory) (old new after : A) (asking : Bool) : Type 0 where
  pub ok : OnOk result (new ≡ after)
  pub err : OnErr result (new ≡ old)
  pub sure : asking ≡ false → IsOk result
