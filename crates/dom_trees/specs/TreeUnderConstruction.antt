-- The edits with which a parser builds a tree.
use Rattle.std.specs.Prelude.{ℕ, ◌≡◌, ◌≤◌, ◌+◌, Bool, true, false, List, None, Some, length, if◌then◌else◌}
use Rattle.dom_nodes.specs.Changes.{with_attrs, with_missing}
use Rattle.dom_nodes.specs.declared.fault.EditFault.{EditFault}
use Rattle.dom_nodes.specs.declared.fault.EditFault.TheVariants.{UnknownNode, NoChildrenHere, RootOrFragment, Memory}
use Rattle.dom_nodes.specs.declared.name.Attr.{Attr}
use Rattle.dom_nodes.specs.declared.name.NameParts.{NameParts}
use Rattle.dom_nodes.specs.declared.node_data.NodeData.{NodeData}
use Rattle.dom_nodes.specs.declared.node_data.NodeData.TheVariants.{Element}
use Rattle.dom_links.specs.AddedTexts.{TextCause, with_text_at}
use Rattle.dom_links.specs.Contents.{with_content}
use Rattle.dom_links.specs.Forest.{Forest}
use Rattle.dom_links.specs.Growth.{NoRoom, NoRoomForTwo, with_lone_template, with_node}
use Rattle.dom_links.specs.ListMoves.{element_at}
use Rattle.dom_links.specs.Sound.{IsOpenGap, target}
use Rattle.dom_links.specs.declared.gap.InsertionPoint.{InsertionPoint}
use Rattle.dom_trees.specs.Edits.{IsKnown, TreeEdit}
use Rattle.dom_trees.specs.Refusals.{LacksChildren, LacksSiblings}
use Rattle.dom_trees.specs.declared.tree.growing.ElementFlags.{ElementFlags}

-- The element with this name, these attributes and flags, made as the next node. With the flag
-- `template`, its template contents are the node after it.
abbrev pub flagged_element : NameParts → List Attr → ElementFlags → Forest → NodeData
flagged_element name attrs flags forest = Element (record {
  name = name;
  attrs = attrs;
  template_contents = if flags.template then Some (length forest.content + 1) else None;
  mathml_annotation_xml_integration_point = flags.mathml_annotation_xml_integration_point;
})

-- The forest with that element, and, with the flag `template`, a fragment after it. Both are
-- detached.
abbrev pub with_new_element : NameParts → List Attr → ElementFlags → Forest → Forest
with_new_element name attrs flags forest =
    if flags.template then with_lone_template (flagged_element name attrs flags forest) forest
    else with_node (flagged_element name attrs flags forest) forest

-- When making an element may fail. With template contents it takes two ids.
abbrev pub ElementCause : (template : Bool) → ℕ → EditFault → Type 0
ElementCause true count fault = NoRoomForTwo count fault
ElementCause false count fault = NoRoom count fault

-- Making a detached element.
abbrev pub making_element : NameParts → List Attr → ElementFlags → TreeEdit
making_element name attrs flags = record {
  after = with_new_element name attrs flags;
  Allowed = λ forest. Unit {0};
  Cause = λ forest fault. ElementCause flags.template (length forest.content) fault;
}

-- When adding text at an insertion point may fail.
abbrev pub AddTextCause : InsertionPoint → Forest → EditFault → Type 0
AddTextCause gap forest UnknownNode = length forest.content ≤ target gap
AddTextCause gap forest NoChildrenHere = LacksChildren forest gap
AddTextCause gap forest RootOrFragment = LacksSiblings forest gap
AddTextCause gap forest fault = TextCause gap forest fault

-- Adding text at an insertion point: the text node immediately before it grows; if there is none, a
-- new text node is made there.
abbrev pub adding_text : InsertionPoint → List ℕ → TreeEdit
adding_text gap text = record { after = with_text_at gap text; Allowed = IsOpenGap gap; Cause = AddTextCause gap }

-- When adding attributes to x may fail.
abbrev pub AttrsCause : ℕ → Forest → EditFault → Type 0
AttrsCause x forest UnknownNode = length forest.content ≤ x
AttrsCause x forest Memory = element_at forest x ≡ true
AttrsCause x forest _ = ⊥

-- Appending the attributes whose names x doesn't have.
abbrev pub adding_attrs : ℕ → List Attr → TreeEdit
adding_attrs x attrs = record {
  after = with_content x (with_attrs (with_missing attrs));
  Allowed = IsKnown x;
  Cause = AttrsCause x;
}
