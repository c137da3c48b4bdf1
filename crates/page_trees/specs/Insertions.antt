-- The forests that the edits of tree construction make.
use Rattle.std.specs.Prelude.{ℕ, ◌≡◌, false, List, [], ◌∷◌, None, Some, length, map, slice_get, string_bytes}
use Rattle.std.specs.Option.{option_map_or}
use Rattle.dom_nodes.specs.declared.name.Attr.{Attr}
use Rattle.dom_nodes.specs.declared.name.NameParts.{NameParts}
use Rattle.dom_nodes.specs.declared.node_data.NodeData.{NodeData}
use Rattle.dom_nodes.specs.declared.node_data.NodeData.TheVariants.{Element}
use Rattle.dom_links.specs.Forest.{Forest}
use Rattle.dom_links.specs.Growth.{with_node}
use Rattle.dom_links.specs.ListMoves.{reparented}
use Rattle.dom_links.specs.Moves.{moved_to}
use Rattle.dom_links.specs.declared.gap.InsertionPoint.{InsertionPoint}
use Rattle.dom_links.specs.declared.gap.InsertionPoint.TheVariants.{EndOf}
use Rattle.dom_trees.specs.TreeUnderConstruction.{flagged_element, with_new_element}
use Rattle.dom_trees.specs.declared.tree.growing.ElementFlags.{ElementFlags}
use Rattle.page_tokens.specs.declared.token.Tag.{Tag}
use Rattle.page_trees.specs.Foreign.{attr_in, element_name_in, is_html_annotation}
use Rattle.page_trees.specs.Placing.{is_template_named}
use Rattle.page_trees.specs.declared.name.Name.{Name}
use Rattle.page_trees.specs.declared.stack.ElementNamespace.{ElementNamespace}
use Rattle.page_trees.specs.declared.stack.Open.{Open}

-- a node with the next number was made, and this is the forest then
pub record MakesNext (id : ℕ) (old new after : Forest) : Type 0 where
  pub number : id ≡ length old.content
  pub forest : new ≡ after

-- ---- the element of a tag

abbrev pub flags_for : ElementNamespace → Name → Tag → ElementFlags
flags_for ns name tag = record {
  template = is_template_named ns name;
  mathml_annotation_xml_integration_point = is_html_annotation ns name tag.attrs.items;
}

-- the element that a tag makes, as the next node
abbrev pub element_for_tag : ElementNamespace → Name → Tag → Forest → NodeData
element_for_tag ns name tag forest =
    flagged_element (element_name_in ns name (string_bytes tag.name)) (map (attr_in ns) tag.attrs.items) (flags_for ns name tag) forest

-- the element as an open element with this id, before its name gets a number
abbrev pub open_for_tag : ElementNamespace → Name → Tag → ℕ → Open
open_for_tag ns name tag id =
    record { id = id; ns = ns; name = name; number = 0; holds_html = is_html_annotation ns name tag.attrs.items }

-- a new element, which is put at an insertion point
abbrev pub with_element_at : InsertionPoint → NameParts → List Attr → ElementFlags → Forest → Forest
with_element_at gap name attrs flags forest = moved_to (length forest.content ∷ []) gap (with_new_element name attrs flags forest)

abbrev pub with_tag_at : InsertionPoint → ElementNamespace → Name → Tag → Forest → Forest
with_tag_at gap ns name tag forest =
    with_element_at gap (element_name_in ns name (string_bytes tag.name)) (map (attr_in ns) tag.attrs.items) (flags_for ns name tag) forest

-- ---- the copy of an element

-- the same name and attributes, and no template contents
abbrev pub copied : NodeData → NodeData
copied (Element element) = Element (record {
  name = element.name;
  attrs = element.attrs;
  template_contents = None;
  mathml_annotation_xml_integration_point = false;
})
copied content = content

-- a detached copy of node n; an unknown node has none
abbrev pub with_copy : ℕ → Forest → Forest
with_copy n forest = option_map_or (λ content. with_node (copied content) forest) (slice_get forest.content n) forest

abbrev pub with_copy_at : InsertionPoint → ℕ → Forest → Forest
with_copy_at gap n forest = moved_to (length forest.content ∷ []) gap (with_copy n forest)

-- a copy of node n, into which x was moved
abbrev pub with_copy_around : ℕ → ℕ → Forest → Forest
with_copy_around n x forest = moved_to (x ∷ []) (EndOf (length forest.content)) (with_copy n forest)

-- a copy of node n as the only child of p, with the children that p had
abbrev pub with_copy_inside : ℕ → ℕ → Forest → Forest
with_copy_inside n p forest =
    moved_to (length forest.content ∷ []) (EndOf p) (reparented p (Some (length forest.content)) (with_copy n forest))
