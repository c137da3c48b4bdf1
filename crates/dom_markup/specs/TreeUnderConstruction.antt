-- A tree under construction, and elements whose attributes are stored later.
use Rattle.std.specs.Prelude.{◌≡◌, ◌<◌, ◌≤◌, ◌-◌, ℕ, List, None, true, false, Result, MatchResult, length, take, drop}
use Rattle.std.specs.List.{All, fold}
use Rattle.dom_nodes.specs.Changes.{with_attrs, with_missing}
use Rattle.dom_nodes.specs.declared.fault.MarkupFaultKind.{MarkupFaultKind}
use Rattle.dom_nodes.specs.declared.name.Attr.{Attr}
use Rattle.dom_nodes.specs.declared.name.NameParts.{NameParts}
use Rattle.dom_nodes.specs.declared.node_data.NodeData.{NodeData}
use Rattle.dom_nodes.specs.declared.node_data.NodeData.TheVariants.{Element}
use Rattle.dom_links.specs.Contents.{with_content}
use Rattle.dom_links.specs.Forest.{Forest}
use Rattle.dom_links.specs.Sound.{children_allowed_at}
use Rattle.dom_markup.specs.Limits.{LacksNumbers}
use Rattle.dom_markup.specs.declared.document.growing.PendingText.{PendingText}

-- an element without template contents
abbrev pub plain_element : NameParts → List Attr → NodeData
plain_element name attrs = Element (record { name = name; attrs = attrs; template_contents = None; mathml_annotation_xml_integration_point = false })

-- the part of the shared list that becomes this element's attributes
abbrev pub part_of : List Attr → PendingText → List Attr
part_of attrs w = take (w.to - w.from) (drop w.from attrs)

-- the forest in which each of these elements has the attributes that are still to be stored
abbrev pub with_lists : List Attr → List PendingText → Forest → Forest
with_lists attrs ws forest = fold (λ forest w. with_content w.number (with_attrs (with_missing (part_of attrs w))) forest) forest ws

-- the element is one of the nodes, and its range lies within the shared list of attributes
abbrev pub IsKnown : (nodes attrs : ℕ) → PendingText → Type 0
IsKnown nodes attrs w = (w.number < nodes) × (w.from ≤ w.to) × (w.to ≤ attrs)

-- `IsKnown` for each element of the list
abbrev pub AreKnown : (nodes attrs : ℕ) → List PendingText → Type 0
AreKnown nodes attrs ws = All (IsKnown nodes attrs) ws

-- a node can be made as a child of `t`, unless a limit is met
pub record MayGrowAt (forest : Forest) (t : ℕ) : Type 0 where
  pub known : t < length forest.content
  pub open_here : children_allowed_at forest t ≡ true

-- The forest is now `grown`, and the call returns the id of the node that gets the new node's children. An error reports a limit.
abbrev pub GrowsTo : Result ℕ MarkupFaultKind → Forest → ℕ → Forest → Type 0
GrowsTo result new place grown = MatchResult result (λ number. (number ≡ place) × (new ≡ grown)) (λ kind. LacksNumbers place kind)
