-- Setting the text of a node.
use Rattle.std.specs.Prelude.{ℕ, ◌≡◌, ◌≤◌, ◌⊎◌, Bool, true, false, List, [], ◌∷◌, length, slice_get, if◌then◌else◌}
use Rattle.std.specs.Option.{option_map_or}
use Rattle.dom_nodes.specs.declared.fault.EditFault.{EditFault}
use Rattle.dom_nodes.specs.declared.fault.EditFault.TheVariants.{TooManyNodes, Memory}
use Rattle.dom_nodes.specs.declared.node_data.NodeData.{NodeData}
use Rattle.dom_nodes.specs.declared.node_data.NodeData.TheVariants.{Text}
use Rattle.dom_nodes.specs.Kinds.{is_text}
use Rattle.dom_links.specs.Contents.{with_content}
use Rattle.dom_links.specs.Forest.{Forest, children_of}
use Rattle.dom_links.specs.Growth.{with_node}
use Rattle.dom_links.specs.ListMoves.{element_at}
use Rattle.dom_links.specs.Moves.{detach, end_of, moved_to}

-- A text node with other contents. A node that is no text is unchanged.
abbrev pub with_text_data : List ℕ → NodeData → NodeData
with_text_data text (Text contents) = Text text
with_text_data text content = content

-- Whether node n is a text.
abbrev pub is_text_at : Forest → ℕ → Bool
is_text_at forest n = option_map_or is_text (slice_get forest.content n) false

-- The forest with the children of x detached, and a detached node as its only child.
abbrev pub with_only_child : ℕ → ℕ → Forest → Forest
with_only_child x child forest = moved_to (child ∷ []) (end_of x) (detach (children_of forest x) forest)

-- The forest with the text of x set: an element gets a new text node in place of its children, a
-- text gets new contents, any other node is unchanged.
abbrev pub with_text_content : ℕ → List ℕ → Forest → Forest
with_text_content x text forest =
    if element_at forest x then with_only_child x (length forest.content) (with_node (Text text) forest)
    else with_content x (with_text_data text) forest

-- When setting the text may fail: no id is left for the text of an element, or memory is refused
-- for an element or a text.
abbrev pub SetTextCause : ℕ → Forest → EditFault → Type 0
SetTextCause x forest TooManyNodes = (element_at forest x ≡ true) × (4294967295 ≤ length forest.content)
SetTextCause x forest Memory = (element_at forest x ≡ true) ⊎ (is_text_at forest x ≡ true)
SetTextCause x forest _ = ⊥
