-- Adding text at an insertion point: the text node before it grows, or a new text node is inserted.
use Rattle.std.specs.Prelude.{ℕ, ◌≡◌, ◌≤◌, List, [], ◌∷◌, ◌++◌, Option, Some, None, length, option_and_then, if◌then◌else◌}
use Rattle.dom_nodes.specs.declared.fault.EditFault.{EditFault}
use Rattle.dom_nodes.specs.declared.fault.EditFault.TheVariants.{TooManyNodes, Memory}
use Rattle.dom_nodes.specs.declared.node_data.NodeData.{NodeData}
use Rattle.dom_nodes.specs.declared.node_data.NodeData.TheVariants.{Text}
use Rattle.dom_links.specs.Contents.{with_content}
use Rattle.dom_links.specs.Forest.{Forest}
use Rattle.dom_links.specs.Growth.{with_node}
use Rattle.dom_links.specs.Moves.{InsertionPoint, before_gap, moved_to}
use Rattle.dom_links.specs.SetTexts.{is_text_at}

-- A text node with more text appended. A node that is no text is unchanged.
abbrev pub lengthened : List ℕ → NodeData → NodeData
lengthened more (Text contents) = Text (contents ++ more)
lengthened more content = content

-- The text node immediately before an insertion point, if there is one.
abbrev pub text_before : InsertionPoint → Forest → Option ℕ
text_before gap forest = option_and_then (λ n. if is_text_at forest n then Some n else None) (before_gap gap forest)

-- The forest with a new node, which is put at the insertion point.
abbrev pub with_node_at : InsertionPoint → NodeData → Forest → Forest
with_node_at gap content forest = moved_to (length forest.content ∷ []) gap (with_node content forest)

-- The forest with more text appended to a text node, or, without one, with a new text node at the
-- insertion point.
abbrev pub with_more : Option ℕ → InsertionPoint → List ℕ → Forest → Forest
with_more (Some n) gap more forest = with_content n (lengthened more) forest
with_more None gap more forest = with_node_at gap (Text more) forest

-- The forest with text added at an insertion point: the text node immediately before it grows; if
-- there is none, a new text node is put there.
abbrev pub with_text_at : InsertionPoint → List ℕ → Forest → Forest
with_text_at gap text forest = with_more (text_before gap forest) gap text forest

-- When an error may come: `TooManyNodes` if a new text node is needed and no id is left; `Memory`
-- at any time.
abbrev pub TextCause : InsertionPoint → Forest → EditFault → Type 0
TextCause gap forest TooManyNodes = (text_before gap forest ≡ None) × (4294967295 ≤ length forest.content)
TextCause gap forest Memory = Unit {0}
TextCause gap forest _ = ⊥
