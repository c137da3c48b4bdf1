-- Text nodes whose contents are stored later, when many are copied into one block.
use Rattle.std.specs.Prelude.{◌<◌, ℕ, List}
use Rattle.std.specs.List.{All, flat_map, fold}
use Rattle.dom_nodes.specs.Updates.{edit_of, with_edit}
use Rattle.dom_nodes.specs.declared.node_data.NodeData.{NodeData}
use Rattle.dom_links.specs.Contents.{with_content}
use Rattle.dom_links.specs.Forest.{Forest}
use Rattle.dom_markup.specs.declared.document.late_texts.Late.{Late}

-- a text or comment with these contents; a node of another kind is unchanged
abbrev pub with_contents : List ℕ → NodeData → NodeData
with_contents text node = with_edit (record (edit_of node) { contents = text }) node

-- the forest in which each of these text nodes has the contents that are still to be stored
abbrev pub with_texts : List Late → Forest → Forest
with_texts ts forest = fold (λ forest t. with_content t.number (with_contents t.text.now) forest) forest ts

-- each of these nodes has an id below `nodes`
abbrev pub AreAmong : ℕ → List Late → Type 0
AreAmong nodes ts = All (λ t. t.number < nodes) ts

-- the contents, concatenated
abbrev pub joined : List Late → List ℕ
joined ts = flat_map (λ t. t.text.now) ts
