-- The index of a node among its siblings, and the indexes that `An+B` selects (Selectors Level 4).
use Rattle.std.specs.Prelude.{ℕ, ◌≡◌, ◌<◌, ◌+◌, ◌*◌, Bool, true, false, List, slice_get, slice_index_or, count_by, if◌then◌else◌}
use Rattle.std.specs.Option.{option_map_or}
use Rattle.dom_nodes.specs.declared.node_data.NodeData.{NodeData}
use Rattle.dom_nodes.specs.declared.node_data.NodeData.TheVariants.{Element}
use Rattle.dom_nodes.specs.Kinds.{is_element}
use Rattle.dom_nodes.specs.Names.{same_name}
use Rattle.dom_nodes.specs.declared.indexes.IndexKind.{IndexKind}
use Rattle.dom_nodes.specs.declared.indexes.IndexKind.TheVariants.{Child, LastChild, OfType, LastOfType}
use Rattle.dom_nodes.specs.declared.indexes.Nth.{Nth}
use Rattle.dom_nodes.specs.declared.indexes.Signed.{Signed}
use Rattle.dom_links.specs.Forest.{Forest}
use Rattle.dom_links.specs.ListMoves.{element_at}
use Rattle.dom_links.specs.Walk.{later}

-- Whether both are elements of the same name: prefix, namespace and local name.
abbrev pub of_one_type : NodeData → NodeData → Bool
of_one_type (Element element) (Element other) = same_name element.name other.name
of_one_type _ _ = false

-- Whether both nodes are elements of the same name.
abbrev pub same_type : Forest → ℕ → ℕ → Bool
same_type forest n m = option_map_or (λ node. option_map_or (of_one_type node) (slice_get forest.content m) false) (slice_get forest.content n) false

-- Whether the index is counted from the first sibling; otherwise from the last.
abbrev pub is_from_first : IndexKind → Bool
is_from_first Child = true
is_from_first LastChild = false
is_from_first OfType = true
is_from_first LastOfType = false

-- Whether a sibling with the data `other` is counted for the index of a node with the data `node`.
abbrev pub counts_sibling : IndexKind → NodeData → NodeData → Bool
counts_sibling Child node other = is_element other
counts_sibling LastChild node other = is_element other
counts_sibling OfType node other = of_one_type node other
counts_sibling LastOfType node other = of_one_type node other

-- Whether the sibling m is counted for the index of node n: as any element, or as an element of the
-- same name.
abbrev pub counts : IndexKind → Forest → ℕ → ℕ → Bool
counts Child forest n m = element_at forest m
counts LastChild forest n m = element_at forest m
counts OfType forest n m = same_type forest n m
counts LastOfType forest n m = same_type forest n m

-- The index of node n, from 1: one more than the number of siblings before it (or after it) that
-- are counted.
abbrev pub index_at : IndexKind → Forest → ℕ → ℕ
index_at kind forest n = 1 + count_by (counts kind forest n) (later forest (is_from_first kind) n)

-- The index that is known for a node; 0 if none is.
abbrev pub index_known : List ℕ → ℕ → ℕ
index_known known n = slice_index_or known n 0

-- Every known index is right.
abbrev pub AreIndexes : IndexKind → Forest → List ℕ → Type 0
AreIndexes kind forest known = (n : ℕ) → 0 < index_known known n → index_known known n ≡ index_at kind forest n

-- The number if it is above zero, otherwise 0.
abbrev pub above_zero : Signed → ℕ
above_zero number = if number.is_negative then 0 else number.magnitude

-- The distance of the number from zero if it is below zero, otherwise 0.
abbrev pub below_zero : Signed → ℕ
below_zero number = if number.is_negative then number.magnitude else 0

-- a * k + b = index for some integer k from 0 on. Negative terms are moved to the other side, since
-- all numbers here are natural.
abbrev pub IsNth : Nth → ℕ → Type 0
IsNth nth index = (k : ℕ) × (above_zero nth.a * k + above_zero nth.b ≡ index + below_zero nth.a * k + below_zero nth.b)
