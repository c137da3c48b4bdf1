-- The nodes that are related to a node.
use Rattle.std.specs.Prelude.{ℕ, List, None}
use Rattle.dom_links.specs.Forest.{Forest}
use Rattle.dom_selection.specs.Selections.{parent_node, child_elements, elements_above, element_after, element_before}
use Rattle.dom_selection.specs.declared.selection.gathering.Relation.{Relation}
use Rattle.dom_selection.specs.declared.selection.gathering.Relation.TheVariants.{Parent, Children, Ancestors, Above, Next, Prev}

-- The nodes that are related to node n in this way.
abbrev pub related_by : Relation → Forest → ℕ → List ℕ
related_by Parent forest n = parent_node forest n
related_by Children forest n = child_elements forest n
related_by (Ancestors most) forest n = elements_above most forest n
related_by Above forest n = elements_above None forest n
related_by Next forest n = element_after forest n
related_by Prev forest n = element_before forest n
