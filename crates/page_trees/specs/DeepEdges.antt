-- The search for an element that nests too deep, along the steps of a traversal.
use Rattle.std.specs.Prelude.{◌+◌, ◌-◌, ◌||◌, Bool, false, List, [], ◌∷◌, ℕ, if◌then◌else◌, not}
use Rattle.dom_nodes.specs.Kinds.{is_fragment}
use Rattle.dom_nodes.specs.declared.node_data.NodeData.{NodeData}
use Rattle.dom_nodes.specs.declared.node_data.NodeData.TheVariants.{Element, Fragment}
use Rattle.dom_links.specs.Edges.{Descending}
use Rattle.dom_links.specs.Forest.{Forest}
use Rattle.dom_links.specs.ListMoves.{element_at}
use Rattle.dom_links.specs.declared.edges.Edge.{Edge}
use Rattle.dom_links.specs.declared.edges.Edge.TheVariants.{Close, Open}
use Rattle.dom_links.specs.declared.edges.Entered.{Entered}
use Rattle.dom_links.specs.declared.edges.Entered.TheVariants.{All, Children, Nothing}
use Rattle.page_trees.specs.Depth.{may_nest}

abbrev pub entered : NodeData → Entered
entered (Element element) = All
entered Fragment = Children
entered _ = Nothing

-- the traversal of all nodes, template contents included, which marks those that stand directly in a fragment
abbrev pub all_nodes : Descending
all_nodes = record { inside = entered; mark = is_fragment }

-- an element nests too deep; the traversal is inside so many
abbrev pub goes_deep : Forest → (most above : ℕ) → List Edge → Bool
goes_deep forest most above [] = false
goes_deep forest most above (Open n spare ∷ es) =
    if element_at forest n then not (may_nest most above spare) || goes_deep forest most (above + 1) es else goes_deep forest most above es
goes_deep forest most above (Close n ∷ es) =
    if element_at forest n then goes_deep forest most (above - 1) es else goes_deep forest most above es
