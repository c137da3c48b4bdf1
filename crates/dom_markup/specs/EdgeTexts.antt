-- What a serializer writes when it enters a node and when it leaves it.
use Rattle.std.specs.Prelude.{ℕ, List, [], slice_get, if◌then◌else◌}
use Rattle.std.specs.List.{flat_map}
use Rattle.std.specs.Option.{option_map_or}
use Rattle.dom_nodes.specs.declared.node_data.NodeData.{NodeData}
use Rattle.dom_nodes.specs.declared.node_data.NodeData.TheVariants.{Document, Fragment, Element}
use Rattle.dom_links.specs.Forest.{Forest}
use Rattle.dom_markup.specs.Html.{closing, is_void, keeps_texts, opening}
use Rattle.dom_links.specs.Edges.{Descending}
use Rattle.dom_links.specs.declared.edges.Edge.{Edge}
use Rattle.dom_links.specs.declared.edges.Edge.TheVariants.{Open, Close}
use Rattle.dom_links.specs.declared.edges.Entered.{Entered}
use Rattle.dom_links.specs.declared.edges.Entered.TheVariants.{Nothing, Children, All}

-- What is written inside a node: for an element that isn't void, its template contents and children; for a root, its children.
abbrev pub entered : NodeData → Entered
entered Document = Children
entered Fragment = Children
entered (Element e) = if is_void e then Nothing else All
entered _ = Nothing

-- a text is marked if its parent's texts are written without escaping
abbrev pub written_nodes : Descending
written_nodes = record { inside = entered; mark = keeps_texts }

abbrev pub edge_text : Forest → Edge → List ℕ
edge_text forest (Open n raw) = option_map_or (λ content. opening content raw) (slice_get forest.content n) []
edge_text forest (Close n) = option_map_or closing (slice_get forest.content n) []

abbrev pub edges_text : Forest → List Edge → List ℕ
edges_text forest es = flat_map (edge_text forest) es
