use Rattle.std.proofs.Common.{[], length, string_bytes}
use Rattle.dom_links.specs.Forest.{forest_of}
use Rattle.dom_md.specs.EdgeEvents.{IsPartFolded, edges_events}
use Rattle.dom_md.proofs.formatting.edges.format_edges.Given as goal

abbrev pub invariant-loop-text : goal.invariant-loop-text
invariant-loop-text l = IsPartFolded [] (string_bytes l.text) (edges_events (forest_of l.nodes) l.fn.edges) (edges_events (forest_of l.nodes) l.edges)

abbrev pub decreases-loop-text : goal.decreases-loop-text
decreases-loop-text l = length l.edges
