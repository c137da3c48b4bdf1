use Rattle.std.proofs.Common.{◌≡◌, ℕ, List, ◌++◌, length}
use Rattle.std.specs.Io.KnownBytes.{Appends}
use Rattle.dom_links.specs.Forest.{forest_of}
use Rattle.dom_markup.specs.EdgeTexts.{edges_text}
use Rattle.dom_markup.proofs.serializing.edges.put_edges.Given as goal

abbrev pub invariant-loop-escaper : goal.invariant-loop-escaper
invariant-loop-escaper g l = record {
  front : List ℕ;
  whole : front ++ edges_text (forest_of l.nodes) l.edges ≡ edges_text (forest_of l.nodes) l.fn.edges;
  written : Appends (g.P.PutText.written l.fn.w) (g.P.PutText.written l.w) front;
}

abbrev pub decreases-loop-escaper : goal.decreases-loop-escaper
decreases-loop-escaper g l = length l.edges
