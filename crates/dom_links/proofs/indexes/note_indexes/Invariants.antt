use Rattle.std.proofs.Common.{length}
use Rattle.dom_links.specs.Forest.{forest_of}
use Rattle.dom_links.specs.Indexes.{AreIndexes, is_from_first}
use Rattle.dom_links.specs.Walk.{row_on}
use Rattle.dom_links.proofs.walks.IndexLemmas.{Counting}
use Rattle.dom_links.proofs.indexes.note_indexes.Given as goal

-- the siblings so far were counted, and what is noted is right
abbrev pub invariant-loop-next : goal.invariant-loop-next
invariant-loop-next l = record {
  counting : Counting (forest_of l.nodes) l.kind l.fn.id l.next l.passed;
  right : AreIndexes l.kind (forest_of l.nodes) l.known;
}

abbrev pub decreases-loop-next : goal.decreases-loop-next
decreases-loop-next l = length (row_on (forest_of l.nodes) (is_from_first l.kind) l.next)
