use Rattle.std.proofs.Common.{length}
use Rattle.std.specs.Prelude.{not}
use Rattle.dom_links.specs.Indexes.{AreIndexes}
use Rattle.dom_links.specs.Walk.{row_on}
use Rattle.dom_select.specs.TypeCounts.{type_kind}
use Rattle.dom_select.proofs.types.TypeIndexLemmas.{AreCounted}
use Rattle.dom_select.proofs.matcher.type_indexes.note_line.Given as goal

-- what was passed is counted, and what is noted is right
abbrev pub invariant-loop-next : goal.invariant-loop-next
invariant-loop-next l = record {
  counted : AreCounted l.tree l.from_first l.counts l.next;
  right : AreIndexes (type_kind l.from_first) l.tree l.known;
}

abbrev pub decreases-loop-next : goal.decreases-loop-next
decreases-loop-next l = length (row_on l.tree (not l.from_first) l.next)
